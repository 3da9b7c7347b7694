-- Both parts of a window have fewer events.
use Rattle.test_slow_replay.proofs.replay.SlowReplay.+kept.Given as goal

abbrev pub decreases-kept : goal.decreases-kept
decreases-kept l = l.n
