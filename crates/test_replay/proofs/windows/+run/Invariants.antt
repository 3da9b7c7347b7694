-- Both parts of a window have fewer events.
use Rattle.test_replay.proofs.windows.+run.Given as goal

abbrev pub decreases-run : goal.decreases-run
decreases-run l = l.n
