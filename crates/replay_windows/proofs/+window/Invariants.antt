-- The recursion: a window of one event, or a step and a window for each part. The number of events falls.
use Rattle.replay_windows.proofs.+window.Given as goal

abbrev pub decreases-window : goal.decreases-window
decreases-window g l = l.w.events
