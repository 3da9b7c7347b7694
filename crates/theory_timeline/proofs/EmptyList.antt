-- A list without events: it returns 0, the segments that are open at the start, and 0.
-- Assumes nothing.
use Prim.Native.Nat.{ℕ}
use mathlib.Core.Bool.{true}
use mathlib.Core.List.{List, map}
use mathlib.Core.Path.{◌∙◌, ◌≡◌, ap, refl}
use lib.ListN.{length}
use Rattle.theory_graph.specs.Lists.{filter, range, sum}
use Rattle.theory_timeline.proofs.Acceptance.{events_length, segments_length}
use Rattle.theory_timeline.proofs.DemandThree.{replay_done}
use Rattle.theory_timeline.proofs.WindowLaws.{windows_none}
use Rattle.theory_timeline.specs.Events.{SegmentSet}
use Rattle.theory_timeline.specs.Replay.{Lent, Outcome, done, given, open_at_end, queries, replay}
use Rattle.theory_timeline.specs.Windows.{Timeline, Window, asks_at, at_start, kept, open_before, size, small, windows}

none_queries : (g : Timeline) → size g ≡ 0 → queries g ≡ 0
unfolding queries
none_queries g e = ap (λ (n : ℕ). length (filter (asks_at g) (range 0 n))) e

none_open : (g : Timeline) → size g ≡ 0 → open_at_end g ≡ length (filter g.start (range 0 (length g.segments)))
unfolding open_at_end open_before
none_open g e = ap (λ (n : ℕ). length (filter (open_before g n) (range 0 (length g.segments)))) e

none_kept : (g : Timeline) (p : ℕ) → size g ≡ 0 → kept g p ≡ 0
unfolding kept
none_kept g p e = ap (λ (n : ℕ). sum (map (λ w. (small g w).nodes) (windows p n))) e ∙ ap (λ (l : List Window). sum (map (λ w. (small g w).nodes) l)) (windows_none p)

start_of : (l : Lent) → (given l).start ≡ at_start l.start
unfolding given
start_of l = refl

module _ (l : Lent) (p : ℕ) (z : l.t ≡ 0) (a : (replay l p).accepted ≡ true) where
  pub no_events : ((replay l p).queries ≡ 0) × ((replay l p).opened ≡ length (filter (at_start l.start) (range 0 l.m))) × ((replay l p).kept ≡ 0)
  unfolding done
  no_events =
      let (e, c) = replay_done l p a in
      let s : size (given l) ≡ 0 = events_length l p c ∙ z in (
        ap (λ (r : Outcome). r.queries) e ∙ none_queries (given l) s,
        ap (λ (r : Outcome). r.opened) e ∙ none_open (given l) s
            ∙ ap (λ (n : ℕ). length (filter (given l).start (range 0 n))) (segments_length l p c)
            ∙ ap (λ (o : SegmentSet). length (filter o (range 0 l.m))) (start_of l),
        ap (λ (r : Outcome). r.kept) e ∙ none_kept (given l) p s,
      )
