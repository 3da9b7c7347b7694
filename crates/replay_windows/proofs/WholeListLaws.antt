-- A whole list, in either replay: from the events' words to its area, and from its window to all its replies.
-- Assumes nothing.
use Prim.Native.Nat.{◌*◌, ◌+◌, ◌-◌, ◌<◌, ◌≤◌, ℕ}
use mathlib.Core.List.{List}
use mathlib.Core.Path.{◌≡◌, subst, sym}
use lib.ListN.{drop, length, take}
use native.Mathlib.Omega.{arith}
use Rattle.core_reduce.specs.declared.Counts.{Counts}
use Rattle.replay_events.specs.Writing.{EventsWritten, list_of}
use Rattle.replay_start.proofs.ListLaws.{area_in, inside, whole_ready, window_ready}
use Rattle.replay_start.specs.Whole.{WholeMadeOf, WholeReadyBy}
use Rattle.replay_step.specs.Reduction.{Reduces, words_of}
use Rattle.replay_step.specs.declared.Graph.{Graph}
use Rattle.replay_step.specs.declared.Part.{Part}
use Rattle.replay_step.specs.declared.Window.{Window}
use Rattle.theory_timeline.specs.Windows.{Timeline}
use Rattle.replay_windows.specs.Descent.{WindowDone, WindowReady, WritesParts}
use Rattle.replay_windows.specs.List.{ListReadyBy, ListRepliedBy}

module _ {A B : Timeline → Window → List ℕ → Type 0} {words edges window : ℕ} {room : ℕ → ℕ → ℕ → ℕ} {Made : Part → Graph → List ℕ → List ℕ → Counts → Type 0}
    (o : Reduces A B words edges window room Made) {T : Type 0} {Long : ℕ → T → Type 0} {Same : T → T → Type 0} {Wrote : Timeline → ℕ → ℕ → ℕ → T → T → ℕ → Type 0}
    (m : WritesParts B Long Same Wrote) {n p : ℕ} {a b start x y work : List ℕ} {before : T} (q : ListReadyBy words window room Long n p a b start x y before work) where
  abbrev t : ℕ
  t = length x

  abbrev g : Timeline
  g = list_of n a b start x y

  -- the places of the counts of the roads and of the whole list's area
  abbrev counts : ℕ
  counts = 5 * length x + length a

  abbrev area : ℕ
  area = 5 * length x + length a + length a

  -- a list without events
  pub empty_replied : t ≡ 0 → ListRepliedBy Same Wrote g p t before before 0
  empty_replied z =
      let (s, w) = m.nothing g p before in
      record { same = s; replied = subst (λ (k : ℕ). Wrote g p 0 k before before 0) (sym z) w }

  module _ (some : 0 < t) {w : List ℕ} (e : EventsWritten n a b start x y w) (l : length w ≡ length work) where
    pub whole_need : WholeReadyBy words room n t a b counts area w
    whole_need = record {
      ready = whole_ready q.events some e l (area + words * t) (omega arith) (omega (arith, q.whole, o.least n (length a) t));
      enough = omega (arith, q.whole);
    }

    module _ {z : List ℕ} {r : Window} (k : WholeMadeOf B (words_of words) n t a b counts area w z r) (lz : length z ≡ length work) where
      fits : area + words * t ≤ length work
      fits = omega (arith, q.whole)

      pub window_need : WindowReady B words window Long r p before (take (length z - area) (drop area z))
      window_need = (window_ready q.events some e l k lz fits q.share (words_of window) (omega (arith, q.windows)), m.shorter (r.at + r.events) t before (omega (arith, k.at, k.events)) q.long)

      pub list_replied : {after : T} {kept : ℕ} → WindowDone B Same Wrote r p (take (words * r.events) (take (length z - area) (drop area z))) before after kept
          → ListRepliedBy Same Wrote g p t before after kept
      list_replied d =
          let u = d.replied g q.events.sound (omega (arith, k.at, k.events, inside q.events)) (area_in q.events some e l k lz fits) in
          record { same = d.same; replied = rw (k.at, k.events) at u }
