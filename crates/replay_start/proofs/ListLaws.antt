-- A whole list, in either replay: from its tables to the words of its events, its area and its windows; and the tables of an accepted call.
-- In order: the list in the words; its area and its window; an accepted call. Assumes nothing.
use Prim.Native.Nat.{◌*◌, ◌+◌, ◌-◌, ◌<◌, ◌≤◌, ℕ}
use mathlib.Core.List.{List, map}
use mathlib.Core.Path.{◌∙◌, ◌≡◌, ap, refl, subst, sym}
use lib.ListN.{drop, length, length-drop, length-take, take}
use lib.Seq.{length-take-le, sets}
use native.Mathlib.Omega.{arith}
use Rattle.replay_events.proofs.QueryLaws.{queries_same}
use Rattle.replay_events.proofs.WritingLaws.{size_is}
use Rattle.replay_events.specs.Kinds.{queries_by}
use Rattle.replay_events.specs.Writing.{CanWriteEvents, EventsWritten, list_of}
use Rattle.replay_step.proofs.WordLaws.{lent_take, table_over}
use Rattle.replay_step.specs.Area.{WindowReadyOf}
use Rattle.replay_step.specs.declared.Window.{Window}
use Rattle.theory_graph.proofs.TableLaws.{pairs_at}
use Rattle.theory_graph.specs.Lists.{over, range, table}
use Rattle.theory_timeline.proofs.Acceptance.{AcceptedList, accepted_sound, events_length}
use Rattle.theory_timeline.proofs.Counting.{count}
use Rattle.theory_timeline.specs.DemandThree.{Allowed}
use Rattle.theory_timeline.specs.Events.{Event}
use Rattle.theory_timeline.specs.Replay.{Lent, given}
use Rattle.theory_timeline.specs.Windows.{Timeline, asks_at, size}
use Rattle.replay_start.specs.Whole.{ListIn, ListReadyOf, WholeMadeOf, WholeReady}

module _ {n : ℕ} {a b start x y work : List ℕ} (q : CanWriteEvents n a b start x y work) where
  abbrev g : Timeline
  g = list_of n a b start x y

  abbrev t : ℕ
  t = length x

  -- the places of the counts of the roads and of the whole list's area
  abbrev counts : ℕ
  counts = 5 * length x + length a

  abbrev area : ℕ
  area = 5 * length x + length a + length a

  pub inside : 0 + t ≤ size g
  inside = omega (arith, size_is q)

  -- ---- the list in the words
  module _ (some : 0 < t) {w : List ℕ} (e : EventsWritten n a b start x y w) (l : length w ≡ length work) where
    pub list_in : ListIn n t a b counts w g
    list_in = record { sound = q.sound; junctions = refl; segments = refl; all = size_is q; events = e.events; counted = e.counts }

    pub whole_ready : (scratch : ℕ) → area ≤ scratch → scratch + 16 * n + 6 * length a ≤ length work → WholeReady n t a b counts area scratch w
    whole_ready scratch h r = record {
      g = g;
      list = list_in;
      b_long = q.segments;
      some = some;
      front = omega arith;
      apart = omega arith;
      behind = h;
      room = omega arith;
      much = q.much;
    }

    -- ---- its area and its window
    module _ {A : Timeline → Window → List ℕ → Type 0} {words : ℕ → ℕ} {z : List ℕ} {r : Window} (m : WholeMadeOf A words n t a b counts area w z r) (k : length z ≡ length work)
        (h : area + words t ≤ length work) where
      pub area_in : A g r (take (words r.events) (take (length z - area) (drop area z)))
      area_in =
          let f : take (words t) (drop area z) ≡ take (words r.events) (take (length z - area) (drop area z)) =
          ap (λ (n : ℕ). take (words n) (drop area z)) (sym m.events) ∙ sym (lent_take area (words r.events) z (omega (arith, h, ap words m.events, k))) in
          subst (λ (v : List ℕ). A g r v) f (m.made g list_in)

      pub window_ready : {p : ℕ} → Allowed p → (room : ℕ → ℕ) → area + room t ≤ length work → WindowReadyOf A words room r p (take (length z - area) (drop area z))
      window_ready allowed room f = record {
        g = g;
        sound = q.sound;
        inside = omega (arith, m.at, m.events, size_is q);
        area = area_in;
        some = omega (arith, m.events);
        much = omega (arith, m.at, m.events, q.much);
        share = allowed;
        enough = rw (length-take, length-drop) (omega (arith, f, ap room m.events, k));
      }

-- ---- an accepted call
module _ (l : Lent) (p : ℕ) (c : AcceptedList l p) where
  pub list_ready_of : (need k : ℕ) → k ≤ length l.work → need ≤ k → 5 * l.t + 2 * l.m + 2 * l.n ≤ k
      → ListReadyOf need l.n p l.a l.b l.start l.x l.y l.answers (take k l.work)
  unfolding given
  list_ready_of need k h e f =
      let w = length-take-le k l.work h in
      let la = c.exact.a_exact in
      let lx = c.exact.x_exact in
      record {
        events = record {
          sound = accepted_sound l p c;
          segments = c.exact.b_exact ∙ sym la;
          start_long = c.exact.start_exact ∙ sym la;
          events = c.exact.y_exact ∙ sym lx;
          much = omega (arith, c.t_fits);
          room = omega arith;
        };
        share = c.share;
        long = omega (arith, c.answers_long);
        room = omega arith;
      }

  -- the queries that are counted are those of the list
  pub queries_are : queries_by l.n l.x l.t ≡ count (asks_at (given l)) 0 (size (given l))
  unfolding given
  queries_are =
      queries_same (given l) l.x l.t (omega (arith, events_length l p c)) (λ i u.
      sym (ap (λ (e : Event). e.0) (pairs_at l.x l.y i (omega (arith, c.exact.x_exact)) (omega (arith, c.exact.y_exact)))))
      ∙ ap (count (asks_at (given l)) 0) (sym (events_length l p c))

  -- a table with an entry for each event is written over its first entries
  pub table_is : (f : ℕ → ℕ) (before : List ℕ) → length (map f (range 0 (size (given l)))) ≤ length before
      → sets before 0 (table f 0 l.t) ≡ over (map f (range 0 (size (given l)))) before
  table_is f before h = ap (λ (k : ℕ). sets before 0 (table f 0 k)) (sym (events_length l p c)) ∙ table_over f (size (given l)) before h
