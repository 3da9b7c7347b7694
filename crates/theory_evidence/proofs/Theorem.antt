-- The agreement on evidence (specs/Theorem): the checker's call is_enough only the right answer, and for each right answer evidence exists that it is_enough; at a
-- query of a list the right answer is the replay's byte.
-- Here the evidence_faults of the call are taken apart; the two separates stand in Soundness and Completeness. Assumes nothing.
use Prim.Native.Nat.{◌+◌, ◌<◌, ◌≤◌, suc, zero, ℕ}
use mathlib.Core.Bool.{Bool, ◌&&◌, ◌||◌, cond, false, not, true}
use mathlib.Core.List.{List, ◌++◌}
use mathlib.Core.Logic.{◌↔◌}
use mathlib.Core.Path.{◌∙◌, ◌≡◌, ap, ap₂, refl, sym}
use lib.Dec.{eqb, leb, ltb}
use lib.ListN.{get_or, length}
use lib.Seq.{take_all}
use native.Mathlib.Omega.{arith}
use borrow.Author.Tests.{eqb-true, le-ltb, leb-false, lt-leb, ltb-false, not-false}
use Rattle.theory_graph.proofs.Booleans.{or_neither}
use Rattle.theory_graph.proofs.TableLaws.{pairs_table}
use Rattle.theory_graph.specs.Graph.{Edge, answer}
use Rattle.theory_graph.specs.Lists.{any, pairs, range}
use Rattle.theory_names.specs.Names.{plain}
use Rattle.call_sizes.proofs.RefusalLaws.{Numbered, Silent, below_long, fault_silent, seek_end, seek_none, silent_append, silent_fault}
use Rattle.call_sizes.specs.Refusal.{bad_ends, bad_start, first_fault, seek}
use Rattle.call_sizes.specs.Sizes.{size_faults}
use Rattle.theory_timeline.proofs.EventLaws.{pick_ext}
use Rattle.theory_timeline.specs.Events.{SegmentSet, open_roads, pick}
use Rattle.theory_timeline.specs.Replay.{Lent, byte, given}
use Rattle.theory_timeline.proofs.RoadLaws.{roads_answer}
use Rattle.theory_timeline.specs.Roads.{road, road_answer}
use Rattle.theory_timeline.specs.Windows.{Timeline, asks_at, at_start, event, open_before, open_graph}
use Rattle.theory_evidence.specs.Call.{bad_query, bad_segments, check_evidence, evidence_fault, evidence_faults, set_length, short_tables, table_lengths}
use Rattle.theory_evidence.specs.Evidence.{Evidence, is_enough}
use Rattle.theory_evidence.specs.Network.{Network, network, open_edges, segments}
use Rattle.theory_evidence.specs.Theorem.{EvidenceTheorem, HasEvidence, IsAccepted, Shows, Sized, Valid}
use Rattle.theory_evidence.proofs.Completeness.{Found, evidence_exists}
use Rattle.theory_evidence.proofs.OpenRoads.{segments_length}
use Rattle.theory_evidence.proofs.Soundness.{accepted_right}

-- ---- the rows
pub rows_numbered : (w : Network) (x y : ℕ) (e : Evidence) → Numbered (evidence_faults w x y e)
unfolding evidence_faults
rows_numbered w x y e = (some, (some, (some, (some, (some, (some, (some, (some, (some, (some, (some, (some, (some, tt)))))))))))))
  where
    some : {A : Type 0} {k : ℕ} → A → 0 < suc k
    some a = omega arith

-- nothing is refused just where the network and the junctions are valid, the set is long enough and the evidence enough
abbrev Passes : Network → ℕ → ℕ → Evidence → Type 0
Passes w x y e = Valid w x y × (set_length w.n e.claim ≤ length e.set) × (is_enough w x y e ≡ true)

rows_silent : (w : Network) (x y : ℕ) (e : Evidence) → Silent (evidence_faults w x y e) → Passes w x y e
unfolding evidence_faults
rows_silent w x y e (n-ok, (m-ok, (t-ok, (k-ok, (a-ok, (b-ok, (opened-ok, (set-ok, (ends-ok, (bits-ok, (x-ok, (y-ok, (enough, u))))))))))))) = (
  record {
    few_junctions = ltb-false 4096 w.n n-ok;
    few_segments = ltb-false 8192 w.m m-ok;
    a_long = ltb-false (length w.a) w.m a-ok;
    b_long = ltb-false (length w.b) w.m b-ok;
    opened_long = ltb-false (length w.opened) w.m opened-ok;
    ends_below = λ s l.
        let (p, q) = or_neither (leb w.n (get_or w.a s 0)) _ (seek_none (bad_ends w.n w.a w.b) w.m s ends-ok l) in
        (leb-false w.n (get_or w.a s 0) p, leb-false w.n (get_or w.b s 0) q);
    opened_bits = λ s l. ltb-false 1 (get_or w.opened s 0) (seek_none (bad_start w.opened) w.m s bits-ok l);
    x_below = leb-false w.n x x-ok;
    y_below = leb-false w.n y y-ok;
  },
  ltb-false (length e.set) (set_length w.n e.claim) set-ok,
  not-false (is_enough w x y e) enough,
)

silent_rows : (w : Network) (x y : ℕ) (e : Evidence) → Passes w x y e → Silent (evidence_faults w x y e)
unfolding evidence_faults
silent_rows w x y e (v, set, enough) =
    silent_append (size_faults w.n w.m 0 0) (short_tables w e ++ (bad_segments w ++ bad_query w x y e)) sizes
    (silent_append (short_tables w e) (bad_segments w ++ bad_query w x y e) lengths (silent_append (bad_segments w) (bad_query w x y e) segments query))
  where
    sizes : Silent (size_faults w.n w.m 0 0)
    sizes = (le-ltb 4096 w.n v.few_junctions, (le-ltb 8192 w.m v.few_segments, (refl, (refl, tt))))

    lengths : Silent (short_tables w e)
    lengths = (below_long 2 (table_lengths w e)).1 (v.a_long, (v.b_long, (v.opened_long, (set, tt))))

    none : (f : ℕ → Bool) → ((s : ℕ) → s < w.m → f s ≡ false) → ltb (seek f 0 w.m) w.m ≡ false
    none f k = le-ltb (seek f 0 w.m) w.m (omega (arith, seek_end f 0 w.m (λ u a b. k u (omega arith))))

    segments : Silent (bad_segments w)
    segments = (
      none (bad_ends w.n w.a w.b) (λ s l. let (p, q) = v.ends_below s l in ap₂ ◌||◌ (lt-leb w.n (get_or w.a s 0) p) (lt-leb w.n (get_or w.b s 0) q)),
      (none (bad_start w.opened) (λ s l. le-ltb 1 (get_or w.opened s 0) (v.opened_bits s l)), tt),
    )

    query : Silent (bad_query w x y e)
    query = (lt-leb w.n x v.x_below, (lt-leb w.n y v.y_below, (ap not enough, tt)))

-- ---- the theorem
accepted_exactly : (w : Network) (x y : ℕ) (e : Evidence) → IsAccepted w x y e ↔ Passes w x y e
unfolding check_evidence evidence_fault
accepted_exactly w x y e = (
  λ h. rows_silent w x y e (fault_silent (evidence_faults w x y e) (rows_numbered w x y e) (eqb-true (first_fault (evidence_faults w x y e)).0 0 h)),
  λ p. ap (λ r. eqb r.0 0) (silent_fault (evidence_faults w x y e) (silent_rows w x y e p)),
)

pub accepted_sound : (w : Network) (x y : ℕ) (e : Evidence) → IsAccepted w x y e → answer (open_edges w) x y ≡ e.claim
accepted_sound w x y e h = accepted_right w x y e ((accepted_exactly w x y e).0 h).2

set_most : (n claim : ℕ) → set_length n claim ≤ n
set_most n claim = go (leb claim 1)
  where
    go : (b : Bool) → cond b n 0 ≤ n
    go true = omega arith
    go false = omega arith

evidence_complete : (w : Network) (x y : ℕ) → Valid w x y → (e : Evidence) × (e.claim ≡ answer (open_edges w) x y) × Sized w e × IsAccepted w x y e
evidence_complete w x y v =
    let f : Found w v.ends_below x y = evidence_exists w v.ends_below x y v.x_below v.y_below in
    let long : set_length w.n f.found.claim ≤ length f.found.set = omega (arith, set_most w.n f.found.claim, f.sized.set) in
    (f.found, f.right, f.sized, (accepted_exactly w x y f.found).1 (v, long, f.enough))

claims_right : (w : Network) (x y c : ℕ) → Valid w x y → HasEvidence w x y c ↔ (answer (open_edges w) x y ≡ c)
claims_right w x y c v = (λ (e, p, a). accepted_sound w x y e a ∙ p, λ h. let (e, p, s, a) = evidence_complete w x y v in (e, p ∙ h, a))

accepted_single : (w : Network) (x y : ℕ) (e f : Evidence) → IsAccepted w x y e → IsAccepted w x y f → e.claim ≡ f.claim
accepted_single w x y e f a b = sym (accepted_sound w x y e a) ∙ accepted_sound w x y f b

-- ---- the replay's byte
any_range : (f k : ℕ → Bool) (i n : ℕ) → ((s : ℕ) → i ≤ s → s < i + n → f s ≡ k s) → any f (range i n) ≡ any k (range i n)
any_range f k i zero h = refl
any_range f k i (suc n) h = ap₂ ◌||◌ (h i (omega arith) (omega arith)) (any_range f k (suc i) n (λ s a b. h s (omega arith) (omega arith)))

-- only the network's own segments count for its open roads
open_below : (segs : List Edge) (o p : SegmentSet) → ((s : ℕ) → s < length segs → o s ≡ p s) → (r : ℕ) → open_roads segs o r ≡ open_roads segs p r
unfolding open_roads
open_below segs o p h r = any_range (λ s. o s && eqb r (road segs s)) (λ s. p s && eqb r (road segs s)) 0 (length segs) (λ s a b. ap (λ t. t && eqb r (road segs s)) (h s (omega arith)))

shown_graph : (w : Network) (g : Timeline) (i : ℕ) → Shows w g i → open_edges w ≡ plain (open_graph g i)
unfolding open_edges
shown_graph w g i h =
    ap plain (pick_ext (open_roads (segments w) (at_start w.opened)) (open_roads (segments w) (open_before g i))
    (open_below (segments w) (at_start w.opened) (open_before g i) (λ s l. h.same_open s (omega (arith, segments_length w)))) 0 (segments w))
    ∙ ap (λ (segs : List Edge). plain (pick (open_roads segs (open_before g i)) 0 segs)) h.same_segments

accepted_replayed : (g : Timeline) (i : ℕ) (w : Network) (e : Evidence) → asks_at g i ≡ true → Shows w g i
    → IsAccepted w (event g i).0 (event g i).1 e → byte g i ≡ e.claim
unfolding byte
accepted_replayed g i w e q h a =
    ap (λ b. cond b (answer (plain (open_graph g i)) (event g i).0 (event g i).1) 3) q
    ∙ ap (λ E. answer E (event g i).0 (event g i).1) (sym (shown_graph w g i h))
    ∙ accepted_sound w (event g i).0 (event g i).1 e a

-- the tables of a replay, with the segments that are open before event i as the open set
pub lent_shows : (l : Lent) (i : ℕ) (opened : List ℕ) → length l.a ≡ l.m → length l.b ≡ l.m
    → ((s : ℕ) → s < l.m → at_start opened s ≡ open_before (given l) i s) → Shows (network l.n l.m l.a l.b opened) (given l) i
unfolding given segments
lent_shows l i opened p q h = record {
  same_segments =
      sym (pairs_table l.m l.a l.b (omega arith) (omega arith))
      ∙ ap₂ pairs (take_all l.m l.a (omega arith)) (take_all l.m l.b (omega arith));
  same_open = h;
}

-- the right answer by the loss of roads: of all open segments with the ends of each open one in turn
pub answer_loss : (w : Network) (x y : ℕ) → answer (open_edges w) x y ≡ road_answer (plain (pick (at_start w.opened) 0 (segments w))) x y
unfolding open_edges
answer_loss w x y = roads_answer (segments w) (at_start w.opened) x y

pub evidence_theorem : EvidenceTheorem
evidence_theorem = record {
  sound = accepted_sound;
  complete = evidence_complete;
  exactly = accepted_exactly;
  claims = claims_right;
  single = accepted_single;
  replayed = accepted_replayed;
}
