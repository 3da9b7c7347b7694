-- The network of a part of a window is the window's with the roads that the window names, the part does not, and that are open before the part.
-- So graphs that are made step by step down the windows are small graphs of the windows' own networks.
-- In order: for lists of events, a window before ++ part ++ behind; for windows of a list; one edge for each road; the start; down the tree of windows.
-- Assumes nothing.
use Prim.Native.Nat.{◌+◌, ◌-◌, ◌≤◌, suc, zero, ℕ}
use mathlib.Core.Bool.{◌&&◌, and-false, false, not, true}
use mathlib.Core.List.{List, Memᴰ, [], ◌++◌, ◌∷◌, map}
use mathlib.Core.Logic.{◌⊎◌, inl, inr}
use mathlib.Core.Path.{◌∙◌, ◌≡◌, ap, ap₂, refl, subst, subst₂, sym}
use lib.ListN.{drop, get_or, length, take, take-append-drop}
use lib.Seq.{drop-drop, take-add, take-length, take-nil, take-take}
use native.Mathlib.Omega.{arith}
use borrow.Author.Tests.{not-true}
use Rattle.theory_graph.proofs.Booleans.{and_elim, on_bool, or_neither}
use Rattle.theory_graph.proofs.Lists.{mem_member}
use Rattle.theory_graph.specs.Graph.{Edge}
use Rattle.theory_graph.specs.Lists.{member}
use Rattle.theory_graph.specs.SmallGraph.{ends_in}
use Rattle.theory_names.proofs.NamedComposition.{named_compose}
use Rattle.theory_names.proofs.NamedCuts.{weigh_append}
use Rattle.theory_names.proofs.NamedSmallCuts.{named_small_carries}
use Rattle.theory_names.proofs.NamedUniqueness.{named_small_equal}
use Rattle.theory_names.specs.Names.{Entry, Named, SameEntries, Sixteen, plain}
use Rattle.theory_names.specs.NamedSmallGraph.{IsNamedSmallGraph, NamedCarries, image_named}
use Rattle.theory_timeline.proofs.EventLaws.{active_left, active_named, active_right, named_roads_append, pick_sum, pick_within, road_named, roads_stay}
use Rattle.theory_timeline.proofs.RoadLaws.{ends_in_lem, ends_sym, names_different, open_name, pick_mem, road_same}
use Rattle.theory_timeline.proofs.WindowLaws.{first_part_lem}
use Rattle.theory_timeline.specs.DemandThree.{Allowed}
use Rattle.theory_timeline.specs.Events.{Event, SegmentSet, active_of, after, after_all, named_roads, network_of, open_roads, pick}
use Rattle.theory_timeline.specs.Roads.{DifferentRoads, road, same_ends}
use Rattle.theory_timeline.specs.Steps.{Made, Part, added, down, top}
use Rattle.theory_timeline.specs.Windows.{Timeline, Window, active, during, first_part, network, open_before, size}

-- ---- a window pre ++ (mid ++ post), and its part mid
module _ (n : ℕ) (segs : List Edge) (pre mid post : List Event) (o : SegmentSet) where
  abbrev whole : List Event
  whole = pre ++ (mid ++ post)

  abbrev before : SegmentSet
  before = open_roads segs (after_all n pre o)

  abbrev naming : List Event → SegmentSet
  naming = named_roads n segs

  -- the roads that are added
  unfoldable pub added_of : Named
  added_of = pick (λ r. before r && (naming whole r && not (naming mid r))) 0 segs

  pub network_of_part : SameEntries (network_of n segs whole o ++ added_of) (network_of n segs mid (after_all n pre o))
  unfolding network_of added_of
  network_of_part = record {
    weights = λ φ U.
        weigh_append φ U (network_of n segs whole o) added_of
        ∙ sym (pick_sum φ U (λ r. before r && not (naming mid r)) (λ r. open_roads segs o r && not (naming whole r)) (λ r. before r && (naming whole r && not (naming mid r))) one 0 segs);
  }
    where
      one : (r : ℕ) → (((open_roads segs o r && not (naming whole r)) ≡ (before r && not (naming mid r))) × ((before r && (naming whole r && not (naming mid r))) ≡ false))
          ⊎ (((open_roads segs o r && not (naming whole r)) ≡ false) × ((before r && (naming whole r && not (naming mid r))) ≡ (before r && not (naming mid r))))
      one r =
          on_bool (naming whole r)
          (λ w. inr (ap (λ b. open_roads segs o r && not b) w ∙ and-false (open_roads segs o r), ap (λ b. before r && (b && not (naming mid r))) w))
          (λ w.
          let (np, q) = or_neither (naming pre r) (naming (mid ++ post) r) (sym (named_roads_append n segs pre (mid ++ post) r) ∙ w) in
          let (nm, _) = or_neither (naming mid r) (naming post r) (sym (named_roads_append n segs mid post r) ∙ q) in
          inl (ap₂ (λ a b. a && not b) (sym (roads_stay n segs pre o r np)) (w ∙ sym nm), ap (λ b. before r && (b && not (naming mid r))) w ∙ and-false (before r)))

  -- both ends of an added road are active: it has the ends of the segment that is named
  pub added_of_within : ends_in (member (active_of n segs whole)) (plain added_of) ≡ true
  unfolding added_of
  added_of_within =
      pick_within (member (active_of n segs whole)) (λ r. before r && (naming whole r && not (naming mid r))) (λ k. get_or segs k (0, 0)) 0 segs (λ k. ap (λ k. get_or segs k (0, 0)) (plus k)) λ r t.
      and_elim (before r) (naming whole r && not (naming mid r)) t λ a b. and_elim (naming whole r) (not (naming mid r)) b λ w u.
      let (s, m, e) = road_named n segs whole r w in
      let (p, q) = active_named n segs whole s m in
      ends_in_lem (member (active_of n segs whole)) (get_or segs r (0, 0)) (get_or segs s (0, 0))
      (subst (λ (k : ℕ). same_ends (get_or segs k (0, 0)) (get_or segs s (0, 0)) ≡ true) (sym e) (ends_sym (get_or segs s (0, 0)) (get_or segs (road segs s) (0, 0)) (road_same segs s)))
      (mem_member _ (active_of n segs whole) p, mem_member _ (active_of n segs whole) q)
    where
      plus : (k : ℕ) → k ≡ 0 + k
      plus k = omega arith

pub left_part : (p : ℕ) (w : Window) → Allowed p → 2 ≤ w.1 → Part w (w.0, first_part p w.1)
left_part p w a h = let f = first_part_lem p w.1 a h in record { after = omega arith; before = omega arith }

pub right_part : (p : ℕ) (w : Window) → Allowed p → 2 ≤ w.1 → Part w (w.0 + first_part p w.1, w.1 - first_part p w.1)
right_part p w a h = let f = first_part_lem p w.1 a h in record { after = omega arith; before = omega arith }

-- ---- lists
drop_take : {A : Type 0} (k r : ℕ) (l : List A) → drop k (take (k + r) l) ≡ take r (drop k l)
drop_take zero r l = let e : 0 + r ≡ r = omega arith in ap (λ (n : ℕ). take n l) e
drop_take (suc k) r [] = ap (drop (suc k)) (take-nil (suc k + r)) ∙ sym (take-nil r)
drop_take (suc k) r (x ∷ l) = let e : suc k + r ≡ suc (k + r) = omega arith in ap (λ (n : ℕ). drop (suc k) (take n (x ∷ l))) e ∙ drop_take k r l

pub after_append : (n : ℕ) (a b : List Event) (o : SegmentSet) → after_all n b (after_all n a o) ≡ after_all n (a ++ b) o
after_append n [] b o = refl
after_append n (e ∷ a) b o = after_append n a b (after n e o)

-- ---- the events before a part, in it, and behind it
module _ (g : Timeline) (w c : Window) (h : Part w c) where
  abbrev k : ℕ
  k = c.0 - w.0

  abbrev pub pre : List Event
  pre = take k (take w.1 (drop w.0 g.events))

  abbrev pub post : List Event
  post = drop c.1 (drop k (take w.1 (drop w.0 g.events)))

  pub middle : take c.1 (drop k (take w.1 (drop w.0 g.events))) ≡ during g c
  unfolding during
  middle =
      let a = h.after in
      let b = h.before in
      let e : w.1 ≡ k + (w.1 - k) = omega arith in
      let f : w.0 + k ≡ c.0 = omega arith in
      let i : c.1 ≤ w.1 - k = omega arith in
      ap (λ (n : ℕ). take c.1 (drop k (take n (drop w.0 g.events)))) e
      ∙ ap (take c.1) (drop_take k (w.1 - k) (drop w.0 g.events))
      ∙ take-take c.1 (w.1 - k) (drop k (drop w.0 g.events)) i
      ∙ ap (take c.1) (drop-drop k w.0 g.events ∙ ap (λ (n : ℕ). drop n g.events) f)

  pub split : pre ++ (during g c ++ post) ≡ during g w
  unfolding during
  split =
      ap (λ (l : List Event). pre ++ (l ++ post)) (sym middle)
      ∙ ap (λ (l : List Event). pre ++ l) (take-append-drop c.1 (drop k (take w.1 (drop w.0 g.events))))
      ∙ take-append-drop k (take w.1 (drop w.0 g.events))

  pub opened : after_all g.junctions pre (open_before g w.0) ≡ open_before g c.0
  unfolding open_before
  opened =
      let a = h.after in
      let b = h.before in
      let f : w.0 + k ≡ c.0 = omega arith in
      let i : k ≤ w.1 = omega arith in
      after_append g.junctions (take w.0 g.events) pre g.start
      ∙ ap (λ (l : List Event). after_all g.junctions l g.start)
      (ap (λ (l : List Event). take w.0 g.events ++ l) (take-take k w.1 (drop w.0 g.events) i) ∙ sym (take-add w.0 k g.events) ∙ ap (λ (n : ℕ). take n g.events) f)

  -- ---- the laws of a part
  -- the roads that are open, that the events l name, and that the part does not
  abbrev more_than : List Event → SegmentSet → Named
  more_than l o = pick (λ r. open_roads g.segments o r && (named_roads g.junctions g.segments l r && not (named_roads g.junctions g.segments (during g c) r))) 0 g.segments

  pub network_part : SameEntries (network g w ++ added g w c) (network g c)
  unfolding network added added_of
  network_part =
      subst₂ (λ (l : List Event) (o : SegmentSet). SameEntries (network_of g.junctions g.segments l (open_before g w.0) ++ more_than l o) (network_of g.junctions g.segments (during g c) o))
      split opened (network_of_part g.junctions g.segments pre (during g c) post (open_before g w.0))

  pub added_active : ends_in (member (active g w)) (plain (added g w c)) ≡ true
  unfolding active added added_of
  added_active =
      subst₂ (λ (l : List Event) (o : SegmentSet). ends_in (member (active_of g.junctions g.segments l)) (plain (more_than l o)) ≡ true)
      split opened (added_of_within g.junctions g.segments pre (during g c) post (open_before g w.0))

  pub active_part : (v : ℕ) → Memᴰ v (active g c) → Memᴰ v (active g w)
  unfolding active
  active_part v m =
      subst (λ (l : List Event). Memᴰ v (active_of g.junctions g.segments l)) split (active_right g.junctions g.segments pre (during g c ++ post) v (active_left g.junctions g.segments (during g c) post v m))

  -- the step: where a graph carries the window's network, a small graph of it with the added roads is one of the part's network
  pub part_small : (n : ℕ) (H : Named) (ρ σ : ℕ → ℕ) → NamedCarries (network g w) (active g w) n H ρ σ
      → (n' : ℕ) (H' : Named) (ρ' σ' : ℕ → ℕ) → IsNamedSmallGraph (H ++ image_named σ (added g w c)) (map σ (active g c)) n' H' ρ' σ'
      → IsNamedSmallGraph (network g c) (active g c) n' H' (λ v. ρ (ρ' v)) (λ a. σ' (σ a))
  part_small n H ρ σ k n' H' ρ' σ' s =
      named_small_equal network_part (named_compose (network g w) (active g w) n H ρ σ k (added g w c) added_active (active g c) active_part n' H' ρ' σ' s)

-- ---- one edge for each road
module _ (g : Timeline) (w : Window) where
  -- the roads of its network
  abbrev pub around : SegmentSet
  around r = open_roads g.segments (open_before g w.0) r && not (named_roads g.junctions g.segments (during g w) r)

  pub around_name : (r : ℕ) → around r ≡ true → (road g.segments r ≡ r) × (named_roads g.junctions g.segments (during g w) r ≡ false)
  around_name r h = and_elim (open_roads g.segments (open_before g w.0) r) (not (named_roads g.junctions g.segments (during g w) r)) h λ p q.
      ((open_name g.segments (open_before g w.0) r p).0, not-true (named_roads g.junctions g.segments (during g w) r) q)

  pub network_different : DifferentRoads (plain (network g w))
  unfolding network network_of
  network_different = names_different g.segments around (λ r h. (around_name r h).0)

  -- their names are 16-bit numbers
  pub network_sixteen : length g.segments ≤ 8192 → Sixteen (network g w)
  unfolding network network_of
  network_sixteen l e m = let (s, k, _, q) = pick_mem around 0 g.segments e m in omega (arith, ap (λ (e : Entry). e.1) q)

-- the whole list's network: the roads that are open at the start and that no event names
pub network_start : (g : Timeline) → network g (0, size g) ≡ network_of g.junctions g.segments g.events g.start
unfolding network during open_before
network_start g = ap (λ (l : List Event). network_of g.junctions g.segments l g.start) (take-length g.events)

-- ---- down the windows
pub made_small : {g : Timeline} {w : Window} {n : ℕ} {H : Named} {σ : ℕ → ℕ} → Made g w n H σ → (ρ : ℕ → ℕ) × IsNamedSmallGraph (network g w) (active g w) n H ρ σ
made_small (top ρ s) = (ρ, s)
made_small {g} (down {w = w} {n = n} {H = H} {σ = σ} {c = c} {n' = n'} {H' = H'} {σ' = σ'} m h ρ' s) =
    let (ρ, t) = made_small m in
    (λ v. ρ (ρ' v), part_small g w c h n H ρ σ (named_small_carries (network g w) (active g w) n H ρ σ t) n' H' ρ' σ' s)
