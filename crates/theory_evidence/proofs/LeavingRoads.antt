-- The number of open roads that leave a set, told by the segments that do: none, some, at most one, more than one; then the reader's laws, which say none and
-- exactly one straight from the segments.
-- Assumes nothing.
use Prim.Native.Nat.{◌<◌, ◌≤◌, ℕ}
use mathlib.Core.Bool.{false, not, true}
use mathlib.Core.List.{List}
use mathlib.Core.Logic.{◌↔◌}
use mathlib.Core.Path.{◌∙◌, ◌≡◌, ap}
use native.Mathlib.Omega.{arith}
use borrow.Author.Tests.{not-true}
use Rattle.theory_graph.proofs.Booleans.{contradict, on_bool}
use Rattle.theory_graph.proofs.Cuts.{crosses_cases, crosses_same, crosses_zero, crossing, crossing_in, crossing_one, in_crossing}
use Rattle.theory_graph.specs.Cut.{cut}
use Rattle.theory_graph.specs.Graph.{Edge, NodeSet}
use Rattle.theory_timeline.specs.Roads.{same_ends}
use Rattle.theory_evidence.specs.Network.{Network, ends_at, one_road, open_edges, open_segment}
use Rattle.theory_evidence.proofs.EdgeSets.{closed_cut, closed_filter}
use Rattle.theory_evidence.proofs.Menger.{cut_split_filter}
use Rattle.theory_evidence.proofs.OpenRoads.{road_segment, roads_plain, segment_road}
use Rattle.theory_timeline.proofs.RoadLaws.{ends_cross, ends_sym, ends_trans}
use Rattle.theory_evidence.proofs.SameEnds.{same_ends_side}

module _ (w : Network) (U : NodeSet) where
  abbrev E : List Edge
  E = open_edges w

  -- segment s does not leave U
  abbrev pub Stays : ℕ → Type 0
  Stays s = U (ends_at w s).0 ≡ U (ends_at w s).1

  road_crossed : (e g : Edge) → same_ends e g ≡ true → 0 < crossing U e → 0 < crossing U g
  road_crossed e g h c = omega (arith, ends_cross U e g h)

  pub leaving_none : ((s : ℕ) → open_segment w s ≡ true → Stays s) → cut U E ≤ 0
  leaving_none k = closed_cut U E λ g m. let (s, o, h) = road_segment w g m in same_ends_side U g (ends_at w s) h (k s o)

  pub leaving_some : (s : ℕ) → open_segment w s ≡ true → 0 < crossing U (ends_at w s) → 0 < cut U E
  leaving_some s o c = let (g, m, h) = segment_road w s o in in_crossing U g m (road_crossed (ends_at w s) g h c)

  -- the others of the road of r do not count
  pub leaving_one : (r : ℕ) → ((s : ℕ) → open_segment w s ≡ true → one_road w r s ≡ false → Stays s) → cut U E ≤ 1
  leaving_one r k =
      let rest = closed_filter (λ g. not (same_ends (ends_at w r) g)) U E λ g m n.
      let (s, o, h) = road_segment w g m in
      let apart : one_road w r s ≡ false =
      on_bool (one_road w r s) (λ t. contradict (ends_trans (ends_at w r) (ends_at w s) g t (ends_sym g (ends_at w s) h)) (not-true (same_ends (ends_at w r) g) n)) (λ t. t) in
      same_ends_side U g (ends_at w s) h (k s o apart) in
      omega (arith, rest, cut_split_filter (same_ends (ends_at w r)) U E, roads_plain w (ends_at w r))

  pub leaving_two : (r s : ℕ) → open_segment w r ≡ true → open_segment w s ≡ true → one_road w r s ≡ false → 0 < crossing U (ends_at w r) → 0 < crossing U (ends_at w s) → 1 < cut U E
  leaving_two r s o p n c e =
      let (g, i, h) = segment_road w r o in
      let (f, j, k) = segment_road w s p in
      let many : ¬ (cut U E ≤ 1) = λ few.
      let one : g ≡ f = crossing_one U g f few i j (road_crossed (ends_at w r) g h c) (road_crossed (ends_at w s) f k e) in
      contradict (ends_trans (ends_at w r) g (ends_at w s) h (ends_sym (ends_at w s) g (ap (same_ends (ends_at w s)) one ∙ k))) n in
      omega arith

  -- ---- the reader's laws: how many open roads leave a set, straight from the segments
  stays_or : {A : Type 0} (s : ℕ) → (Stays s → A) → (0 < crossing U (ends_at w s) → A) → A
  stays_or s f g = crosses_cases (U (ends_at w s).0) (U (ends_at w s).1) (λ z. f (crosses_zero (U (ends_at w s).0) (U (ends_at w s).1) (omega arith))) (λ z. g (omega arith))

  -- none: no open segment does
  pub leaves_none : (cut U E ≡ 0) ↔ ((s : ℕ) → open_segment w s ≡ true → Stays s)
  leaves_none = (
    λ z s o. stays_or s (λ p. p) (λ c. absurd (omega (arith, leaving_some s o c))),
    λ k. omega (arith, leaving_none k),
  )

  -- exactly one: some open segment does, and only segments of its road
  pub leaves_one : (cut U E ≡ 1) ↔ ((r : ℕ) × (open_segment w r ≡ true) × (¬ Stays r) × ((s : ℕ) → open_segment w s ≡ true → one_road w r s ≡ false → Stays s))
  leaves_one = (
    λ z.
        let (g, m, c) = crossing_in U E (omega arith) in
        let (r, o, h) = road_segment w g m in
        let d : 0 < crossing U (ends_at w r) = road_crossed g (ends_at w r) h c in
        (r, o, (λ p. omega (arith, crosses_same p)), λ s p n. stays_or s (λ q. q) (λ e. absurd (omega (arith, leaving_two r s o p n d e)))),
    λ (r, o, n, k). let some : 0 < cut U E = leaving_some r o (stays_or r (λ p. absurd (n p)) (λ c. c)) in omega (arith, leaving_one r k),
  )
