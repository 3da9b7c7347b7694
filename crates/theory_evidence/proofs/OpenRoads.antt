-- The open roads of a network, by the laws of roads: each open segment has its road among the edges, each edge has an open segment, and no two edges have the
-- same ends; their ends are junctions.
-- Assumes nothing.
use Prim.Native.Nat.{◌+◌, ◌<◌, ◌≤◌, ℕ}
use mathlib.Core.Bool.{Bool, ◌&&◌, cond, false, true}
use mathlib.Core.List.{List, Memᴰ, [], ◌∷◌}
use mathlib.Core.Path.{◌∙◌, ◌≡◌, ap, ap₂, refl, subst, sym}
use lib.Dec.{ltb}
use lib.ListN.{get_or, length}
use native.Mathlib.Omega.{arith}
use borrow.Author.Tests.{lt-ltb, ltb-true}
use Rattle.theory_graph.proofs.Booleans.{and_elim, contradict, on_bool}
use Rattle.theory_graph.proofs.Lists.{table_length}
use Rattle.theory_graph.proofs.TableLaws.{table_at}
use Rattle.theory_graph.specs.Graph.{Edge}
use Rattle.theory_graph.specs.Lists.{filter}
use Rattle.theory_timeline.proofs.RoadLaws.{cover_roads, edges_mem, ends_sym, ends_trans, mem_edges, roads_cover, roads_different}
use Rattle.theory_timeline.specs.Events.{SegmentSet, open_roads}
use Rattle.theory_timeline.specs.Roads.{Apart, DifferentRoads, same_ends}
use Rattle.theory_timeline.specs.Windows.{at_start}
use Rattle.theory_evidence.specs.Network.{Network, ends_at, open_edges, open_segment, segments}
use Rattle.theory_evidence.proofs.Menger.{NoParallels}

-- ---- different roads have no parallels
none_same : (e f : Edge) (E : List Edge) → same_ends e f ≡ true → Apart f E → length (filter (same_ends e) E) ≡ 0
none_same e f [] h a = refl
none_same e f (x ∷ E) h a =
    ap (λ b. length (cond b (x ∷ filter (same_ends e) E) (filter (same_ends e) E)))
    (on_bool (same_ends e x) (λ t. contradict (ends_trans f e x (ends_sym e f h) t) (a x (Memᴰ.head refl))) (λ t. t))
    ∙ none_same e f E h (λ g m. a g (Memᴰ.tail m))

pub different_plain : (E : List Edge) → DifferentRoads E → NoParallels E
different_plain [] d e = omega arith
different_plain (x ∷ E) d e = go (same_ends e x) refl (different_plain E d.1 e)
  where
    go : (b : Bool) → same_ends e x ≡ b → length (filter (same_ends e) E) ≤ 1 → length (cond b (x ∷ filter (same_ends e) E) (filter (same_ends e) E)) ≤ 1
    go true h i = omega (arith, none_same e x E h d.0)
    go false h i = i

-- ---- the segments as a list
module _ (w : Network) where
  abbrev o : SegmentSet
  o = at_start w.opened

  pub segments_length : length (segments w) ≡ w.m
  unfolding segments
  segments_length = table_length (ends_at w) 0 w.m

  pub segments_at : (s : ℕ) → s < w.m → get_or (segments w) s (0, 0) ≡ ends_at w s
  unfolding segments
  segments_at s l = table_at (ends_at w) w.m s (0, 0) l

  -- ---- segments and open roads
  pub segment_road : (s : ℕ) → open_segment w s ≡ true → (g : Edge) × Memᴰ g (open_edges w) × (same_ends (ends_at w s) g ≡ true)
  unfolding open_edges
  segment_road s h =
      and_elim (ltb s w.m) (o s) h λ a b.
      let l : s < w.m = ltb-true s w.m a in
      let z : 0 + s ≡ s = omega arith in
      let (g, m, e) = cover_roads (segments w) o (get_or (segments w) s (0, 0)) (mem_edges o 0 (segments w) s (omega (arith, segments_length)) (ap o z ∙ b)) in
      (g, m, subst (λ (f : Edge). same_ends f g ≡ true) (segments_at s l) e)

  pub road_segment : (g : Edge) → Memᴰ g (open_edges w) → (s : ℕ) × (open_segment w s ≡ true) × (same_ends g (ends_at w s) ≡ true)
  unfolding open_edges
  road_segment g m =
      let (f, n, e) = roads_cover (segments w) o g m in
      let (s, k, t, q) = edges_mem o 0 (segments w) f n in
      let l : s < w.m = omega (arith, segments_length) in
      let z : s ≡ 0 + s = omega arith in
      (s, ap₂ ◌&&◌ (lt-ltb s w.m l) (ap o z ∙ t), subst (λ (f : Edge). same_ends g f ≡ true) (q ∙ segments_at s l) e)

  -- what holds of the ends of every segment holds of the ends of every open road
  pub roads_ends : (P : ℕ → Type 0) → ((s : ℕ) → s < w.m → P (ends_at w s).0 × P (ends_at w s).1) → (g : Edge) → Memᴰ g (open_edges w) → P g.0 × P g.1
  unfolding open_edges
  roads_ends P k g m =
      let (r, l, t, q) = edges_mem (open_roads (segments w) o) 0 (segments w) g m in
      let b : r < w.m = omega (arith, segments_length) in
      subst (λ (f : Edge). P f.0 × P f.1) (sym (q ∙ segments_at r b)) (k r b)

  -- ---- no two open roads have the same ends
  pub roads_plain : NoParallels (open_edges w)
  unfolding open_edges
  roads_plain = different_plain (open_edges w) (roads_different (segments w) o)
