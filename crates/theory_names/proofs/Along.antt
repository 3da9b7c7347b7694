-- The least name is found along the way: the ends of an entry whose loss parts them hang on its name, and where z lies between x and y, x and y hang on the smaller of
-- what x and z and what z and y hang on. This is what a pass over the forest of classes computes, from each class to the nearest kept class above it:
-- hangs_over is its step to a kept class, hangs_step its step over a class that is not kept; W is the part of the tree below the entry.
-- Assumes nothing.
use Prim.Native.Nat.{◌≤◌, min, ℕ}
use mathlib.Core.Bool.{◌||◌, false, not, true}
use mathlib.Core.List.{Memᴰ, [], ◌++◌, ◌∷◌}
use mathlib.Core.Logic.{◌⊎◌, inl, inr}
use mathlib.Core.Path.{◌∙◌, ◌≡◌, ap, ap₂, refl, sym}
use lib.Dec.{leb}
use native.Mathlib.Omega.{arith}
use borrow.Author.Tests.{leb-false, leb-true}
use Rattle.theory_graph.proofs.Adjacency.{adj_closed, adj_union}
use Rattle.theory_graph.proofs.Booleans.{contradict, on_bool}
use Rattle.theory_graph.proofs.CutOffs.{on_two_edge}
use Rattle.theory_graph.proofs.Cuts.{cut_complement}
use Rattle.theory_graph.proofs.Definitions.{joined_from}
use Rattle.theory_graph.proofs.Medians.{between_connected}
use Rattle.theory_graph.proofs.Reach.{reach, reach_closed, reach_connected, reach_self}
use Rattle.theory_graph.proofs.Separation.{insep_cut, insep_refl, insep_sym, insep_trans}
use Rattle.theory_graph.specs.Cut.{Between, Connected, Separated, ◌∪◌, crosses, cut, ∁}
use Rattle.theory_graph.specs.Graph.{NodeSet, joined}
use Rattle.theory_graph.specs.Route.{Adjacent}
use Rattle.theory_names.proofs.Hangs.{cut_entry, hangs_class, hangs_least, hangs_same, hangs_sixteen, least_hangs}
use Rattle.theory_names.proofs.NamedCuts.{adjacent_back, adjacent_fore, names_one, plain_in}
use Rattle.theory_names.specs.Names.{Entry, Named, Sixteen, hangs, cut_names, plain}

-- ---- over one entry
-- the entry between p and q, whose name is n, alone leaves W, which has p and not q
module _ (G : Named) (W : NodeSet) (c : cut W (plain G) ≤ 1) (p q n : ℕ) (m : Memᴰ ((p, q), n) G ⊎ Memᴰ ((q, p), n) G) (Wp : W p ≡ true) (Wq : W q ≡ false) where
  adjacent : Adjacent p q (plain G)
  adjacent = of m
    where
      of : Memᴰ ((p, q), n) G ⊎ Memᴰ ((q, p), n) G → Adjacent p q (plain G)
      of (inl k) = adjacent_fore (plain_in k)
      of (inr k) = adjacent_back (plain_in k)

  connected : Connected (plain G) p q
  connected (U, a, b, d) = contradict a (adj_closed U adjacent (omega arith) ∙ b)

  -- its ends hang on its name
  pub hangs_over : hangs G p q ≡ n
  hangs_over =
      let (U, a, b, d, e) = (hangs_least G p q connected (W, Wp, Wq, c)).some in
      sym e ∙ of U d a b m
    where
      of : (U : NodeSet) → cut U (plain G) ≤ 1 → U p ≡ true → U q ≡ false → Memᴰ ((p, q), n) G ⊎ Memᴰ ((q, p), n) G → cut_names U G ≡ n
      of U d a b (inl k) = names_one U ((p, q), n) d k (omega (arith, ap₂ crosses a b))
      of U d a b (inr k) = names_one U ((q, p), n) d k (omega (arith, ap₂ crosses b a))

  -- and q lies between p and each node on its side
  pub over_between : (k : ℕ) → Connected (plain G) q k → W k ≡ false → Between (plain G) p q k
  over_between k j Wk (U, Uq, Up, Uk, d) =
      omega (arith, adj_union W U adjacent Wp Wq Up Uq, insep_cut (plain G) (insep_trans (plain G) connected j) (W ∪ U) (ap (λ b. b || U p) Wp) (ap₂ ◌||◌ Wk Uk))

-- ---- a node between
-- a small cut that parts x from z, or z from y, parts x from y
module _ (G : Named) (x z y : ℕ) (b : Between (plain G) x z y) where
  parts_first : (U : NodeSet) → U x ≡ true → U z ≡ false → cut U (plain G) ≤ 1 → U y ≡ false
  parts_first U p q c = on_bool (U y) (λ t. absurd (b (∁ U, ap not q, ap not p, ap not t, omega (arith, cut_complement U (plain G))))) (λ f. f)

  parts_second : (U : NodeSet) → U z ≡ true → U y ≡ false → cut U (plain G) ≤ 1 → U x ≡ true
  parts_second U p q c = on_bool (U x) (λ t. t) (λ f. absurd (b (U, p, f, q, c)))

  -- where z is in neither class
  pub hangs_between_strict : Connected (plain G) x y → Separated 1 (plain G) x z → Separated 1 (plain G) z y → hangs G x y ≡ min (hangs G x z) (hangs G z y)
  hangs_between_strict j s t =
      let xz = between_connected (plain G) x z y j b in
      let zy = insep_trans (plain G) (insep_sym (plain G) xz) j in
      let u = hangs_least G x z xz s in
      let w = hangs_least G z y zy t in
      let low : (U : NodeSet) → U x ≡ true → U y ≡ false → cut U (plain G) ≤ 1 → min (hangs G x z) (hangs G z y) ≤ cut_names U G = λ U p q c.
      on_bool (U z) (λ r. omega (arith, w.low U r q c)) (λ r. omega (arith, u.low U p r c)) in
      let (U, p, q, c, n) = u.some in
      let (W, r, k, d, m) = w.some in
      on_bool (leb (hangs G x z) (hangs G z y))
      (λ l. let l' = leb-true (hangs G x z) (hangs G z y) l in
      least_hangs G x y (min (hangs G x z) (hangs G z y)) j (record { some = (U, p, parts_first U p q c, c, omega arith); low = low }))
      (λ l. let l' = leb-false (hangs G x z) (hangs G z y) l in
      least_hangs G x y (min (hangs G x z) (hangs G z y)) j (record { some = (W, parts_second W r k d, k, d, omega arith); low = low }))

-- also where z is in the class of x or of y
pub hangs_between : (G : Named) (x z y : ℕ) → Sixteen G → Connected (plain G) x y → Between (plain G) x z y → hangs G x y ≡ min (hangs G x z) (hangs G z y)
hangs_between G x z y w j b =
    on_two_edge (plain G) x z
    (λ s. on_two_edge (plain G) z y (hangs_between_strict G x z y b j s)
    (λ t. omega (arith, hangs_class G z y t, hangs_same G x y x z (insep_refl (plain G) x) (insep_sym (plain G) t), hangs_sixteen G x y w j)))
    (λ t. omega (arith, hangs_class G x z t, hangs_same G x y z y t (insep_refl (plain G) y), hangs_sixteen G x y w j))

-- ---- one step of the pass: from q, whose way to k is known, over the entry between p and q
module _ (G : Named) (W : NodeSet) (c : cut W (plain G) ≤ 1) (p q n : ℕ) (m : Memᴰ ((p, q), n) G ⊎ Memᴰ ((q, p), n) G) (Wp : W p ≡ true) (Wq : W q ≡ false) where
  pub hangs_step : (k : ℕ) → Connected (plain G) q k → W k ≡ false → Separated 1 (plain G) q k → hangs G p k ≡ min n (hangs G q k)
  hangs_step k j Wk s =
      hangs_between_strict G p q k (over_between G W c p q n m Wp Wq k j Wk) (insep_trans (plain G) (connected G W c p q n m Wp Wq) j) (W, Wp, Wq, c) s
      ∙ ap (λ (l : ℕ). min l (hangs G q k)) (hangs_over G W c p q n m Wp Wq)

-- an entry whose loss parts its ends
pub hangs_bridge : (A : Named) (e : Entry) (B : Named) → joined (plain (A ++ B)) e.0.0 e.0.1 ≡ false → hangs (A ++ e ∷ B) e.0.0 e.0.1 ≡ e.1
hangs_bridge A e B f =
    let E = plain (A ++ B) in
    let R = reach E e.0.0 in
    let Rx = reach_self E e.0.0 in
    let Ry : R e.0.1 ≡ false = on_bool (R e.0.1) (λ t. contradict (joined_from E e.0.0 e.0.1 (reach_connected E e.0.0 e.0.1 t)) f) (λ f. f) in
    hangs_over (A ++ e ∷ B) R (omega (arith, cut_entry R A e B, reach_closed E e.0.0, ap₂ crosses Rx Ry)) e.0.0 e.0.1 e.1 (inl (entry_of A)) Rx Ry
  where
    entry_of : (A : Named) → Memᴰ e (A ++ e ∷ B)
    entry_of [] = Memᴰ.head refl
    entry_of (f ∷ A) = Memᴰ.tail (entry_of A)
