-- Kept nodes (docs/theory.md 6): a node is kept if it is the median of three active nodes. Kept nodes are closed under medians.
-- Assumes nothing.
use Prim.Native.Nat.{◌≤◌, ℕ}
use mathlib.Core.Bool.{Bool, ◌&&◌, ◌||◌, false, true}
use mathlib.Core.List.{List, Memᴰ}
use mathlib.Core.Path.{◌∙◌, ◌≡◌, ap, ap₂, refl, sym}
use native.Mathlib.Omega.{arith}
use Rattle.theory_graph.proofs.Booleans.{contradict, majority, majority_same, on_bool}
use Rattle.theory_graph.proofs.CutOffs.{on_two_edge}
use Rattle.theory_graph.proofs.Cuts.{cut_submodular}
use Rattle.theory_graph.proofs.Medians.{Median, between_median, median_between, median_swap12, median_swap23}
use Rattle.theory_graph.proofs.Separation.{insep_cut, insep_refl, insep_trans, same_side, two_edge_connected}
use Rattle.theory_graph.specs.Cut.{Between, Connected, CutOff, Separated, TwoEdgeConnected, ◌∩◌, ◌∪◌, cut}
use Rattle.theory_graph.specs.Graph.{Edge, NodeSet}

-- ---- kept
pub record Kept (E : List Edge) (S : List ℕ) (z : ℕ) : Type 0 where
  pub a : ℕ
  pub b : ℕ
  pub c : ℕ
  pub in_a : Memᴰ a S
  pub in_b : Memᴰ b S
  pub in_c : Memᴰ c S
  pub to_a : Connected E z a
  pub to_b : Connected E z b
  pub to_c : Connected E z c
  pub mid : Median E a b c z

pub kept_class : (E : List Edge) (S : List ℕ) (z x : ℕ) → TwoEdgeConnected E z x → Kept E S x → Kept E S z
kept_class E S z x t k =
    let j = two_edge_connected E t in
    record {
      a = k.a;
      b = k.b;
      c = k.c;
      in_a = k.in_a;
      in_b = k.in_b;
      in_c = k.in_c;
      to_a = insep_trans E j k.to_a;
      to_b = insep_trans E j k.to_b;
      to_c = insep_trans E j k.to_c;
      mid = λ U h. same_side E z x t U h ∙ k.mid U h;
    }

pub kept_active : (E : List Edge) (S : List ℕ) (a : ℕ) → Memᴰ a S → Kept E S a
kept_active E S a m =
    record { a = a; b = a; c = a; in_a = m; in_b = m; in_c = m; to_a = insep_refl E a; to_b = insep_refl E a; to_c = insep_refl E a; mid = λ U h. sym (majority_same (U a) (U a)) }

-- two small cuts that have z, and a node joined to z that neither has
pub cut_meet : (E : List Edge) (U W : NodeSet) (z p : ℕ) → Connected E z p → cut U E ≤ 1 → cut W E ≤ 1 → U z ≡ true → W z ≡ true → U p ≡ false → W p ≡ false → cut (U ∩ W) E ≤ 1
cut_meet E U W z p j hU hW Uz Wz Up Wp = omega (arith, cut_submodular U W E, insep_cut E j (U ∪ W) (ap₂ ◌||◌ Uz Wz) (ap₂ ◌||◌ Up Wp))

-- a kept node has an active one on its side of a cut
pub kept_near : (E : List Edge) (S : List ℕ) (m x : ℕ) → Kept E S x → Separated 1 E m x → (a : ℕ) × Memᴰ a S × Connected E x a × CutOff E m x a
kept_near E S m x k (U, Um, Ux, h) =
    on_bool (U k.a) (λ p.
    on_bool (U k.b) (λ q. contradict (k.mid U h ∙ ap₂ (λ s t. majority s t (U k.c)) p q) Ux)
    (λ q. (k.b, k.in_b, k.to_b, (U, Um, Ux, q, h))))
    (λ p. (k.a, k.in_a, k.to_a, (U, Um, Ux, p, h)))

-- a is on x's side of m, and b on y's
pub between_near : (E : List Edge) (m x y a b : ℕ) → Connected E m a → Connected E m b → CutOff E m x a → CutOff E m y b → Between E x m y → Between E a m b
between_near E m x y a b ma mb (R, Rm, Rx, Ra, hR) (W, Wm, Wy, Wb, hW) n (U, Um, Ua, Ub, h) =
    let h1 : cut (U ∩ R) E ≤ 1 = cut_meet E U R m a ma h hR Um Rm Ua Ra in
    let h2 : cut (U ∩ R ∩ W) E ≤ 1 = cut_meet E (U ∩ R) W m b mb h1 hW (ap₂ ◌&&◌ Um Rm) Wm (ap (λ s. s && R b) Ub) Wb in
    n (U ∩ R ∩ W, ap₂ ◌&&◌ (ap₂ ◌&&◌ Um Rm) Wm, out_1 (U x) (R x) (W x) Rx, out_2 (U y && R y) (W y) Wy, h2)
  where
    out_1 : (s t r : Bool) → t ≡ false → ((s && t) && r) ≡ false
    out_1 true t r e = ap (λ t. t && r) e
    out_1 false t r e = refl

    out_2 : (s t : Bool) → t ≡ false → (s && t) ≡ false
    out_2 true t e = e
    out_2 false t e = refl

pub kept_median : (E : List Edge) (S : List ℕ) (x y w m : ℕ) → Kept E S x → Kept E S y → Kept E S w → Connected E m x → Connected E m y → Connected E m w → Median E x y w m → Kept E S m
kept_median E S x y w m kx ky kw mx my mw h =
    on_two_edge E m x (λ sx. on_two_edge E m y (λ sy. on_two_edge E m w (λ sw.
    let (a, ia, xa, A) = kept_near E S m x kx sx in
    let (b, ib, yb, B) = kept_near E S m y ky sy in
    let (c, ic, wc, C) = kept_near E S m w kw sw in
    let ma = insep_trans E mx xa in
    let mb = insep_trans E my yb in
    let mc = insep_trans E mw wc in
    let xy : Between E x m y = median_between E x y w m h in
    let yw : Between E y m w = median_between E y w x m (median_swap23 E y x w m (median_swap12 E x y w m h)) in
    let xw : Between E x m w = median_between E x w y m (median_swap23 E x y w m h) in
    record {
      a = a;
      b = b;
      c = c;
      in_a = ia;
      in_b = ib;
      in_c = ic;
      to_a = ma;
      to_b = mb;
      to_c = mc;
      mid = between_median E a b c m (between_near E m x y a b ma mb A B xy) (between_near E m y w b c mb mc B C yw) (between_near E m x w a c ma mc A C xw);
    })
    (λ t. kept_class E S m w t kw)) (λ t. kept_class E S m y t ky)) (λ t. kept_class E S m x t kx)
