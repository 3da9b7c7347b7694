-- Taking a class away (docs/theory.md 3, K1): nodes of the piece stay joined just where a small cut has the class and neither of them.
-- Assumes nothing.
use Prim.Native.Nat.{◌<◌, ◌≤◌, ℕ}
use mathlib.Core.Bool.{◌&&◌, false, not, true}
use mathlib.Core.List.{List}
use mathlib.Core.Path.{◌∙◌, ◌≡◌, ap, ap₂, sym}
use native.Mathlib.Omega.{arith}
use Rattle.theory_graph.proofs.Adjacency.{adj_closed, adj_induced, adj_out, crossing_edge, induced_closed, induced_mono, induced_split}
use Rattle.theory_graph.proofs.Booleans.{contradict, on_bool}
use Rattle.theory_graph.proofs.CutOffs.{cut_off, cut_off_complete, cut_off_sound}
use Rattle.theory_graph.proofs.Cuts.{cut_complement}
use Rattle.theory_graph.proofs.Reach.{reach, reach_closed, reach_connected, reach_least, reach_self}
use Rattle.theory_graph.proofs.Separation.{insep_cut, insep_sym}
use Rattle.theory_graph.specs.Cut.{Connected, CutOff, ◌∖◌, ◌∩◌, crosses, cut, ∁}
use Rattle.theory_graph.specs.Graph.{Edge, NodeSet, induced}

-- the edges that touch no node of z's class
unfoldable pub outside_class : List Edge → ℕ → List Edge
outside_class E z = induced (λ v. cut_off E z v v) E

-- one side of a small cut is joined by its own edges
side_connected : (E : List Edge) (U : NodeSet) (x y z : ℕ) → cut U E ≤ 1 → Connected E x z → Connected E y z → U z ≡ true → U x ≡ false → U y ≡ false → Connected (induced (∁ U) E) x y
side_connected E U x y z c xz yz Uz Ux Uy =
    let W = ∁ U in
    let R = reach (induced W E) x in
    reach_connected (induced W E) x y (on_bool (R y) (λ t. t) λ f.
    let p : 0 < cut (W ∩ R) E = insep_cut E xz (W ∩ R) (ap₂ ◌&&◌ (ap not Ux) (reach_self (induced W E) x)) (ap (λ b. not b && R z) Uz) in
    let q : 0 < cut (W ∖ R) E = insep_cut E yz (W ∖ R) (ap₂ (λ a b. not a && not b) Uy f) (ap (λ b. not b && not (R z)) Uz) in
    absurd (omega (arith, induced_split W R E, reach_closed (induced W E) x, cut_complement U E)))

-- K1
pub part_connected : (E : List Edge) (x y z : ℕ) → Connected E x z → Connected E y z → CutOff E z x y → Connected (outside_class E z) x y
unfolding outside_class
part_connected E x y z xz yz (U, Uz, Ux, Uy, c) s =
    side_connected E U x y z c xz yz Uz Ux Uy
    (s.0, s.1, s.2, omega (arith, induced_mono (λ v. cut_off E z v v) (∁ U) s.0 E (λ v h. cut_off_complete E z v v (U, Uz, out v h, out v h, c))))
  where
    out : (v : ℕ) → not (U v) ≡ true → U v ≡ false
    out v h = on_bool (U v) (λ t. contradict h (ap not t)) (λ f. f)

pub part_cut_off : (E : List Edge) (x y z : ℕ) → Connected E x z → cut_off E z x x ≡ true → Connected (outside_class E z) x y → CutOff E z x y
unfolding outside_class
part_cut_off E x y z xz nx j =
    let P : NodeSet = λ v. cut_off E z v v in
    let K = induced P E in
    let R = reach K x in
    let in_P : (v : ℕ) → R v ≡ true → P v ≡ true = λ v r. reach_least K P (induced_closed P E) x v nx r in
    let Pz : P z ≡ false = on_bool (P z) (λ t. let s = cut_off_sound E z z z t in contradict s.1 s.2) (λ f. f) in
    let Rz : R z ≡ false = on_bool (R z) (λ r. contradict (in_P z r) Pz) (λ f. f) in
    let (r, c, Rr, Rc, n) = crossing_edge R E (insep_cut E xz R (reach_self K x) Rz) in
    let Pr = in_P r Rr in
    let Pc : P c ≡ false = on_bool (P c) (λ t. contradict (sym (adj_closed R (adj_induced P n Pr t) (reach_closed K x)) ∙ Rr) Rc) (λ f. f) in
    let (W, Wz, Wr, _, h) = cut_off_sound E z r r Pr in
    let Wc : W c ≡ true = on_bool (W c) (λ t. t) (λ f. contradict (cut_off_complete E z c c (W, Wz, f, f, h)) Pc) in
    let hK : cut W K ≤ 0 = omega (arith, adj_out P W n Pc, ap₂ crosses Wr Wc) in
    let Wx : W x ≡ false = on_bool (W x) (λ t. contradict (reach_least K W hK x r t Rr) Wr) (λ f. f) in
    let Wy : W y ≡ false = on_bool (W y) (λ t. absurd (insep_sym K j (W, t, Wx, hK))) (λ f. f) in
    (W, Wz, Wx, Wy, h)
