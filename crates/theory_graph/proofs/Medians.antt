-- Medians and betweenness (docs/theory.md 5): any three nodes of one piece have a median, a node that lies in each small cut just where two of the three do,
-- and two medians are in one class. First the existence, then the laws of Median, then those of Between.
-- Assumes nothing.
use Prim.Native.Nat.{◌<◌, ◌≤◌, ℕ}
use mathlib.Core.Bool.{Bool, ◌&&◌, ◌||◌, false, not, true}
use mathlib.Core.List.{List}
use mathlib.Core.Path.{◌∙◌, ◌≡◌, ap, ap₂, refl, sym}
use native.Mathlib.Omega.{arith}
use Rattle.theory_graph.proofs.Adjacency.{adj_closed, adj_induced, adj_out, adj_union, crossing_edge, induced_closed, induced_le, induced_split}
use Rattle.theory_graph.proofs.Booleans.{contradict, majority, majority_not, majority_same, majority_swap12, majority_swap23, on_bool}
use Rattle.theory_graph.proofs.CutOffs.{cut_off, cut_off_complete, cut_off_sound}
use Rattle.theory_graph.proofs.Cuts.{cut_complement}
use Rattle.theory_graph.proofs.Reach.{reach, reach_closed, reach_connected, reach_least, reach_self}
use Rattle.theory_graph.proofs.Separation.{cuts_uncrossed, insep_cut, insep_sym, insep_trans, same_side}
use Rattle.theory_graph.specs.Cut.{Between, Connected, TwoEdgeConnected, ◌∖◌, ◌∩◌, ◌∪◌, crosses, cut, ∁}
use Rattle.theory_graph.specs.Graph.{Edge, NodeSet, induced}
use Rattle.theory_graph.specs.Route.{Adjacent}

-- W has p and x, U has q and a, neither has b
no_pair : (E : List Edge) (U W : NodeSet) (p q x a b : ℕ) → Adjacent p q E → cut U E ≤ 1 → cut W E ≤ 1 → Connected E p b → Connected E x b → Connected E a b
    → W p ≡ true → W q ≡ false → W x ≡ true → W a ≡ false → W b ≡ false → U q ≡ true → U x ≡ false → U a ≡ true → U b ≡ false → ⊥
no_pair E U W p q x a b n hU hW pb xb ab Wp Wq Wx Wa Wb Uq Ux Ua Ub =
    on_bool (U p)
    (λ Up. cuts_uncrossed E U W p x a b hU hW pb xb ab Up Wp Ux Wx Ua Wa Ub Wb)
    (λ Up. omega (arith, adj_union W U n Wp Wq Up Uq, insep_cut E ab (W ∪ U) (ap₂ ◌||◌ Wa Ua) (ap₂ ◌||◌ Wb Ub)))

unfoldable pub HalfMedian : List Edge → ℕ → ℕ → ℕ → ℕ → Type 0
HalfMedian E x y w m = (U : NodeSet) → cut U E ≤ 1 → U m ≡ true → majority (U x) (U y) (U w) ≡ true

module _ (E : List Edge) (x y w : ℕ) (xy : Connected E x y) (xw : Connected E x w) where
  abbrev P : NodeSet
  P v = cut_off E v y w

  -- a set that has m, where m is no node of P, has y or w
  not_both : (m : ℕ) → P m ≡ false → (U : NodeSet) → cut U E ≤ 1 → U m ≡ true → (U y || U w) ≡ true
  not_both m h U c a =
      on_bool (U y) (λ b. ap (λ z. z || U w) b) λ b.
      on_bool (U w) (λ e. ap₂ ◌||◌ b e) λ e. contradict (cut_off_complete E m y w (U, a, b, e, c)) h

  walk : P x ≡ true → (m : ℕ) × HalfMedian E x y w m
  unfolding HalfMedian
  walk h =
      let K = induced P E in
      let R = reach K x in
      let Py : P y ≡ false = on_bool (P y) (λ t. let s = cut_off_sound E y y w t in contradict s.1 s.2) (λ f. f) in
      let Ry : R y ≡ false = on_bool (R y) (λ r. contradict (reach_least K P (induced_closed P E) x y h r) Py) (λ f. f) in
      let (p, q, Rp, Rq, n) = crossing_edge R E (insep_cut E xy R (reach_self K x) Ry) in
      let Pp : P p ≡ true = reach_least K P (induced_closed P E) x p h Rp in
      let Pq : P q ≡ false = on_bool (P q) (λ t. contradict (sym (adj_closed R (adj_induced P n Pp t) (reach_closed K x)) ∙ Rp) Rq) (λ f. f) in
      let (W, Wp, Wy, Ww, hW) = cut_off_sound E p y w Pp in
      let Wq : W q ≡ false = on_bool (W q) (λ t. contradict (cut_off_complete E q y w (W, t, Wy, Ww, hW)) Pq) (λ f. f) in
      let hK : cut W K ≤ 0 = omega (arith, adj_out P W n Pq, ap₂ crosses Wp Wq) in
      let Wx : W x ≡ true = on_bool (W x) (λ t. t) (λ f. contradict (reach_least K (∁ W) (omega (arith, cut_complement W K)) x p (ap not f) Rp) (ap not Wp)) in
      let xp : Connected E x p = λ s. reach_connected K x p Rp (s.0, s.1, s.2, omega (arith, induced_le P s.0 E)) in
      let px = insep_sym E xp in
      let yw = insep_trans E (insep_sym E xy) xw in (
        q,
        λ U c a.
            on_bool (U x) (λ Ux. rw Ux (ap (λ z. z || U y && U w) (not_both q Pq U c a))) λ Ux.
            on_bool (U y)
            (λ Uy. on_bool (U w) (λ Uw. rw (Ux, Uy, Uw)) λ Uw. absurd (no_pair E U W p q x y w n c hW (insep_trans E px xw) xw yw Wp Wq Wx Wy Ww a Ux Uy Uw))
            (λ Uy. on_bool (U w) (λ Uw. absurd (no_pair E U W p q x w y n c hW (insep_trans E px xy) xy (insep_sym E yw) Wp Wq Wx Ww Wy a Ux Uw Uy)) λ Uw.
            contradict (not_both q Pq U c a) (ap₂ ◌||◌ Uy Uw)),
      )

  pub half_median : (m : ℕ) × HalfMedian E x y w m
  unfolding HalfMedian
  half_median = on_bool (P x) walk (λ h. (x, λ U c a. rw a (ap (λ z. z || U y && U w) (not_both x h U c a))))

pub half_median_is : (E : List Edge) (x y w m : ℕ) → HalfMedian E x y w m → (U : NodeSet) → cut U E ≤ 1 → U m ≡ majority (U x) (U y) (U w)
unfolding HalfMedian
half_median_is E x y w m h U c =
    on_bool (U m) (λ p. p ∙ sym (h U c p)) λ p.
    let k : not (majority (U x) (U y) (U w)) ≡ true = sym (majority_not (U x) (U y) (U w)) ∙ h (∁ U) (omega (arith, cut_complement U E)) (ap not p) in
    on_bool (majority (U x) (U y) (U w)) (λ q. contradict k (ap not q)) λ q. p ∙ sym q

-- z is the median of a, b, c
abbrev pub Median : List Edge → ℕ → ℕ → ℕ → ℕ → Type 0
Median E a b c z = (U : NodeSet) → cut U E ≤ 1 → U z ≡ majority (U a) (U b) (U c)

pub median : (E : List Edge) (a b c : ℕ) → Connected E a b → Connected E a c → (m : ℕ) × Median E a b c m
median E a b c ab ac = let (m, h) = half_median E a b c ab ac in (m, half_median_is E a b c m h)

pub median_swap12 : (E : List Edge) (a b c z : ℕ) → Median E a b c z → Median E b a c z
median_swap12 E a b c z m U h = m U h ∙ majority_swap12 (U a) (U b) (U c)

pub median_swap23 : (E : List Edge) (a b c z : ℕ) → Median E a b c z → Median E a c b z
median_swap23 E a b c z m U h = m U h ∙ majority_swap23 (U a) (U b) (U c)

pub median_same : (E : List Edge) (a c z : ℕ) → Median E a a c z → TwoEdgeConnected E z a
median_same E a c z m s = contradict s.1 (m s.0 s.3 ∙ majority_same (s.0 a) (s.0 c) ∙ s.2)

-- a median lies between each two
pub median_between : (E : List Edge) (a b c z : ℕ) → Median E a b c z → Between E a z b
median_between E a b c z m (U, p, q, r, h) = contradict p (m U h ∙ ap₂ (λ s t. majority s t (U c)) q r)

-- and is one if it does
pub between_median : (E : List Edge) (a b c z : ℕ) → Between E a z b → Between E b z c → Between E a z c → Median E a b c z
between_median E a b c z ab bc ac U h = on_bool (U z) (λ p. p ∙ sym (up U h p)) λ p.
    p ∙ sym (down (U a) (U b) (U c) (up (∁ U) (omega (arith, cut_complement U E)) (ap not p)))
  where
    go : (s t r : Bool) → (s ≡ false → t ≡ false → ⊥) → (t ≡ false → r ≡ false → ⊥) → (s ≡ false → r ≡ false → ⊥) → majority s t r ≡ true
    go true true r f g h = refl
    go true false true f g h = refl
    go true false false f g h = absurd (g refl refl)
    go false true true f g h = refl
    go false true false f g h = absurd (h refl refl)
    go false false r f g h = absurd (f refl refl)

    up : (U : NodeSet) → cut U E ≤ 1 → U z ≡ true → majority (U a) (U b) (U c) ≡ true
    up U h p = go (U a) (U b) (U c) (λ x y. ab (U, p, x, y, h)) (λ x y. bc (U, p, x, y, h)) (λ x y. ac (U, p, x, y, h))

    down : (s t r : Bool) → majority (not s) (not t) (not r) ≡ true → majority s t r ≡ false
    down true true r h = sym h
    down true false true h = sym h
    down true false false h = refl
    down false true true h = sym h
    down false true false h = refl
    down false false r h = refl

-- ---- between
pub between_sym : (E : List Edge) (x z y : ℕ) → Between E x z y → Between E y z x
between_sym E x z y n (U, a, b, c, h) = n (U, a, c, b, h)

pub between_class : (E : List Edge) (x z u y : ℕ) → TwoEdgeConnected E z u → Between E x z y → Between E x u y
between_class E x z u y t n (U, a, b, c, h) = n (U, same_side E z u t U h ∙ a, b, c, h)

-- z between p and q, and these between x and y
pub between_inside : (E : List Edge) (x y p q z : ℕ) → Between E p z q → Between E x p y → Between E x q y → Between E x z y
between_inside E x y p q z n a b (U, c, e, f, h) = on_bool (U p) (λ t. a (U, t, e, f, h)) λ s. on_bool (U q) (λ t. b (U, t, e, f, h)) λ t. n (U, c, s, t, h)

pub between_end : (E : List Edge) (x y : ℕ) → Between E x x y
between_end E x y (U, a, b, c, h) = contradict a b

-- B1
pub between_both : (E : List Edge) (z p q : ℕ) → Between E p z q → Between E z p q → TwoEdgeConnected E z p
between_both E z p q a b (U, Uz, Up, h) =
    on_bool (U q) (λ t. b (∁ U, ap not Up, ap not Uz, ap not t, omega (arith, cut_complement U E))) λ f. a (U, Uz, Up, f, h)

-- a node between is joined to both
pub between_connected : (E : List Edge) (x z y : ℕ) → Connected E x y → Between E x z y → Connected E x z
between_connected E x z y xy b s =
    b (∁ s.0, ap not s.2, ap not s.1, ap not (on_bool (s.0 y) (λ t. t) (λ f. absurd (xy (s.0, s.1, f, s.3)))), omega (arith, s.3, cut_complement s.0 E))

-- a small cut lies in one piece
pub cut_one_piece : (E : List Edge) (U : NodeSet) (a b c e : ℕ) → cut U E ≤ 1 → Connected E a b → Connected E c e → U a ≡ true → U b ≡ false → U c ≡ true → U e ≡ false → Connected E a c
cut_one_piece E U a b c e h ab ce Ua Ub Uc Ue =
    let R = reach E a in
    on_bool (R c) (reach_connected E a c) λ Rc.
    let p : 0 < cut (U ∩ R) E = insep_cut E ab (U ∩ R) (ap₂ ◌&&◌ Ua (reach_self E a)) (ap (λ s. s && R b) Ub) in
    let q : 0 < cut (U ∖ R) E = insep_cut E ce (U ∖ R) (ap₂ (λ s t. s && not t) Uc Rc) (ap (λ s. s && not (R e)) Ue) in
    absurd (omega (arith, induced_split U R E, induced_le U R E, reach_closed E a))

-- a median is joined to the three
pub median_connected : (E : List Edge) (a b c m : ℕ) → Connected E a b → Median E a b c m → Connected E m a
median_connected E a b c m ab M (U, p, q, h) =
    let r : U b ≡ false = on_bool (U b) (λ t. absurd (insep_sym E ab (U, t, q, h))) (λ f. f) in
    contradict p (M U (omega arith) ∙ ap₂ (λ s t. majority s t (U c)) q r)
