-- The smallest along the way, as a reader sees it: on any route that takes no entry twice, x and y hang on the smallest name of the entries of the route that join different classes.
-- These entries are the route between the two classes in the forest of classes, so a spliced edge takes the smallest name along it.
-- Assumes nothing.
use Prim.Native.Nat.{◌+◌, ◌<◌, ◌≤◌, ℕ}
use mathlib.Core.Bool.{Bool, cond, false, not, true}
use mathlib.Core.List.Memᴰ
use mathlib.Core.List.{List, Memᴰ, [], ◌∷◌}
use mathlib.Core.Path.{◌∙◌, ◌≡◌, ap, ap₂, refl, subst, sym}
use native.Mathlib.Omega.{arith}
use borrow.Author.Tests.{eqb-true}
use Rattle.theory_graph.proofs.Booleans.{and_elim, contradict, on_bool, or_elim}
use Rattle.theory_graph.proofs.CutOffs.{on_two_edge}
use Rattle.theory_graph.proofs.Cuts.{crosses_one, crosses_same, crosses_swap, crosses_zero, crossing, cut_complement, in_crossing}
use Rattle.theory_graph.proofs.Definitions.{joined_from, joined_to, two_edge_from, two_edge_not}
use Rattle.theory_graph.proofs.Reach.{connected_reach, reach, reach_closed, reach_least, reach_self}
use Rattle.theory_graph.proofs.Separation.{separated_sym}
use Rattle.theory_graph.specs.Cut.{Connected, Separated, crosses, cut, ∁}
use Rattle.theory_graph.specs.Graph.{NodeSet, joined, two_edge}
use Rattle.theory_graph.specs.Lists.{filter}
use Rattle.theory_names.proofs.Hangs.{hangs_class, least_hangs, least_in, least_low}
use Rattle.theory_names.proofs.NamedCuts.{entry_leaves, names_complement, names_one, plain_in}
use Rattle.theory_names.specs.NamedSmallGraph.{IsNamedSmallGraph}
use Rattle.theory_names.specs.Names.{Entry, Named, hangs, least, cut_names, plain}
use Rattle.theory_names.specs.Trail.{Trail, Without, back, bridge_names, fore, here, later, stay}

-- ---- an entry taken out
without_cut : (U : NodeSet) {e : Entry} {G K : Named} → Without e G K → cut U (plain G) ≡ crossing U e.0 + cut U (plain K)
without_cut U here = refl
without_cut U (later w) = omega (arith, without_cut U w)

without_in : {e : Entry} {G K : Named} → Without e G K → Memᴰ e G
without_in here = Memᴰ.head refl
without_in (later w) = Memᴰ.tail (without_in w)

without_more : {e f : Entry} {G K : Named} → Without e G K → Memᴰ f K → Memᴰ f G
without_more here m = Memᴰ.tail m
without_more (later w) (Memᴰ.head p) = Memᴰ.head p
without_more (later w) (Memᴰ.tail m) = Memᴰ.tail (without_more w m)

-- ---- the entries of a trail
pub trail_in : {G T : Named} {x y : ℕ} → Trail G x y T → {e : Entry} → Memᴰ e T → Memᴰ e G
trail_in (stay {G = G}) {e = e} x10 = elim x10 [ ]
trail_in (fore w t) (Memᴰ.head p) = Memᴰ.cast p (without_in w)
trail_in (fore w t) (Memᴰ.tail m) = without_more w (trail_in t m)
trail_in (back w t) (Memᴰ.head p) = Memᴰ.cast p (without_in w)
trail_in (back w t) (Memᴰ.tail m) = without_more w (trail_in t m)

trail_cut : (U : NodeSet) {G T : Named} {x y : ℕ} → Trail G x y T → cut U (plain T) ≤ cut U (plain G)
trail_cut U stay = omega arith
trail_cut U (fore w t) = omega (arith, without_cut U w, trail_cut U t)
trail_cut U (back w t) = omega (arith, without_cut U w, trail_cut U t)

-- one step, and the rest of the way, across a set that the whole way crosses at most once
step_over : (a b c : Bool) (n : ℕ) → crosses b c ≡ n → crosses a b + n ≤ 1 → crosses a c ≡ crosses a b + n
step_over true true true n p q = omega arith
step_over true true false n p q = omega arith
step_over true false true n p q = absurd (omega arith)
step_over true false false n p q = omega arith
step_over false true true n p q = omega arith
step_over false true false n p q = absurd (omega arith)
step_over false false true n p q = omega arith
step_over false false false n p q = omega arith

-- a set that at most one entry of a trail leaves is left by one just where it parts the trail's ends
trail_parts : (U : NodeSet) {G T : Named} {x y : ℕ} → Trail G x y T → cut U (plain T) ≤ 1 → crosses (U x) (U y) ≡ cut U (plain T)
trail_parts U {x = x} stay c = crosses_same {a = U x} refl
trail_parts U {x = x} {y = z} (fore {T = T} {y = y} w t) c = step_over (U x) (U y) (U z) (cut U (plain T)) (trail_parts U t (omega arith)) c
trail_parts U {x = x} {y = z} (back {T = T} {y = y} w t) c =
    let s = crosses_swap (U x) (U y) in
    omega (arith, step_over (U x) (U y) (U z) (cut U (plain T)) (trail_parts U t (omega arith)) (omega arith))

-- ---- the entries that join different classes
entry_filter : (f : Entry → Bool) (e : Entry) (T : Named) → Memᴰ e T → f e ≡ true → Memᴰ e (filter f T)
entry_filter f e [] m q = elim m [ ]
entry_filter f e (d ∷ T) m q = go (f d) refl m (λ n. entry_filter f e T n q)
  where
    go : (b : Bool) → f d ≡ b → Memᴰ e (d ∷ T) → (Memᴰ e T → Memᴰ e (filter f T)) → Memᴰ e (cond b (d ∷ filter f T) (filter f T))
    go true p (Memᴰ.head r) ih = Memᴰ.head r
    go true p (Memᴰ.tail n) ih = Memᴰ.tail (ih n)
    go false p (Memᴰ.head r) ih = contradict (sym (ap f r) ∙ q) p
    go false p (Memᴰ.tail n) ih = ih n

filter_entry : (f : Entry → Bool) (e : Entry) (T : Named) → Memᴰ e (filter f T) → Memᴰ e T × (f e ≡ true)
filter_entry f e [] m = absurd (elim m [ ])
filter_entry f e (d ∷ T) m = go (f d) refl m (filter_entry f e T)
  where
    go : (b : Bool) → f d ≡ b → Memᴰ e (cond b (d ∷ filter f T) (filter f T)) → (Memᴰ e (filter f T) → Memᴰ e T × (f e ≡ true)) → Memᴰ e (d ∷ T) × (f e ≡ true)
    go true p (Memᴰ.head r) ih = (Memᴰ.head r, ap f r ∙ p)
    go true p (Memᴰ.tail n) ih = let (k, q) = ih n in (Memᴰ.tail k, q)
    go false p n ih = let (k, q) = ih n in (Memᴰ.tail k, q)

module _ (G T : Named) (x y : ℕ) (t : Trail G x y T) where
  abbrev bridge : Entry → Bool
  bridge e = not (two_edge (plain G) e.0.0 e.0.1)

  -- an entry of the trail that alone leaves a set is one of them
  crossing_bridge : (U : NodeSet) (e : Entry) → cut U (plain G) ≤ 1 → Memᴰ e T → 0 < crossing U e.0 → Memᴰ e.1 (bridge_names G T)
  crossing_bridge U e c m l = Memᴰ.map (λ (e : Entry). e.1) (entry_filter bridge e T m (ap not (two_edge_not (plain G) e.0.0 e.0.1 parted)))
    where
      parted : Separated 1 (plain G) e.0.0 e.0.1
      parted = crosses_one (U e.0.0) (U e.0.1) l (λ p q. (U, p, q, c)) (λ p q. separated_sym (plain G) (U, q, p, c))

  -- a small cut that parts the trail's ends is left by one of them
  cut_bridge : (U : NodeSet) → U x ≡ true → U y ≡ false → cut U (plain G) ≤ 1 → Memᴰ (cut_names U G) (bridge_names G T)
  cut_bridge U p q c =
      let l = trail_cut U t in
      let k : 0 < cut U (plain T) = omega (arith, trail_parts U t (omega arith), ap₂ crosses p q) in
      let (e, m, d) = entry_leaves U T k in
      subst (λ (n : ℕ). Memᴰ n (bridge_names G T)) (sym (names_one U e c (trail_in t m) d)) (crossing_bridge U e c m d)

  -- each of them alone leaves a set that parts the trail's ends
  bridge_cut : (n : ℕ) → Memᴰ n (bridge_names G T) → (U : NodeSet) × (U x ≡ true) × (U y ≡ false) × (cut U (plain G) ≤ 1) × (cut_names U G ≡ n)
  bridge_cut n k =
      let (e, m, r) = Memᴰ.of_map (λ (e : Entry). e.1) (filter bridge T) k in
      let (i, b) = filter_entry bridge e T m in
      on_two_edge (plain G) e.0.0 e.0.1
      (λ (U, p, q, c).
      let d : 0 < crossing U e.0 = omega (arith, ap₂ crosses p q) in
      let l = trail_cut U t in
      let w : cut_names U G ≡ n = names_one U e c (trail_in t i) d ∙ r in
      let z : 0 < crosses (U x) (U y) = omega (arith, trail_parts U t (omega arith), in_crossing U e.0 (plain_in i) d) in
      crosses_one (U x) (U y) z
      (λ a b. (U, a, b, c, w))
      (λ a b. (∁ U, ap not a, ap not b, omega (arith, cut_complement U (plain G)), names_complement U G ∙ w)))
      (λ s. contradict b (ap not (two_edge_from (plain G) e.0.0 e.0.1 s)))

  trail_connected : Connected (plain G) x y
  trail_connected (U, p, q, c) = let l = trail_cut U t in omega (arith, trail_parts U t (omega arith), ap₂ crosses p q)

  pub hangs_trail : hangs G x y ≡ least (bridge_names G T)
  hangs_trail = go (bridge_names G T) cut_bridge bridge_cut
    where
      go : (ns : List ℕ) → ((U : NodeSet) → U x ≡ true → U y ≡ false → cut U (plain G) ≤ 1 → Memᴰ (cut_names U G) ns)
          → ((n : ℕ) → Memᴰ n ns → (U : NodeSet) × (U x ≡ true) × (U y ≡ false) × (cut U (plain G) ≤ 1) × (cut_names U G ≡ n)) → hangs G x y ≡ least ns
      go [] f b = hangs_class G x y (λ (U, p, q, c). let m = f U p q c in elim m [ ])
      go (n ∷ ns) f b =
          least_hangs G x y (least (n ∷ ns)) trail_connected (record { some = b (least (n ∷ ns)) (least_in n ns); low = λ U p q c. least_low (n ∷ ns) (f U p q c) })

-- each edge of a named small graph takes the smallest name along any such route between its two classes
pub edge_trail : (G : Named) (S : List ℕ) (h : ℕ) (H : Named) (ρ σ : ℕ → ℕ) → IsNamedSmallGraph G S h H ρ σ
    → (i j n : ℕ) → Memᴰ ((i, j), n) H → (T : Named) → Trail G (ρ i) (ρ j) T → n ≡ least (bridge_names G T)
edge_trail G S h H ρ σ g i j n m T t = g.name i j n m ∙ hangs_trail G T (ρ i) (ρ j) t

-- ---- joined nodes have such a route
trail_more : {f : Entry} {G T : Named} {x y : ℕ} → Trail G x y T → Trail (f ∷ G) x y T
trail_more stay = stay
trail_more (fore w t) = fore (later w) (trail_more t)
trail_more (back w t) = back (later w) (trail_more t)

-- two different entries are taken out in either order
taken_both : (U : NodeSet) {e f : Entry} {G K L : Named} → Without e G K → Without f G L → U e.0.0 ≡ false → U f.0.0 ≡ true → (M : Named) × Without e L M × Without f K M
taken_both U here here p q = contradict q p
taken_both U here (later w) p q = (_, here, w)
taken_both U (later w) here p q = (_, w, here)
taken_both U (later w) (later v) p q = let (M, a, b) = taken_both U w v p q in (_, later a, later b)

-- a trail outside a closed set does not need an entry inside it
trail_outside : (U : NodeSet) {f : Entry} {G K T : Named} {x y : ℕ} → cut U (plain G) ≤ 0 → U x ≡ false → U f.0.0 ≡ true → Without f G K → Trail G x y T → Trail K x y T
trail_outside U c p q v stay = stay
trail_outside U {f} c p q v (fore {x = x} {y = y} w t) =
    let (M, a, b) = taken_both U w v p q in
    fore a (trail_outside U (omega (arith, without_cut U w)) (sym (crosses_zero (U x) (U y) (omega (arith, without_cut U w))) ∙ p) q b t)
trail_outside U {f} c p q v (back {x = x} {y = y} w t) =
    let r : U y ≡ U x = crosses_zero (U y) (U x) (omega (arith, without_cut U w)) in
    let (M, a, b) = taken_both U w v (r ∙ p) q in
    back a (trail_outside U (omega (arith, without_cut U w)) (r ∙ p) q b t)

-- a trail inside a closed set, an entry that leads out of it, and a trail outside
abbrev Some : Named → ℕ → ℕ → Type 0
Some G x y = (T : Named) × Trail G x y T

trail_out : (U : NodeSet) (e : Entry) {K T₁ T₂ : Named} {x p a b : ℕ} → cut U (plain K) ≤ 0 → U x ≡ true → U a ≡ false → ((L T : Named) → Trail L a b T → Some (e ∷ L) p b)
    → Trail K x p T₁ → Trail K a b T₂ → Some (e ∷ K) x b
trail_out U e c q r over stay t = over _ _ t
trail_out U e c q r over (fore {x = x} {y = y} w s) t =
    let (T, k) = trail_out U e (omega (arith, without_cut U w)) (sym (crosses_zero (U x) (U y) (omega (arith, without_cut U w))) ∙ q) r over s (trail_outside U c r q w t) in
    (_, fore (later w) k)
trail_out U e c q r over (back {x = x} {y = y} w s) t =
    let u : U y ≡ true = crosses_zero (U y) (U x) (omega (arith, without_cut U w)) ∙ q in
    let (T, k) = trail_out U e (omega (arith, without_cut U w)) u r over s (trail_outside U c r u w t) in
    (_, back (later w) k)

reach_trail : (G : Named) (x y : ℕ) → reach (plain G) x y ≡ true → Some G x y
reach_trail [] x y r = ([], subst (λ (v : ℕ). Trail [] x v []) (eqb-true x y r) stay)
reach_trail (e ∷ G) x y r =
    let E = plain G in
    on_bool (reach E x y) (λ k. let (T, t) = reach_trail G x y k in (T, trail_more t)) λ n.
    let out : (z : ℕ) → reach E z y ≡ true → reach E x z ≡ false = λ z k. on_bool (reach E x z) (λ u. contradict (reach_least E (reach E x) (reach_closed E x) z y u k) n) (λ f. f) in
    or_elim _ _ r (λ k. contradict k n) λ r.
    or_elim _ _ r
    (λ r. and_elim _ _ r λ k m. let (T₁, s) = reach_trail G x e.0.0 k in let (T₂, t) = reach_trail G e.0.1 y m in
    trail_out (reach E x) e (reach_closed E x) (reach_self E x) (out e.0.1 m) (λ L T t. (_, fore here t)) s t)
    (λ r. and_elim _ _ r λ k m. let (T₁, s) = reach_trail G x e.0.1 k in let (T₂, t) = reach_trail G e.0.0 y m in
    trail_out (reach E x) e (reach_closed E x) (reach_self E x) (out e.0.0 m) (λ L T t. (_, back here t)) s t)

pub joined_trail : (G : Named) (x y : ℕ) → joined (plain G) x y ≡ true → (T : Named) × Trail G x y T
joined_trail G x y j = reach_trail G x y (connected_reach (plain G) x y (joined_to (plain G) x y j))

pub trail_joined : (G T : Named) (x y : ℕ) → Trail G x y T → joined (plain G) x y ≡ true
trail_joined G T x y t = joined_from (plain G) x y (trail_connected G T x y t)
