-- The component of a node by the edges of E that lie in a set D of edges: it has the node, no edge of D leaves it, and it is the least such set. More edges reach more; the edges inside the component are enough.
-- Assumes nothing.
use Prim.Native.Nat.{◌≤◌, ℕ}
use mathlib.Core.Bool.{Bool, ◌&&◌, cond, false, true}
use mathlib.Core.List.{List, Memᴰ, [], ◌∷◌}
use mathlib.Core.Path.{◌∙◌, ◌≡◌, ap, ap₂, refl, subst, sym}
use native.Mathlib.Omega.{arith}
use Rattle.theory_graph.proofs.Booleans.{and_elim, contradict, on_bool}
use Rattle.theory_graph.proofs.Cuts.{crosses_same, crosses_zero}
use Rattle.theory_graph.proofs.Reach.{reach, reach_closed, reach_least, reach_self}
use Rattle.theory_graph.specs.Cut.{cut}
use Rattle.theory_graph.specs.Graph.{Edge, NodeSet}
use Rattle.theory_graph.specs.Lists.{filter}

-- ---- a set that no edge of D leaves, by its edges
cut_keep : (U : NodeSet) (b : Bool) (e : Edge) (F : List Edge) → cut U (cond b (e ∷ F) F) ≤ 0 → (b ≡ true → U e.0 ≡ U e.1) × (cut U F ≤ 0)
cut_keep U true e F h = (λ p. crosses_zero _ _ (omega arith), omega arith)
cut_keep U false e F h = (λ p. contradict p refl, h)

keep_cut : (U : NodeSet) (b : Bool) (e : Edge) (F : List Edge) → (b ≡ true → U e.0 ≡ U e.1) → cut U F ≤ 0 → cut U (cond b (e ∷ F) F) ≤ 0
keep_cut U true e F k h = omega (arith, crosses_same (k refl))
keep_cut U false e F k h = h

filter_closed : (D : Edge → Bool) (U : NodeSet) (f : Edge) (E : List Edge) → cut U (filter D E) ≤ 0 → Memᴰ f E → D f ≡ true → U f.0 ≡ U f.1
filter_closed D U f [] h x3 q = elim x3 [ ]
filter_closed D U f (e ∷ E) h (Memᴰ.head p) q = subst (λ (g : Edge). U g.0 ≡ U g.1) (sym p) ((cut_keep U (D e) e (filter D E) h).0 (ap D (sym p) ∙ q))
filter_closed D U f (e ∷ E) h (Memᴰ.tail m) q = filter_closed D U f E (cut_keep U (D e) e (filter D E) h).1 m q

pub closed_filter : (D : Edge → Bool) (U : NodeSet) (E : List Edge) → ((f : Edge) → Memᴰ f E → D f ≡ true → U f.0 ≡ U f.1) → cut U (filter D E) ≤ 0
closed_filter D U [] k = omega arith
closed_filter D U (e ∷ E) k = keep_cut U (D e) e (filter D E) (k e (Memᴰ.head refl)) (closed_filter D U E (λ f m. k f (Memᴰ.tail m)))

-- a set that no edge leaves
pub closed_cut : (U : NodeSet) (E : List Edge) → ((f : Edge) → Memᴰ f E → U f.0 ≡ U f.1) → cut U E ≤ 0
closed_cut U [] k = omega arith
closed_cut U (e ∷ E) k = omega (arith, crosses_same (k e (Memᴰ.head refl)), closed_cut U E (λ f m. k f (Memᴰ.tail m)))

-- ---- components
-- the nodes that the edges of D join to x
unfoldable pub within : List Edge → ℕ → (Edge → Bool) → NodeSet
within E x D = reach (filter D E) x

module _ (E : List Edge) (x : ℕ) where
  pub within_self : (D : Edge → Bool) → within E x D x ≡ true
  unfolding within
  within_self D = reach_self (filter D E) x

  pub within_closed : (D : Edge → Bool) (f : Edge) → Memᴰ f E → D f ≡ true → within E x D f.0 ≡ within E x D f.1
  unfolding within
  within_closed D f m p = filter_closed D (reach (filter D E) x) f E (reach_closed (filter D E) x) m p

  pub within_cut : (D : Edge → Bool) → cut (within E x D) (filter D E) ≤ 0
  unfolding within
  within_cut D = reach_closed (filter D E) x

  pub within_least : (D : Edge → Bool) (U : NodeSet) → ((f : Edge) → Memᴰ f E → D f ≡ true → U f.0 ≡ U f.1) → U x ≡ true → (v : ℕ) → within E x D v ≡ true → U v ≡ true
  unfolding within
  within_least D U k p v r = reach_least (filter D E) U (closed_filter D U E k) x v p r

  pub within_more : (D C : Edge → Bool) → ((f : Edge) → D f ≡ true → C f ≡ true) → (v : ℕ) → within E x D v ≡ true → within E x C v ≡ true
  within_more D C k v r = within_least D (within E x C) (λ f m p. within_closed C f m (k f p)) (within_self C) v r

  -- the edges of D that lie inside the component
  abbrev pub inner : (Edge → Bool) → Edge → Bool
  inner D f = D f && (within E x D f.0 && within E x D f.1)

  pub inner_part : (D : Edge → Bool) (f : Edge) → inner D f ≡ true → D f ≡ true
  inner_part D f h = and_elim (D f) _ h λ a b. a

  pub within_inner : (D : Edge → Bool) (v : ℕ) → within E x D v ≡ true → within E x (inner D) v ≡ true
  within_inner D v r = within_least D (within E x (inner D)) closed (within_self (inner D)) v r
    where
      out : (u : ℕ) → within E x D u ≡ false → within E x (inner D) u ≡ false
      out u q = on_bool (within E x (inner D) u) (λ t. contradict (within_more (inner D) D (inner_part D) u t) q) (λ t. t)

      closed : (f : Edge) → Memᴰ f E → D f ≡ true → within E x (inner D) f.0 ≡ within E x (inner D) f.1
      closed f m p =
          on_bool (within E x D f.0)
          (λ a. within_closed (inner D) f m (ap₂ ◌&&◌ p (ap₂ ◌&&◌ a (sym (within_closed D f m p) ∙ a))))
          (λ a. out f.0 a ∙ sym (out f.1 (sym (within_closed D f m p) ∙ a)))
