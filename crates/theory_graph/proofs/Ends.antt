-- Laws of ends_in, that both ends of each edge lie in a set: of a list by its members, of appended and of moved edges, at an index; such a set is closed.
-- Assumes nothing.
use Prim.Native.Nat.{◌<◌, ◌≤◌, suc, zero, ℕ}
use mathlib.Core.Bool.{◌&&◌, true}
use mathlib.Core.List.{List, Memᴰ, [], ◌++◌, ◌∷◌}
use mathlib.Core.Path.{◌∙◌, ◌≡◌, ap, ap₂, refl}
use lib.ListN.{get_or, length}
use native.Mathlib.Omega.{arith}
use Rattle.theory_graph.proofs.Booleans.{and_elim}
use Rattle.theory_graph.specs.Cut.{crosses, cut}
use Rattle.theory_graph.specs.Graph.{Edge, NodeSet}
use Rattle.theory_graph.specs.SmallGraph.{ends_in, image}

pub ends_in_mem : (N : NodeSet) (E : List Edge) → ((i j : ℕ) → Memᴰ (i, j) E → (N i ≡ true) × (N j ≡ true)) → ends_in N E ≡ true
ends_in_mem N [] f = refl
ends_in_mem N (e ∷ E) f = let (p, q) = f e.0 e.1 (Memᴰ.head refl) in ap₂ ◌&&◌ p (ap₂ ◌&&◌ q (ends_in_mem N E (λ i j m. f i j (Memᴰ.tail m))))

pub ends_in_of : (N : NodeSet) (E : List Edge) {e : Edge} → ends_in N E ≡ true → Memᴰ e E → (N e.0 ≡ true) × (N e.1 ≡ true)
ends_in_of N [] {e = e} h x'' = elim x'' [ ]
ends_in_of N (f ∷ E) h (Memᴰ.head p) = and_elim (N f.0) (N f.1 && ends_in N E) h λ a b. and_elim (N f.1) (ends_in N E) b λ c r.
    (ap (λ (e : Edge). N e.0) p ∙ a, ap (λ (e : Edge). N e.1) p ∙ c)
ends_in_of N (f ∷ E) h (Memᴰ.tail m) = and_elim (N f.0) (N f.1 && ends_in N E) h λ a b. and_elim (N f.1) (ends_in N E) b λ c r. ends_in_of N E r m

pub ends_in_append : (N : NodeSet) (E F : List Edge) → ends_in N E ≡ true → ends_in N F ≡ true → ends_in N (E ++ F) ≡ true
ends_in_append N [] F p q = q
ends_in_append N (e ∷ E) F p q = and_elim (N e.0) (N e.1 && ends_in N E) p λ a b. and_elim (N e.1) (ends_in N E) b λ c r. ap₂ ◌&&◌ a (ap₂ ◌&&◌ c (ends_in_append N E F r q))

pub ends_in_image : (M N : NodeSet) (σ : ℕ → ℕ) (F : List Edge) → ends_in M F ≡ true → ((v : ℕ) → M v ≡ true → N (σ v) ≡ true) → ends_in N (image σ F) ≡ true
ends_in_image M N σ [] p f = refl
ends_in_image M N σ (e ∷ F) p f =
    and_elim (M e.0) (M e.1 && ends_in M F) p λ a b. and_elim (M e.1) (ends_in M F) b λ c r. ap₂ ◌&&◌ (f e.0 a) (ap₂ ◌&&◌ (f e.1 c) (ends_in_image M N σ F r f))

-- by indices, and at one
pub ends_in_all : (N : NodeSet) (es : List Edge) → ((k : ℕ) → k < length es → (N (get_or es k (0, 0)).0 && N (get_or es k (0, 0)).1) ≡ true) → ends_in N es ≡ true
ends_in_all N [] f = refl
ends_in_all N (e ∷ es) f = and_elim (N e.0) (N e.1) (f 0 (omega arith)) λ p q. ap₂ ◌&&◌ p (ap₂ ◌&&◌ q (ends_in_all N es (λ k l. f (suc k) (omega arith))))

pub ends_in_at : (N : NodeSet) (es : List Edge) (k : ℕ) → k < length es → ends_in N es ≡ true → (N (get_or es k (0, 0)).0 ≡ true) × (N (get_or es k (0, 0)).1 ≡ true)
ends_in_at N [] k l h = absurd (omega arith)
ends_in_at N (e ∷ es) zero l h = and_elim (N e.0) (N e.1 && ends_in N es) h λ p q. and_elim (N e.1) (ends_in N es) q λ r s. (p, r)
ends_in_at N (e ∷ es) (suc k) l h = and_elim (N e.0) (N e.1 && ends_in N es) h λ p q. and_elim (N e.1) (ends_in N es) q λ r s. ends_in_at N es k (omega arith) s

pub ends_in_closed : (N : NodeSet) (E : List Edge) → ends_in N E ≡ true → cut N E ≤ 0
ends_in_closed N [] w = omega arith
ends_in_closed N (e ∷ E) w =
    and_elim (N e.0) (N e.1 && ends_in N E) w λ a u. and_elim (N e.1) (ends_in N E) u λ b v.
    let z : crosses (N e.0) (N e.1) ≡ 0 = ap₂ crosses a b in
    omega (arith, ends_in_closed N E v)
