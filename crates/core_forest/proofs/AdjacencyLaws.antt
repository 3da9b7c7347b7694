-- Laws of linking: one half-edge; what stays.
-- Assumes nothing.
use Prim.Native.Nat.{◌%◌, ◌*◌, ◌+◌, ◌-◌, ◌/◌, ◌<◌, ◌≤◌, ℕ}
use mathlib.Core.List.{List}
use mathlib.Core.Path.{◌∙◌, ◌≡◌, ap, refl, sym}
use lib.Dec.{eqb}
use lib.ListN.{get_or}
use native.Mathlib.Omega.{arith}
use borrow.Author.Tests.{eqb-false, eqb-true}
use Rattle.core_forest.proofs.HalfEdges.{twin_back, twin_even, twin_odd}
use Rattle.core_forest.specs.AdjacencyLists.{LastFrom, Linking, origin, twin}
use Rattle.theory_graph.proofs.Booleans.{on_bool}
use Rattle.core_words.proofs.FieldLaws.{update_at, update_other}
use Rattle.core_words.specs.Fields.{HEAD, NAME, NEXT, TO, Put, PutHalf, half, node, update}

pub last_here : (out : ℕ → ℕ) (v i : ℕ) → out i ≡ v → LastFrom out v (i + 1) (i + 1)
last_here out v i e = record { below = omega arith; at = λ _. let q : i + 1 - 1 ≡ i = omega arith in ap out q ∙ e; gap = λ h l k _. omega arith }

pub last_more : (out : ℕ → ℕ) (u i c : ℕ) → (out i ≡ u → ⊥) → LastFrom out u i c → LastFrom out u (i + 1) c
last_more out u i c ne l = record {
  below = omega (arith, l.below);
  at = l.at;
  gap = λ h a b e. on_bool (eqb h i) (λ q. ne (ap out (sym (eqb-true h i q)) ∙ e)) (λ q. let z : ¬ (h ≡ i) = eqb-false h i q in l.gap h a (omega arith) e);
}

module _ {n m h v : ℕ} {w : List ℕ} (k : Linking n m w w h) (l : h < 2 * m) (ev : v ≡ origin (half n TO w) h) where
  pub v_fits : v < n
  v_fits = let b = twin_back (half n TO w) m h l in rw (ev, ← b.1) (k.ends (twin h) b.0)

  pub half_linked : {x : ℕ} {w₁ w₂ : List ℕ} → x ≡ node HEAD w v → PutHalf n NEXT h x w w₁ → Put HEAD v (h + 1) w₁ w₂ → Linking n m w w₂ (h + 1)
  half_linked {x} {w₁} {w₂} ex p q = record {
    few = k.few;
    much = k.much;
    room = rw (q.same, p.same) k.room;
    ends = rw tos k.ends;
    links = record {
      heads = rw (tos, q.here) (update_at (λ u y. u < n → LastFrom to u (h + 1) y) (node HEAD w₁) v (h + 1)
          (λ _. last_here to v h (sym ev))
          (λ u ne i. rw (p.nodes HEAD (omega arith) u i) (last_more to u h (node HEAD w u) (λ e. ne (sym e ∙ sym ev)) (k.links.heads u i))));
      nexts = rw (tos, nexts) (update_at (λ j y. j < h + 1 → LastFrom to (to j) j y) (half n NEXT w) h x
          (λ _. rw (← ev, ex) (k.links.heads v v_fits))
          (λ j ne i. k.links.nexts j (omega arith)));
    };
    same = q.same ∙ p.same;
    tos = tos;
    names = q.halves n v_fits NAME ∙ p.else NAME (omega arith) (λ e. omega arith);
    past = λ j i. ap (λ f. f j) nexts ∙ update_other (half n NEXT w) h x j (λ e. omega arith);
    nodes = λ j i ne u b. ap (λ f. f u) (q.else j i ne) ∙ p.nodes j i u b;
  }
    where
      to : ℕ → ℕ
      to = origin (half n TO w)

      tos : half n TO w₂ ≡ half n TO w
      tos = q.halves n v_fits TO ∙ p.else TO (omega arith) (λ e. omega arith)

      nexts : half n NEXT w₂ ≡ update (half n NEXT w) h x
      nexts = q.halves n v_fits NEXT ∙ p.here

-- from the words as they are
pub linking_self : {n m i : ℕ} {a w : List ℕ} → Linking n m a w i → Linking n m w w i
linking_self k = record { few = k.few; much = k.much; room = k.room; ends = k.ends; links = k.links; same = refl; tos = refl; names = refl; past = λ h l. refl; nodes = λ j i ne v l. refl }

pub even_leaves : (to : ℕ → ℕ) (e y : ℕ) → y ≡ to (2 * e + 1) → y ≡ origin to (2 * e)
unfolding origin
even_leaves to e y q = q ∙ sym (ap to (twin_even e))

pub odd_leaves : {n m i : ℕ} {a w : List ℕ} → Linking n m a w i → (e x : ℕ) → x ≡ half n TO a (2 * e) → x ≡ origin (half n TO w) (2 * e + 1)
unfolding origin
odd_leaves {n} {w = w} k e x q = q ∙ sym (ap (λ f. f (2 * e)) k.tos) ∙ sym (ap (half n TO w) (twin_odd e))

-- the words behind the half-edges stay: each is a field of a half-edge
pub linking_past : {n m i : ℕ} {a w : List ℕ} → Linking n m a w i → (j : ℕ) → 16 * n + 6 * m ≤ j → get_or w j 0 ≡ get_or a j 0
unfolding half
linking_past {n} {m} {a = a} {w} k j l =
    let h = (j - 16 * n) / 3 in
    on_bool (eqb ((j - 16 * n) % 3) 0)
    (λ t. let z = eqb-true ((j - 16 * n) % 3) 0 t in at 0 (omega arith) (ap (λ f. f h) k.tos))
    (λ t. let y : ¬ ((j - 16 * n) % 3 ≡ 0) = eqb-false ((j - 16 * n) % 3) 0 t in
    on_bool (eqb ((j - 16 * n) % 3) 1)
    (λ t. let z = eqb-true ((j - 16 * n) % 3) 1 t in at 1 (omega arith) (k.past h (omega arith)))
    (λ t. let z : ¬ ((j - 16 * n) % 3 ≡ 1) = eqb-false ((j - 16 * n) % 3) 1 t in at 2 (omega arith) (ap (λ f. f h) k.names)))
  where
    at : (f : ℕ) → j ≡ 16 * n + 3 * ((j - 16 * n) / 3) + f
        → get_or w (16 * n + 3 * ((j - 16 * n) / 3) + f) 0 ≡ get_or a (16 * n + 3 * ((j - 16 * n) / 3) + f) 0 → get_or w j 0 ≡ get_or a j 0
    at f q e = ap (λ p. get_or w p 0) q ∙ e ∙ ap (λ p. get_or a p 0) (sym q)
