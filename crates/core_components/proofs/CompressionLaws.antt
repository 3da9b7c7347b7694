-- Laws of the loops before and after merging: each node its own top, and each top final.
-- Assumes nothing.
use Prim.Native.Nat.{◌+◌, ◌-◌, ◌<◌, ◌≤◌, ℕ}
use mathlib.Core.List.{List}
use mathlib.Core.Path.{◌∙◌, ◌≡◌, ap, fun_ext, refl, sym}
use lib.Dec.{eqb}
use native.Mathlib.Omega.{arith}
use borrow.Author.Tests.{eqb-false, eqb-true}
use Rattle.core_components.proofs.FindLaws.{path_halve, path_none}
use Rattle.core_words.proofs.ChangeLaws.{only_then_put}
use Rattle.core_components.specs.Tops.{CanCompress, CanFind, Compressed, FindPath, OwnTops, Tops}
use Rattle.theory_graph.proofs.Booleans.{on_bool}
use Rattle.core_words.proofs.FieldLaws.{update_at}
use Rattle.core_words.specs.Fields.{ORDER, POSITION, TOP, Put, node, update}

pub own_more : {n v : ℕ} {a b c : List ℕ} → v < n → OwnTops n v a b → Put TOP v v b c → OwnTops n (v + 1) a c
own_more {n} {v} {a} {b} l o p = record {
  rest = only_then_put refl l o.rest p;
  self = rw p.here (update_at (λ u y. u < v + 1 → y ≡ u) (node TOP b) v v (λ _. refl) (λ u ne i. o.self u (omega arith)));
}

-- one step: v goes to the top of its top
compress_step : (n : ℕ) (pos t : ℕ → ℕ) (v : ℕ) → v < n → Tops n pos t → FindPath n pos t (update t v (t (t v))) v (t (t v))
compress_step n pos t v l h = on_bool (eqb (t v) v)
    (λ q.
    let e : t v ≡ v = eqb-true (t v) v q in
    let z : t (t v) ≡ v = ap t e ∙ e in
    let s : update t v (t (t v)) ≡ t = fun_ext (λ u. update_at (λ u y. y ≡ t u) t v (t (t v)) (z ∙ sym e) (λ u _. refl) u) in
    rw (s, z) (path_none n pos t v h l))
    (λ q. (path_halve n pos t t v v (path_none n pos t v h l) (eqb-false (t v) v q)).0)

module _ {n seen i v : ℕ} {a b : List ℕ} (f : CanCompress n seen a) (g : Compressed n i a b) (l : i < seen) (ev : v ≡ node ORDER b i) where
  k3 : node ORDER b ≡ node ORDER a
  k3 = g.rest.nodes ORDER (omega arith) refl

  k4 : node POSITION b ≡ node POSITION a
  k4 = g.rest.nodes POSITION (omega arith) refl

  v_fits : v < n
  v_fits = rw (ev, k3) (f.place i l).0

  v_at : node POSITION a v ≡ i + 1
  v_at = rw (ev, k3) (f.place i l).1

  pub compressed_can : CanFind n b v
  compressed_can = record { fit = v_fits; room = rw g.rest.same f.room; tops = rw k4 g.tops }

  pub compressed_more : {c : List ℕ} → Put TOP v (node TOP b (node TOP b v)) b c → Compressed n (i + 1) a c
  compressed_more {c} p = record {
    rest = only_then_put refl v_fits g.rest p;
    tops = rw p.here w.tops;
    back = λ u j e. g.back u j (w.back u j (sym (ap (λ h. h u) p.here) ∙ e));
    keep = λ D s. rw p.here (w.keep D (g.keep D s)).0;
    flat = rw p.here flat;
  }
    where
      t : ℕ → ℕ
      t = node TOP b

      x : ℕ
      x = t (t v)

      w : FindPath n (node POSITION a) t (update t v (t (t v))) v (t (t v))
      w = compress_step n (node POSITION a) t v v_fits g.tops

      -- the new top is a top
      tx : t x ≡ x
      tx = on_bool (eqb (t v) v)
          (λ q. let e : t v ≡ v = eqb-true (t v) v q in ap t (ap t e))
          (λ q. g.flat (t v) (g.tops.fit v v_fits) (omega (arith, g.tops.up v v_fits (eqb-false (t v) v q), v_at)))

      tx' : update t v x x ≡ x
      tx' = update_at (λ u y. u ≡ x → y ≡ x) t v x (λ _. refl) (λ u _ e. ap t e ∙ tx) x refl

      earlier : (u : ℕ) → u < n → (u ≡ v → ⊥) → node POSITION a u ≤ i + 1 → node POSITION a u ≤ i
      earlier u j ne q = on_bool (eqb (node POSITION a u) (i + 1))
          (λ r.
          let z : node POSITION a u ≡ i + 1 = eqb-true (node POSITION a u) (i + 1) r in
          absurd (ne (sym (f.place_of u j (omega arith)).1 ∙ ap (λ k. node ORDER a (k - 1)) (z ∙ sym v_at) ∙ (f.place_of v v_fits (omega (arith, v_at))).1)))
          (λ r. let z : ¬ (node POSITION a u ≡ i + 1) = eqb-false (node POSITION a u) (i + 1) r in omega arith)

      flat : (u : ℕ) → u < n → node POSITION a u ≤ i + 1 → update t v x (update t v x u) ≡ update t v x u
      flat = update_at (λ u y. u < n → node POSITION a u ≤ i + 1 → update t v x y ≡ y) t v x
          (λ _ _. tx')
          (λ u ne j q.
          let e : t (t u) ≡ t u = g.flat u j (earlier u j ne q) in
          update_at (λ y z. y ≡ t u → z ≡ t u) t v x (λ m. ap t (ap t m ∙ e) ∙ e) (λ y _ m. ap t m ∙ e) (t u) refl)
