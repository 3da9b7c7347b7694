-- Laws of `find`: following the tops, with the path halved, changes no top and no side of a set that the tops do not leave.
-- Assumes nothing.
use Prim.Native.Nat.{◌*◌, ◌<◌, ◌≤◌, ℕ}
use mathlib.Core.List.{List}
use mathlib.Core.Path.{◌∙◌, ◌≡◌, ap, refl}
use lib.Dec.{eqb}
use lib.ListN.{length}
use native.Mathlib.Omega.{arith}
use borrow.Author.Tests.{eqb-false, eqb-true}
use Rattle.core_components.specs.Tops.{FindPath, OnlyTops, Tops}
use Rattle.theory_graph.proofs.Booleans.{on_bool}
use Rattle.core_words.proofs.ChangeLaws.{only_then_put}
use Rattle.core_words.proofs.FieldLaws.{update_at}
use Rattle.core_words.specs.Fields.{POSITION, TOP, Put, node, update}

module _ (n : ℕ) (pos : ℕ → ℕ) where
  pub path_none : (t : ℕ → ℕ) (v : ℕ) → Tops n pos t → v < n → FindPath n pos t t v v
  path_none t v h l = record {
    tops = h;
    still = λ u i e. e;
    back = λ u i e. e;
    keep = λ D s. (s, refl);
    fit = l;
    low = omega arith;
  }

  -- one turn: v goes to the top of its top
  pub path_halve : (t t' : ℕ → ℕ) (v₀ v : ℕ) → FindPath n pos t t' v₀ v → (t' v ≡ v → ⊥) → FindPath n pos t (update t' v (t' (t' v))) v₀ (t' (t' v)) × (pos (t' (t' v)) < pos v)
  path_halve t t' v₀ v w ne = (
    record {
      tops = record {
        fit = update_at (λ u y. u < n → y < n) t' v x (λ l. w.tops.fit u₁ l₁) (λ u _. w.tops.fit u);
        up = update_at (λ u y. u < n → (y ≡ u → ⊥) → pos y < pos u) t' v x (λ _ _. lower) (λ u _. w.tops.up u);
      };
      still = update_at (λ u y. u < n → t u ≡ u → y ≡ u) t' v x (λ l e. absurd (ne (w.still v l e))) (λ u _. w.still u);
      back = update_at (λ u y. u < n → y ≡ u → t u ≡ u) t' v x (λ l e. absurd (no e)) (λ u _. w.back u);
      keep = λ D s.
          let k = w.keep D s in
          let e : D x ≡ D v = k.0 u₁ l₁ ∙ k.0 v w.fit in
          (update_at (λ u y. u < n → D y ≡ D u) t' v x (λ _. e) (λ u _. k.0 u), e ∙ k.1);
      fit = w.tops.fit u₁ l₁;
      low = omega (arith, lower, w.low);
    },
    lower,
  )
    where
      u₁ : ℕ
      u₁ = t' v

      x : ℕ
      x = t' (t' v)

      l₁ : t' v < n
      l₁ = w.tops.fit v w.fit

      lower : pos (t' (t' v)) < pos v
      lower =
          on_bool (eqb (t' (t' v)) (t' v))
          (λ e. let z : pos (t' (t' v)) ≡ pos (t' v) = ap pos (eqb-true _ _ e) in omega (arith, w.tops.up v w.fit ne))
          (λ e. omega (arith, w.tops.up v w.fit ne, w.tops.up (t' v) l₁ (eqb-false _ _ e)))

      no : t' (t' v) ≡ v → ⊥
      no e = let z : pos (t' (t' v)) ≡ pos v = ap pos e in omega (arith, lower, z)

-- the loop of `find`
pub record Finding (n v₀ : ℕ) (a : List ℕ) (v u : ℕ) (b : List ℕ) : Type 0 where
  pub rest : OnlyTops n a b
  pub path : FindPath n (node POSITION a) (node TOP a) (node TOP b) v₀ v
  pub next : u ≡ node TOP b v
  pub fit : u < n
  pub room : 16 * n ≤ length b

pub finding_more : {n v₀ v u x y : ℕ} {a b c : List ℕ} → Finding n v₀ a v u b → (u ≡ v → ⊥) → x ≡ node TOP b u → Put TOP v x b c → y ≡ node TOP c x
    → Finding n v₀ a x y c × (node POSITION a x < node POSITION a v)
finding_more {n} {v₀} {v} {u} {x} {y} {a} {b} {c} f ne ex p ey =
    let e : x ≡ node TOP b (node TOP b v) = rw ex (ap (node TOP b) f.next) in
    let m = path_halve n (node POSITION a) (node TOP a) (node TOP b) v₀ v f.path (λ z. ne (f.next ∙ z)) in
    let q : node TOP c ≡ update (node TOP b) v (node TOP b (node TOP b v)) = p.here ∙ ap (update (node TOP b) v) e in
    let w : FindPath n (node POSITION a) (node TOP a) (node TOP c) v₀ x = rw (q, e) m.0 in (
      record {
        rest = only_then_put refl f.path.fit f.rest p;
        path = w;
        next = ey;
        fit = rw ey (w.tops.fit x w.fit);
        room = rw p.same f.room;
      },
      rw e m.1,
    )
