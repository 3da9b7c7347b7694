-- Laws of merging along a tree path: a top into the top of its parent; the loop of `merge_tops`, over functions and then at the words; and both ends found
-- first.
-- Assumes nothing.
use Prim.Native.Nat.{◌*◌, ◌<◌, ◌≤◌, ℕ}
use mathlib.Core.Bool.{Bool}
use mathlib.Core.List.{List}
use mathlib.Core.Logic.{⊎_elim}
use mathlib.Core.Path.{◌∙◌, ◌≡◌, ap, refl, sym}
use lib.Dec.{eqb, ltb}
use lib.ListN.{length}
use native.Mathlib.Omega.{arith}
use borrow.Author.Tests.{eq-eqb, eqb-true, lt-ltb, ltb-true}
use Rattle.core_words.proofs.ChangeLaws.{only_none, only_then, only_then_put}
use Rattle.core_components.specs.Tops.{AllowsMerge, CanFind, CanMergePath, CanMergeUp, FindPath, FollowsParents, Found, MergedPath}
use Rattle.core_components.specs.Tops.{MergedUp, MergedUpAt, OnlyTops, SameTree, SearchOrder, SeenTop, Stable, Tops}
use Rattle.core_words.proofs.FieldLaws.{update_at, update_other, update_same}
use Rattle.core_words.specs.Fields.{PARENT, POSITION, ROOT, TOP, Put, node, update}

pub merged_up : (n : ℕ) (pos par t t₁ : ℕ → ℕ) (a q : ℕ) → a < n → FindPath n pos t t₁ (par a) q → t₁ q ≡ q → t a ≡ a → pos (par a) < pos a → MergedUp n pos par t (update t₁ a q) a q
merged_up n pos par t t₁ a q l w tq ta up = record {
  tops = record {
    fit = update_at (λ u y. u < n → y < n) t₁ a q (λ _. w.fit) (λ u _. w.tops.fit u);
    up = update_at (λ u y. u < n → (y ≡ u → ⊥) → pos y < pos u) t₁ a q (λ _ _. low) (λ u _. w.tops.up u);
  };
  back = update_at (λ u y. u < n → y ≡ u → t u ≡ u) t₁ a q (λ _ _. ta) (λ u _. w.back u);
  still = update_at (λ u y. u < n → t u ≡ u → (u ≡ a → ⊥) → y ≡ u) t₁ a q (λ _ _ n. absurd (n refl)) (λ u _ l e _. w.still u l e);
  keep = λ D s e.
      let k = w.keep D s in
      (update_at (λ u y. u < n → D y ≡ D u) t₁ a q (λ _. k.1 ∙ e) (λ u _. k.0 u), k.1 ∙ e);
  moved = λ e. other (sym (update_same t₁ a q) ∙ e);
  fit = w.fit;
  top = update_other t₁ a q q other ∙ tq;
  low = low;
}
  where
    low : pos q < pos a
    low = omega (arith, w.low)

    other : q ≡ a → ⊥
    other e = let z : pos q ≡ pos a = ap pos e in omega (arith, w.low)

-- the same at the words
pub merged_up_at : {n a q p : ℕ} {w w₁ w₂ : List ℕ} → CanMergeUp n w a → p ≡ node PARENT w a → Found n w p q w₁ → Put TOP a q w₁ w₂ → MergedUpAt n w a q w₂
merged_up_at {n} {a} {q} {p} {w} {w₁} {w₂} r e f k = record {
  rest = only_then_put refl r.fit f.rest k;
  is = rw k.here (merged_up n (node POSITION w) (node PARENT w) (node TOP w) (node TOP w₁) a q r.fit (rw e at f.path) f.top r.top r.up);
}

pub record PathStep (n : ℕ) (pos par root : ℕ → ℕ) (x y : ℕ) (t₀ t : ℕ → ℕ) (a b : ℕ) : Type 0 where
  pub tops : Tops n pos t
  pub back : (u : ℕ) → u < n → t u ≡ u → t₀ u ≡ u
  pub full : (D : ℕ → Bool) → FollowsParents n par t D → Stable n t D × (D a ≡ D b → D x ≡ D y)
  pub keep : (D : ℕ → Bool) → AllowsMerge n pos par root x y D → Stable n t₀ D → Stable n t D × (D x ≡ D y → D a ≡ D b)
  pub fit : a < n
  pub fit' : b < n
  pub seen : 0 < pos a
  pub seen' : 0 < pos b
  pub top : t a ≡ a
  pub top' : t b ≡ b
  pub same : root a ≡ root b

module _ (n : ℕ) (pos par root : ℕ → ℕ) (o : SearchOrder n pos par root) (x y : ℕ) (t₀ : ℕ → ℕ) where
  pub step_flip : (t : ℕ → ℕ) (a b : ℕ) → PathStep n pos par root x y t₀ t a b → PathStep n pos par root x y t₀ t b a
  step_flip t a b c = record {
    tops = c.tops;
    back = c.back;
    full = λ D h. let k = c.full D h in (k.0, λ e. k.1 (sym e));
    keep = λ D h s. let k = c.keep D h s in (k.0, λ e. sym (k.1 e));
    fit = c.fit';
    fit' = c.fit;
    seen = c.seen';
    seen' = c.seen;
    top = c.top';
    top' = c.top;
    same = sym c.same;
  }

  -- the later of two tops of a tree is no root
  pub later_parent : (t : ℕ → ℕ) (a b : ℕ) → PathStep n pos par root x y t₀ t a b → pos b < pos a → (par a < n) × (0 < pos (par a)) × (pos (par a) < pos a) × (root (par a) ≡ root a)
  later_parent t a b c l = ⊎_elim
      (λ h. let z : pos (root b) ≡ pos a = ap pos (sym c.same ∙ h.0) in absurd (omega (arith, o.first b c.fit' c.seen')))
      (λ h. h)
      (o.kind a c.fit c.seen)

  pub later : (t : ℕ → ℕ) (a b : ℕ) → PathStep n pos par root x y t₀ t a b → (a ≡ b → ⊥) → pos b ≤ pos a → pos b < pos a
  later t a b c ne l = let z : pos a ≡ pos b → ⊥ = λ e. ne (o.one a b c.fit c.fit' c.seen e) in omega arith

  -- sets that part no node from its parent: a tree, and the seen nodes
  pub tree_follows : (t : ℕ → ℕ) → Tops n pos t → (r : ℕ) → FollowsParents n par t (λ u. eqb (root u) r)
  tree_follows t s r u l ne = ⊎_elim
      (λ h. ap (λ v. eqb (root v) r) (sym h.1))
      (λ h. ap (λ v. eqb v r) (sym h.3))
      (o.kind u l (omega (arith, s.up u l ne)))

  pub seen_follows : (t : ℕ → ℕ) → Tops n pos t → FollowsParents n par t (λ u. ltb 0 (pos u))
  seen_follows t s u l ne = ⊎_elim
      (λ h. ap (λ v. ltb 0 (pos v)) (sym h.1))
      (λ h. lt-ltb 0 (pos u) (omega arith) ∙ sym (lt-ltb 0 (pos (par u)) h.1))
      (o.kind u l (omega (arith, s.up u l ne)))

  pub step_more : (t t' : ℕ → ℕ) (a b q : ℕ) → PathStep n pos par root x y t₀ t a b → pos b < pos a → MergedUp n pos par t t' a q → PathStep n pos par root x y t₀ t' q b
  step_more t t' a b q c l r = record {
    tops = r.tops;
    back = λ u i e. c.back u i (r.back u i e);
    full = λ D h.
        let k = c.full D (λ u i ne. h u i (λ e. ne (r.back u i e))) in
        let m = r.keep D k.0 (sym (h a c.fit r.moved)) in
        (m.0, λ e. k.1 (sym m.1 ∙ e));
    keep = λ D h s.
        let k = c.keep D h s in
        let m = r.keep D k.0 (h a b c.fit c.fit' c.seen' l c.same k.1) in
        (m.0, λ e. m.1 ∙ k.1 e);
    fit = r.fit;
    fit' = c.fit';
    seen = ltb-true 0 (pos q) (at_q (λ u. ltb 0 (pos u)) (seen_follows t c.tops) (lt-ltb 0 (pos (par a)) h.1 ∙ sym (lt-ltb 0 (pos a) c.seen)) ∙ lt-ltb 0 (pos a) c.seen);
    seen' = c.seen';
    top = r.top;
    top' = r.still b c.fit' c.top' (λ e. let z : pos b ≡ pos a = ap pos e in omega arith);
    same = eqb-true (root q) (root a) (at_q (λ u. eqb (root u) (root a)) (tree_follows t c.tops (root a)) (ap (λ v. eqb v (root a)) h.3) ∙ eq-eqb (root a) (root a) refl) ∙ c.same;
  }
    where
      h : (par a < n) × (0 < pos (par a)) × (pos (par a) < pos a) × (root (par a) ≡ root a)
      h = later_parent t a b c l

      at_q : (D : ℕ → Bool) → FollowsParents n par t D → D (par a) ≡ D a → D q ≡ D a
      at_q D k e = (r.keep D (c.full D k).0 e).1

pub record PathLoop (n x y : ℕ) (w₀ : List ℕ) (a b : ℕ) (w : List ℕ) : Type 0 where
  pub rest : OnlyTops n w₀ w
  pub room : 16 * n ≤ length w
  pub go : PathStep n (node POSITION w₀) (node PARENT w₀) (node ROOT w₀) x y (node TOP w₀) (node TOP w) a b

pub loop_none : {n a b : ℕ} {w : List ℕ} → CanMergePath n w → SeenTop n w a → SeenTop n w b → node ROOT w a ≡ node ROOT w b → PathLoop n a b w a b w
loop_none {n} {a} {b} {w} r s s' e = record {
  rest = only_none n w;
  room = r.room;
  go = record {
    tops = r.tops;
    back = λ u i e. e;
    full = λ D h. (r.full D h, λ e. e);
    keep = λ D h s. (s, λ e. e);
    fit = s.fit;
    fit' = s'.fit;
    seen = s.seen;
    seen' = s'.seen;
    top = s.top;
    top' = s'.top;
    same = e;
  };
}

module _ {n x y a b : ℕ} {w₀ w : List ℕ} (r : CanMergePath n w₀) (m : PathLoop n x y w₀ a b w) where
  loop_flip : PathLoop n x y w₀ b a w
  loop_flip = record { rest = m.rest; room = m.room; go = step_flip n _ _ _ r.order x y _ _ a b m.go }

  e4 : node POSITION w ≡ node POSITION w₀
  e4 = m.rest.nodes POSITION (omega arith) refl

  e5 : node PARENT w ≡ node PARENT w₀
  e5 = m.rest.nodes PARENT (omega arith) refl

  loop_later : (a ≡ b → ⊥) → node POSITION w b ≤ node POSITION w a → node POSITION w₀ b < node POSITION w₀ a
  loop_later ne l = later n _ _ _ r.order x y _ _ a b m.go ne (rw e4 at l)

  pub loop_can : (a ≡ b → ⊥) → node POSITION w b ≤ node POSITION w a → CanMergeUp n w a
  loop_can ne l =
      let h = later_parent n _ _ _ r.order x y _ _ a b m.go (loop_later ne l) in
      record {
        few = r.few;
        fit = m.go.fit;
        room = m.room;
        tops = rw e4 m.go.tops;
        fit' = rw e5 h.0;
        up = rw (e4, e5) h.2;
        top = m.go.top;
      }

  pub loop_more : (a ≡ b → ⊥) → node POSITION w b ≤ node POSITION w a → {q : ℕ} {w' : List ℕ} → MergedUpAt n w a q w' → PathLoop n x y w₀ q b w' × (node POSITION w₀ q < node POSITION w₀ a)
  loop_more ne l {q} {w'} k =
      let i : MergedUp n (node POSITION w₀) (node PARENT w₀) (node TOP w) (node TOP w') a q = rw (e4, e5) at k.is in (
        record {
          rest = only_then m.rest k.rest;
          room = rw k.rest.same m.room;
          go = step_more n _ _ _ r.order x y _ _ _ a b q m.go (loop_later ne l) i;
        },
        i.low,
      )

module _ {n x y a b : ℕ} {w₀ w : List ℕ} (r : CanMergePath n w₀) (m : PathLoop n x y w₀ a b w) where
  pub loop_can' : (a ≡ b → ⊥) → node POSITION w a ≤ node POSITION w b → CanMergeUp n w b
  loop_can' ne l = loop_can r (loop_flip r m) (λ e. ne (sym e)) l

  pub loop_more' : (a ≡ b → ⊥) → node POSITION w a ≤ node POSITION w b → {q : ℕ} {w' : List ℕ} → MergedUpAt n w b q w' → PathLoop n x y w₀ a q w' × (node POSITION w₀ q < node POSITION w₀ b)
  loop_more' ne l k = let h = loop_more r (loop_flip r m) (λ e. ne (sym e)) l k in (loop_flip r h.0, h.1)

  pub loop_done : a ≡ b → MergedPath n w₀ x y w
  loop_done e = record {
    rest = m.rest;
    tops = m.go.tops;
    back = m.go.back;
    full = λ D h. let k = m.go.full D h in (k.0, k.1 (ap D e));
    keep = λ D h s. (m.go.keep D h s).0;
  }

module _ {n v r : ℕ} {w w₁ : List ℕ} (g : CanMergePath n w) (f : Found n w v r w₁) where
  s4 : node POSITION w₁ ≡ node POSITION w
  s4 = f.rest.nodes POSITION (omega arith) refl

  s5 : node PARENT w₁ ≡ node PARENT w
  s5 = f.rest.nodes PARENT (omega arith) refl

  s12 : node ROOT w₁ ≡ node ROOT w
  s12 = f.rest.nodes ROOT (omega arith) refl

  stable : (D : ℕ → Bool) → FollowsParents n (node PARENT w) (node TOP w₁) D → Stable n (node TOP w) D
  stable D h = g.full D (λ u i ne. h u i (λ e. ne (f.path.back u i e)))

  pub ready_after : CanMergePath n w₁
  ready_after = record {
    few = g.few;
    room = rw f.rest.same g.room;
    tops = rw s4 f.path.tops;
    order = rw (s4, s5, s12) g.order;
    full = λ D h. (f.path.keep D (stable D (rw s5 at h))).0;
  }

  at_r : (D : ℕ → Bool) → FollowsParents n (node PARENT w) (node TOP w) D → D r ≡ D v
  at_r D h = (f.path.keep D (g.full D h)).1

  pub top_after : 0 < node POSITION w v → SeenTop n w₁ r × (node ROOT w₁ r ≡ node ROOT w v)
  top_after l = (
    record {
      fit = f.path.fit;
      seen = rw s4 (ltb-true 0 (node POSITION w r)
          (at_r (λ u. ltb 0 (node POSITION w u)) (seen_follows n _ _ _ g.order 0 0 (node TOP w) (node TOP w) g.tops) ∙ lt-ltb 0 (node POSITION w v) l));
      top = f.top;
    },
    rw s12 (eqb-true (node ROOT w r) (node ROOT w v)
        (at_r (λ u. eqb (node ROOT w u) (node ROOT w v)) (tree_follows n _ _ _ g.order 0 0 (node TOP w) (node TOP w) g.tops (node ROOT w v))
        ∙ eq-eqb (node ROOT w v) (node ROOT w v) refl)),
  )

  pub top_still : {a : ℕ} → SeenTop n w a → SeenTop n w₁ a
  top_still {a} s = record { fit = s.fit; seen = rw s4 s.seen; top = f.path.still a s.fit s.top }

  pub merged_first : {y : ℕ} {w₂ : List ℕ} → MergedPath n w₁ r y w₂ → MergedPath n w v y w₂
  merged_first {y} {w₂} j = record {
    rest = only_then f.rest j.rest;
    tops = rw s4 at j.tops;
    back = λ u i e. f.path.back u i (j.back u i e);
    full = λ D h.
        let k = j.full D (rw s5 h) in
        let c : FollowsParents n (node PARENT w) (node TOP w) D = λ u i ne. h u i (λ e. ne (f.path.back u i (j.back u i e))) in
        (k.0, sym (at_r D c) ∙ k.1);
    keep = λ D h s.
        let k = f.path.keep D s in
        let l : AllowsMerge n (node POSITION w) (node PARENT w) (node ROOT w) r y D = λ a b i m p q e z. h a b i m p q e (λ x. z (k.1 ∙ x)) in
        j.keep D (rw (s4, s5, s12) l) k.0;
  }

pub merged_flip : {n x y : ℕ} {w w' : List ℕ} → MergedPath n w x y w' → MergedPath n w y x w'
merged_flip j = record {
  rest = j.rest;
  tops = j.tops;
  back = j.back;
  full = λ D h. let k = j.full D h in (k.0, sym k.1);
  keep = λ D h s. j.keep D (λ a b i m p q e z. h a b i m p q e (λ x. z (sym x))) s;
}

module _ {n x y a : ℕ} {w w₁ : List ℕ} (g : CanMergePath n w) (p : SameTree n w x y) (f : Found n w x a w₁) where
  pub second : CanFind n w₁ y
  second = record { fit = p.fit'; room = (ready_after g f).room; tops = (ready_after g f).tops }

  module _ {b : ℕ} {w₂ : List ℕ} (f' : Found n w₁ y b w₂) where
    y_seen : 0 < node POSITION w₁ y
    y_seen = rw (s4 g f) p.seen'

    pub to_tops : CanMergePath n w₂ × SeenTop n w₂ a × SeenTop n w₂ b × (node ROOT w₂ a ≡ node ROOT w₂ b)
    to_tops =
        let g' = ready_after g f in
        let s = top_after g f p.seen in
        let s' = top_after g' f' y_seen in (
          ready_after g' f',
          top_still g' f' s.0,
          s'.0,
          ap (λ h. h a) (s12 g' f') ∙ s.1 ∙ p.same ∙ sym (ap (λ h. h y) (s12 g f)) ∙ sym s'.1,
        )

    pub merged_path : {w₃ : List ℕ} → MergedPath n w₂ a b w₃ → MergedPath n w x y w₃
    merged_path j = merged_first g f (merged_flip (merged_first (ready_after g f) f' (merged_flip j)))
