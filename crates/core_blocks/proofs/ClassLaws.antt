-- Laws of the classes over functions: what `find` finds, two tops joined, and what the first nodes keep of their trees.
-- Assumes nothing.
use Prim.Native.Nat.{◌<◌, ◌≤◌, ℕ}
use mathlib.Core.Bool.{Bool, cond}
use mathlib.Core.List.{List}
use mathlib.Core.Logic.{◌⊎◌, inl, inr}
use mathlib.Core.Path.{◌∙◌, ◌≡◌, ap, refl, subst, sym}
use lib.Dec.{eqb, leb}
use native.Mathlib.Omega.{arith}
use borrow.Author.Tests.{eq-eqb, eqb-true, le-leb, leb-true}
use Rattle.theory_graph.proofs.Booleans.{on_bool}
use Rattle.theory_junctions.proofs.PathMergingLaws.{Within, name, on_within, unite_coarser, unite_within}
use Rattle.theory_junctions.specs.PathMerging.{unite}
use Rattle.core_words.proofs.ChangeLaws.{only_then, only_then_put}
use Rattle.core_words.proofs.FieldLaws.{update_at, update_other}
use Rattle.core_words.specs.Fields.{PARENT, POSITION, TOP, node, update}
use Rattle.core_components.specs.Tops.{FindPath, Found, OnlyTops}
use Rattle.core_blocks.specs.Classes.{CanMergeClass, ClassMerged, Leads, TopsJoined}

-- ---- find
-- the same first nodes, and the top that is found is one
pub found_first : (n : ℕ) (pos t t' first : ℕ → ℕ) (v r : ℕ) → v < n → Leads n pos t first → FindPath n pos t t' v r → t' r ≡ r → (r ≡ first v) × Leads n pos t' first
found_first n pos t t' first v r l h p top = (
  sym (h.own r p.fit (p.back r p.fit top)) ∙ here (first v),
  record {
    tops = p.tops;
    along = λ u i. eqb-true (first (t' u)) (first u) ((p.keep (D (first u)) (stable (first u))).0 u i ∙ eq-eqb (first u) (first u) refl);
    fit = h.fit;
    stop = λ u i. p.still (first u) (h.fit u i) (h.stop u i);
    own = λ u i e. h.own u i (p.back u i e);
  },
)
  where
    D : ℕ → ℕ → Bool
    D c u = eqb (first u) c

    stable : (c u : ℕ) → u < n → D c (t u) ≡ D c u
    stable c u i = ap (λ x. eqb x c) (h.along u i)

    here : (c : ℕ) → first r ≡ first v
    here c = eqb-true (first r) (first v) ((p.keep (D (first v)) (stable (first v))).1 ∙ eq-eqb (first v) (first v) refl)

-- ---- two tops joined
module _ (n : ℕ) (pos t first : ℕ → ℕ) (h : Leads n pos t first) (p q : ℕ) where
  -- `over` is the earlier of the two and stays, `under` goes under it
  module _ (over under : ℕ) (lo : over < n) (lu : under < n) (tov : t over ≡ over) (tun : t under ≡ under) (nm : name pos first p q ≡ over)
      (is : (under ≡ p) ⊎ (under ≡ q)) (as-over : (over ≡ p) ⊎ (over ≡ q)) (one : (u : ℕ) → Within pos first p q u → (first u ≡ over) ⊎ (first u ≡ under))
      (low : ¬ (over ≡ under) → pos over < pos under) where
    abbrev after : ℕ → ℕ
    after = unite pos first p q

    within : (u : ℕ) → Within pos first p q u → after u ≡ over
    within u w = unite_within pos first p q u w ∙ nm

    inside : (v : ℕ) → v < n → t v ≡ v → (v ≡ p) ⊎ (v ≡ q) → Within pos first p q v
    inside v l e (inl i) = inl (h.own v l e ∙ i)
    inside v l e (inr i) = inr (h.own v l e ∙ i)

    not_under : (u : ℕ) → ¬ (first u ≡ p) → ¬ (first u ≡ q) → ¬ (first u ≡ under)
    not_under u a b e = go is
      where
        go : (under ≡ p) ⊎ (under ≡ q) → ⊥
        go (inl i) = a (e ∙ i)
        go (inr i) = b (e ∙ i)

    stays : update t under over over ≡ over
    stays = update_at (λ u y. u ≡ over → y ≡ over) t under over (λ _. refl) (λ u _ e. ap t e ∙ tov) over refl

    pub joined_leads : Leads n pos (update t under over) after
    joined_leads = record {
      tops = record {
        fit = update_at (λ u y. u < n → y < n) t under over (λ _. lo) (λ u _. h.tops.fit u);
        up = update_at (λ u y. u < n → (y ≡ u → ⊥) → pos y < pos u) t under over (λ _ ne. low ne) (λ u _. h.tops.up u);
      };
      along = update_at (λ u y. u < n → after y ≡ after u) t under over (λ _. within over (inside over lo tov as-over) ∙ sym (within under (inside under lu tun is)))
          (λ u _ l. unite_coarser pos first p q (t u) u (h.along u l));
      fit = λ u l. on_within pos first p q u (λ w e. subst (λ (v : ℕ). v < n) (sym (e ∙ nm)) lo) (λ a b e. subst (λ (v : ℕ). v < n) (sym e) (h.fit u l));
      stop = λ u l. on_within pos first p q u
          (λ w e. ap (update t under over) (e ∙ nm) ∙ stays ∙ sym (e ∙ nm))
          (λ a b e. ap (update t under over) e ∙ update_other t under over (first u) (not_under u a b) ∙ h.stop u l ∙ sym e);
      own = update_at (λ u y. u < n → y ≡ u → after u ≡ u) t under over (λ _ e. within under (inside under lu tun is) ∙ e)
          (λ u ne l e. on_within pos first p q u (λ w i. i ∙ nm ∙ own_in u ne (h.own u l e) (one u w)) (λ a b i. i ∙ h.own u l e));
    }
      where
        own_in : (u : ℕ) → ¬ (u ≡ under) → first u ≡ u → (first u ≡ over) ⊎ (first u ≡ under) → over ≡ u
        own_in u ne f (inl i) = sym i ∙ f
        own_in u ne f (inr i) = absurd (ne (sym f ∙ i))

  module _ (lp : p < n) (lq : q < n) (tp : t p ≡ p) (tq : t q ≡ q) where
    pub joined_first : pos p < pos q → Leads n pos (update t q p) (unite pos first p q)
    joined_first l = joined_leads p q lp lq tp tq (ap (λ b. cond b p q) (le-leb (pos p) (pos q) (omega arith))) (inr refl) (inl refl) (λ u w. w) (λ ne. l)

    pub joined_second : pos q ≤ pos p → (pos p ≡ pos q → p ≡ q) → Leads n pos (update t p q) (unite pos first p q)
    joined_second l once = joined_leads q p lq lp tq tp named (inl refl) (inr refl) (λ u w. turn w) (λ ne. let z : ¬ (pos p ≡ pos q) = λ e. ne (sym (once e)) in omega arith)
      where
        named : name pos first p q ≡ q
        named = on_bool (leb (pos p) (pos q)) (λ b. ap (λ b. cond b p q) b ∙ once (omega (arith, leb-true (pos p) (pos q) b))) (λ b. ap (λ b. cond b p q) b)

        turn : {x : ℕ} → (x ≡ p) ⊎ (x ≡ q) → (x ≡ q) ⊎ (x ≡ p)
        turn (inl i) = inr i
        turn (inr i) = inl i

-- ---- the classes of s and a made one, at the words

pub class_merged : {n p q r s a : ℕ} {w w₁ w₂ w₃ : List ℕ} → CanMergeClass n w s a → Found n w s p w₁ → Found n w₁ a q w₂ → TopsJoined p q w₂ w₃ → r ≡ node PARENT w₃ q → ClassMerged n w s a w₃ r
class_merged {n} {p} {q} {r} {s} {a} {w} {w₁} {w₂} {w₃} c f g j e = record {
  rest = rest;
  up = λ first h. e ∙ ap (λ k. k q) (rest.nodes PARENT (omega arith) refl) ∙ ap (node PARENT w) (second first h).0;
  leads = λ first h once. go first h once j;
}
  where
    pos₁ : node POSITION w₁ ≡ node POSITION w
    pos₁ = f.rest.nodes POSITION (omega arith) refl

    pos₂ : node POSITION w₂ ≡ node POSITION w
    pos₂ = g.rest.nodes POSITION (omega arith) refl ∙ pos₁

    found : OnlyTops n w w₂
    found = only_then f.rest g.rest

    rest : OnlyTops n w w₃
    rest = by j
      where
        by : TopsJoined p q w₂ w₃ → OnlyTops n w w₃
        by (inl (l, k)) = only_then_put refl g.path.fit found k
        by (inr (l, k)) = only_then_put refl f.path.fit found k

    second : (first : ℕ → ℕ) → Leads n (node POSITION w) (node TOP w) first → (q ≡ first a) × Leads n (node POSITION w) (node TOP w₂) first
    second first h =
        let k = found_first n (node POSITION w) (node TOP w) (node TOP w₁) first s p c.fit h f.path f.top in
        found_first n (node POSITION w) (node TOP w₁) (node TOP w₂) first a q c.fit' k.1 (rw pos₁ at g.path) g.top

    go : (first : ℕ → ℕ) → Leads n (node POSITION w) (node TOP w) first → (node POSITION w (first s) ≡ node POSITION w (first a) → first s ≡ first a)
        → TopsJoined p q w₂ w₃ → Leads n (node POSITION w) (node TOP w₃) (unite (node POSITION w) first (first s) (first a))
    go first h once j =
        let (ep, h₁) = found_first n (node POSITION w) (node TOP w) (node TOP w₁) first s p c.fit h f.path f.top in
        let (eq, h₂) = second first h in
        let tp : node TOP w₂ p ≡ p = ap (node TOP w₂) ep ∙ h₂.stop s c.fit ∙ sym ep in
        let lower : node POSITION w₂ ≡ node POSITION w = pos₂ in
        subst (λ (x : ℕ). Leads n (node POSITION w) (node TOP w₃) (unite (node POSITION w) first x (first a))) ep
        (subst (λ (x : ℕ). Leads n (node POSITION w) (node TOP w₃) (unite (node POSITION w) first p x)) eq (cases ep eq h₂ tp j))
      where
        cases : p ≡ first s → q ≡ first a → Leads n (node POSITION w) (node TOP w₂) first → node TOP w₂ p ≡ p → TopsJoined p q w₂ w₃
            → Leads n (node POSITION w) (node TOP w₃) (unite (node POSITION w) first p q)
        cases ep eq h₂ tp (inl (l, k)) = rw k.here (joined_first n (node POSITION w) (node TOP w₂) first h₂ p q f.path.fit g.path.fit tp g.top (rw pos₂ at l))
        cases ep eq h₂ tp (inr (l, k)) =
            rw k.here (joined_second n (node POSITION w) (node TOP w₂) first h₂ p q f.path.fit g.path.fit tp g.top (rw pos₂ at l)
            (λ i. ep ∙ once (ap (node POSITION w) (sym ep) ∙ i ∙ ap (node POSITION w) eq) ∙ sym eq))
