-- The same at the words, and the loop of `write_row`.
-- Assumes nothing.
use Prim.Native.Nat.{◌+◌, ◌-◌, ◌<◌, ℕ}
use mathlib.Core.List.{List, Memᴰ, [], ◌∷◌}
use mathlib.Core.Logic.{inl, ⊎_elim}
use mathlib.Core.Path.{◌∙◌, ◌≡◌, ap, refl, sym}
use native.Mathlib.Omega.{arith}
use Rattle.core_reduce.proofs.EdgeListLaws.{first_after, first_least, first_none, first_stay, listed_few, listed_more}
use Rattle.core_reduce.proofs.EdgeListLaws.{listed_next, listed_none, lists_push, lists_skip, edges_ascend, edge_in, edge_out}
use Rattle.core_words.specs.Clearing.{Cleared}
use Rattle.core_reduce.specs.EdgeList.{CanList, EdgePair, EdgesListed, FirstFrom, IfAbove, LargerChild, LeastNonzero, ListedPairs, NextChild, Pushing, Writing, edge_table, list_fields}
use Rattle.theory_graph.specs.Graph.{Edge}
use Rattle.core_words.proofs.ChangeLaws.{only_more, only_none, only_put, only_then, only_then_put}
use Rattle.core_words.specs.Changes.{OnlyFields}
use Rattle.core_words.specs.Fields.{ABOVE, CHILD, LOWER, SIBLING, UPPER, Put, node, update}

pub ups_same : {n : ℕ} {a b : List ℕ} → OnlyFields list_fields n a b → node ABOVE b ≡ node ABOVE a
ups_same r = r.nodes ABOVE (omega arith) refl

pub ready_still : {n h : ℕ} {a b : List ℕ} → OnlyFields list_fields n a b → CanList n h a → CanList n h b
ready_still r k = record { few = k.few; room = rw r.same k.room; less = k.less; fits = rw (ups_same r) k.fits }

module _ {n h x u : ℕ} {w : List ℕ} (k : Pushing n h w w (x + 1)) (l : x < h) (eu : u ≡ node ABOVE w x) where
  pub push_skip : (0 < u → x < u) → Pushing n h w w x
  push_skip z = record { ready = k.ready; rest = k.rest; lists = lists_skip k.lists (λ s c. let q : u ≡ s + 1 = eu ∙ c.2 in omega (arith, c.0, z (omega arith))) }

  pub pushed : (p : ℕ) {c : ℕ} {w₁ w₂ : List ℕ} → u ≡ p + 1 → p < x → c ≡ node CHILD w p → Put SIBLING x c w w₁ → Put CHILD p (x + 1) w₁ w₂ → Pushing n h w w₂ x
  pushed p {c} {w₁} {w₂} eq i ec q r =
      let d : u - 1 ≡ p = omega arith in
      record { ready = ready_still rest k.ready; rest = rest; lists = rw (ups_same rest, e2, e8) (rw d at (lists_push k.lists u eu (omega arith) (omega arith) l)) }
    where
      rest : OnlyFields list_fields n w w₂
      rest = only_then_put refl (omega (arith, k.ready.less)) (only_put refl (omega (arith, k.ready.less)) q) r

      e2 : node CHILD w₂ ≡ update (node CHILD w) p (x + 1)
      e2 = r.here ∙ ap (λ f. update f p (x + 1)) (q.else CHILD (omega arith) (λ e. omega arith))

      e8 : node SIBLING w₂ ≡ update (node SIBLING w) x (node CHILD w p)
      e8 = r.else SIBLING (omega arith) (λ e. omega arith) ∙ q.here ∙ ap (update (node SIBLING w) x) ec

pub pushing_then : {n h i j : ℕ} {a b c : List ℕ} → Pushing n h a b i → Pushing n h b c j → Pushing n h a c j
pushing_then k l = record { ready = l.ready; rest = only_then k.rest l.rest; lists = l.lists }

-- the lists are empty
pub pushing_cleared : {n h : ℕ} {a w : List ℕ} → CanList n h a → Cleared (CHILD ∷ []) n h a w → Pushing n h a w h
pushing_cleared {n} {h} {a} {w} r c = record {
  ready = ready_still rest r;
  rest = rest;
  lists = record { heads = λ s l. rw (c.zero CHILD (omega arith) refl s l) (first_none (λ y i p. omega (arith, p.1))); nexts = λ s x l p. absurd (omega (arith, p.1)) };
}
  where
    rest : OnlyFields list_fields n a w
    rest = only_more (CHILD ∷ []) refl c.rest

module _ {n h m s f : ℕ} {w : List ℕ} (k : Writing n h w w m s f) (l : s < h) (t : ℕ) (p : FirstFrom (EdgePair h (node ABOVE w) s) f (t + 1)) where
  more : ListedPairs (EdgePair h (node ABOVE w)) (update (node LOWER w) m s) (update (node UPPER w) m t) (m + 1) s (t + 1)
  more = listed_more k.listed t p

  pub m_fits : m < h
  m_fits = omega (arith, listed_few more)

  pub t_fits : t < h
  t_fits = ⊎_elim (λ c. omega (arith, c.1)) (λ c. omega (arith, c.1)) (p.at (omega arith)).1

  pub wrote : {w₁ w₂ : List ℕ} → Put LOWER m s w w₁ → Put UPPER m t w₁ w₂ → Writing n h w w₂ (m + 1) s (t + 1)
  wrote {w₁} {w₂} q r = record {
    ready = ready_still rest k.ready;
    rest = rest;
    lists = rw (ups_same rest, still CHILD (omega arith) (λ e. omega arith) (λ e. omega arith), still SIBLING (omega arith) (λ e. omega arith) (λ e. omega arith)) k.lists;
    listed = rw (ups_same rest, e4, e5) more;
  }
    where
      still : (j : ℕ) → j < 16 → (j ≡ 4 → ⊥) → (j ≡ 5 → ⊥) → node j w₂ ≡ node j w
      still j b x y = r.else j b y ∙ q.else j b x

      rest : OnlyFields list_fields n w w₂
      rest = only_then_put refl (omega (arith, m_fits, k.ready.less)) (only_put refl (omega (arith, m_fits, k.ready.less)) q) r

      e4 : node LOWER w₂ ≡ update (node LOWER w) m s
      e4 = r.else LOWER (omega arith) (λ e. omega arith) ∙ q.here

      e5 : node UPPER w₂ ≡ update (node UPPER w) m t
      e5 = r.here ∙ ap (λ g. update g m t) (q.else UPPER (omega arith) (λ e. omega arith))

pub writing_self : {n h m s f : ℕ} {a w : List ℕ} → Writing n h a w m s f → Writing n h w w m s f
writing_self {n} {w = w} k = record { ready = k.ready; rest = only_none n w; lists = k.lists; listed = k.listed }

pub writing_then : {n h m s f m' s' f' : ℕ} {a b c : List ℕ} → Writing n h a b m s f → Writing n h b c m' s' f' → Writing n h a c m' s' f'
writing_then k l = record { ready = l.ready; rest = only_then k.rest l.rest; lists = l.lists; listed = l.listed }

-- the loop of `write_row`: c is the next child of s in its list, t one more than the larger end of the next edge
pub record RowLoop (n h : ℕ) (a w : List ℕ) (s u c f m t : ℕ) : Type 0 where
  pub listing : Writing n h a w m s f
  pub child : FirstFrom (LargerChild h (node ABOVE w) s) f c
  pub next : FirstFrom (EdgePair h (node ABOVE w) s) f t
  pub ups : u ≡ node ABOVE w s
  pub past : s < f

module _ {n h s u c f m t : ℕ} {a w : List ℕ} (g : RowLoop n h a w s u c f m t) (l : s < h) where
  pub row_more : 0 < t → {c' o t' : ℕ} {w' : List ℕ} → Writing n h w w' (m + 1) s t → NextChild w' c t c' → IfAbove u t o → LeastNonzero c' o t' → RowLoop n h a w' s u c' t (m + 1) t'
  row_more z {c'} {o} {t'} {w'} k sk af le =
      record {
        listing = writing_then g.listing k;
        child = ch;
        next = first_least ch (first_after (node ABOVE w') (omega (arith, g.past, far)) eu (rw eu (k.ready.fits s l)) af) le;
        ups = eu;
        past = omega (arith, g.past, far);
      }
    where
      far : f < t
      far = (g.next.at z).0

      same : node ABOVE w' ≡ node ABOVE w
      same = ups_same k.rest

      eu : u ≡ node ABOVE w' s
      eu = g.ups ∙ sym (ap (λ q. q s) same)

      old : FirstFrom (LargerChild h (node ABOVE w') s) f c
      old = rw same g.child

      ch : FirstFrom (LargerChild h (node ABOVE w') s) t c'
      ch = ⊎_elim
          (λ e. let q : t - 1 + 1 ≡ t = omega arith in
          let b : LargerChild h (node ABOVE w') s (t - 1) = rw e.0 at (old.at (omega (arith, e.0))).1 in
          rw e.1 (rw q at (k.lists.nexts s (t - 1) (omega arith) b)))
          (λ e. rw e.1 (first_stay old (omega (arith, far)) (λ y i p. (g.next.gap y i (inl (rw same at p))).1) e.0))
          sk

  pub row_done : t ≡ 0 → Writing n h a w m (s + 1) (s + 1 + 1)
  row_done z = record {
    ready = g.listing.ready;
    rest = g.listing.rest;
    lists = g.listing.lists;
    listed = listed_next g.listing.listed (rw z at g.next) (λ y. ⊎_elim (λ p. p.0) (λ p. p.0));
  }

pub writing_none : {n h : ℕ} {w : List ℕ} → Pushing n h w w 0 → Writing n h w w 0 0 (0 + 1)
writing_none {w = w} k = record { ready = k.ready; rest = k.rest; lists = k.lists; listed = listed_none (node LOWER w) (node UPPER w) (λ y. ⊎_elim (λ p. p.0) (λ p. p.0)) }

pair_at : {h x y x' y' : ℕ} (up up' : ℕ → ℕ) → up ≡ up' → x ≡ x' → y ≡ y' → EdgePair h up x' y' → EdgePair h up' x y
pair_at up up' e f g p = rw (← e, f, g) p

mem_at : {x y x' y' : ℕ} (L : List Edge) → x' ≡ x → y' ≡ y → Memᴰ (x', y') L → Memᴰ (x, y) L
mem_at L f g p = rw (← f, ← g) p

pub all_listed : {n h m : ℕ} {a b c : List ℕ} → Pushing n h a b 0 → Writing n h b c m h (h + 1) → EdgesListed n h a c m
all_listed {n} {h} {m} {a} {b} {c} k l =
    let r = only_then k.rest l.rest in
    record {
      rest = r;
      most = listed_few l.listed;
      ascends = edges_ascend (node LOWER c) (node UPPER c) 0 m (λ x y p q. l.listed.rise x y p (omega arith));
      is = λ x y p. let (j, _, q, e) = edge_out (node LOWER c) (node UPPER c) 0 m (x, y) p in
          let ex : x ≡ node LOWER c j = ap (λ z. z.0) e in
          let ey : y ≡ node UPPER c j = ap (λ z. z.1) e in
          pair_at (node ABOVE c) (node ABOVE a) (ups_same r) ex ey (l.listed.real j (omega arith)).0;
      all = λ x y p.
          let p' : EdgePair h (node ABOVE c) x y = rw (ups_same r) p in
          let (j, q, ex, ey) = l.listed.all x y p' (inl (⊎_elim (λ z. omega (arith, z.0, z.1)) (λ z. omega (arith, z.0, z.1)) p')) in
          mem_at (edge_table (node LOWER c) (node UPPER c) 0 m) ex ey (edge_in (node LOWER c) (node UPPER c) 0 m j (omega arith) (omega arith));
    }
