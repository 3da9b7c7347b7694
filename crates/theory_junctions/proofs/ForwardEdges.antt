-- The loop from the first junction to the last that writes the edges: at each junction v with a parent and a number of its own, the edge from the last member of its class before v, or from
-- its top; after the loop, for each class with two members at least, the edge from its last member to its top. These are the written edges of specs/Reduce, all of them and no others.
-- In order: lists cut at an entry; chains cut at an entry; the edges of the loop; all edges are such.
-- Assumes nothing.
use Prim.Native.Nat.{◌≤◌, ℕ}
use mathlib.Core.Bool.{Bool, ◌&&◌, cond, false, true}
use mathlib.Core.List.{List, Memᴰ, [], ◌++◌, ◌∷◌}
use mathlib.Core.Logic.{◌⊎◌, inl, inr}
use mathlib.Core.Path.{◌∙◌, ◌≡◌, ap, ap₂, refl, subst, sym}
use lib.Dec.{eqb}
use lib.ListN.{length}
use native.Mathlib.Omega.{arith}
use borrow.Author.Tests.{eq-eqb}
use Rattle.theory_graph.proofs.Booleans.{contradict, on_bool}
use Rattle.theory_graph.proofs.Lists.{any_find, mem_append}
use Rattle.theory_graph.specs.Graph.{Edge, NodeSet}
use Rattle.theory_graph.specs.Lists.{any, filter}
use Rattle.theory_junctions.proofs.Colours.{edge_append}
use Rattle.theory_junctions.proofs.Cycles.{closing_edge}
use Rattle.theory_junctions.proofs.ReduceLaws.{class_from, listed_class, members_are}
use Rattle.theory_junctions.proofs.Reduced.{edge_own, on_shares, own_edge, single_list}
use Rattle.theory_junctions.specs.Blocks.{Blocks, chain, closing, cycle, last_of, top_of}
use Rattle.theory_junctions.specs.Classes.{Class, shares}
use Rattle.theory_junctions.specs.Reduce.{Relevance, Search, classes_in, members_in, names_in, shares_top, written_edges}

-- ---- lists cut at an entry
filter_cut : (f : ℕ → Bool) (v : ℕ) (ps bs : List ℕ) → f v ≡ true → filter f (ps ++ v ∷ bs) ≡ filter f ps ++ v ∷ filter f bs
filter_cut f v [] bs e = ap (λ b. cond b (v ∷ filter f bs) (filter f bs)) e
filter_cut f v (a ∷ ps) bs e = go (f a) (filter_cut f v ps bs e)
  where
    go : (b : Bool) → filter f (ps ++ v ∷ bs) ≡ filter f ps ++ v ∷ filter f bs → cond b (a ∷ filter f (ps ++ v ∷ bs)) (filter f (ps ++ v ∷ bs)) ≡ cond b (a ∷ filter f ps) (filter f ps) ++ v ∷ filter f bs
    go true i = ap (λ l. a ∷ l) i
    go false i = i

-- where a filtered list is cut, the list is
Cut : (ℕ → Bool) → ℕ → List ℕ → List ℕ → Type 0
Cut f v l xs = (ps : List ℕ) × (bs : List ℕ) × (l ≡ ps ++ v ∷ bs) × (filter f ps ≡ xs)

cut_filter : (f : ℕ → Bool) (v : ℕ) (l xs ys : List ℕ) → filter f l ≡ xs ++ v ∷ ys → Cut f v l xs
unfolding Cut
cut_filter f v [] [] ys e = absurd (omega (arith, ap (λ l. length l) e))
cut_filter f v [] (x ∷ xs) ys e = absurd (omega (arith, ap (λ l. length l) e))
cut_filter f v (a ∷ l) xs ys e = go (f a) refl e xs refl (λ xs. cut_filter f v l xs ys)
  where
    go : (b : Bool) → f a ≡ b → cond b (a ∷ filter f l) (filter f l) ≡ xs ++ v ∷ ys → (zs : List ℕ) → xs ≡ zs → ((xs : List ℕ) → filter f l ≡ xs ++ v ∷ ys → Cut f v l xs) → Cut f v (a ∷ l) xs
    go false p h zs q ih = let (ps, bs, i, j) = ih xs h in (a ∷ ps, bs, ap (λ l. a ∷ l) i, ap (λ b. cond b (a ∷ filter f ps) (filter f ps)) p ∙ j)
    go true p h [] q ih =
        let k : a ∷ filter f l ≡ v ∷ ys = h ∙ ap (λ l. l ++ v ∷ ys) q in
        let e : a ≡ v = cc in
        ([], l, ap (λ s. s ∷ l) e, sym q)
    go true p h (z ∷ zs) q ih =
        let k : a ∷ filter f l ≡ z ∷ (zs ++ v ∷ ys) = h ∙ ap (λ l. l ++ v ∷ ys) q in
        let e : a ≡ z = cc in
        let t : filter f l ≡ zs ++ v ∷ ys = cc in
        let (ps, bs, i, j) = ih zs t in
        (a ∷ ps, bs, ap (λ l. a ∷ l) i, ap (λ b. cond b (a ∷ filter f ps) (filter f ps)) p ∙ ap₂ (λ x l. x ∷ l) e j ∙ sym q)

-- ---- chains cut at an entry
chain_at : (t v : ℕ) (xs ys : List ℕ) → Memᴰ (last_of t xs, v) (chain t (xs ++ v ∷ ys))
chain_at t v [] ys = Memᴰ.head refl
chain_at t v (x ∷ xs) ys = Memᴰ.tail (chain_at x v xs ys)

chain_cut : (t p q : ℕ) (us : List ℕ) → Memᴰ (p, q) (chain t us) → (xs : List ℕ) × (ys : List ℕ) × (us ≡ xs ++ q ∷ ys) × (p ≡ last_of t xs)
chain_cut t p q [] x' = elim x' [ ]
chain_cut t p q (u ∷ us) (Memᴰ.head e) = ([], us, ap (λ s. s ∷ us) (sym (ap (λ e. e.1) e)), ap (λ e. e.0) e)
chain_cut t p q (u ∷ us) (Memᴰ.tail m) = let (xs, ys, i, j) = chain_cut u p q us m in (u ∷ xs, ys, ap (λ l. u ∷ l) i, j)

closing_cut : (t p q : ℕ) (us : List ℕ) → Memᴰ (p, q) (closing t us) → (2 ≤ length us) × (p ≡ last_of t us) × (q ≡ t)
closing_cut t p q [] x' = elim x' [ ]
closing_cut t p q (u ∷ []) x4 = elim x4 [ ]
closing_cut t p q (u ∷ (w ∷ us)) (Memᴰ.tail x9) = elim x9 [ ]
closing_cut t p q (u ∷ w ∷ us) (Memᴰ.head e) = (omega arith, ap (λ e. e.0) e, ap (λ e. e.1) e)

module _ (E : List Edge) (B : Blocks E) (K rel : NodeSet) (order : List ℕ) (T : Search E B K order) (W : Relevance E B K rel) where
  abbrev among : List ℕ → ℕ → List ℕ
  among = members_in B rel

  abbrev cs : List Class
  cs = classes_in B rel order

  abbrev holds : ℕ → ℕ → Bool
  holds c u = B.child u && (rel u && eqb (B.first u) c)

  -- ---- the edges of the loop
  -- at v, where ps came before it
  pub edge_forward : (v : ℕ) (ps bs : List ℕ) → order ≡ ps ++ v ∷ bs → B.child v ≡ true → rel v ≡ true → shares_top B K rel order v ≡ false
      → Memᴰ (last_of (top_of B v) (among ps (B.first v)), v) (written_edges B K rel order)
  edge_forward v ps bs o cv rv n =
      edge_own K B.par cs (B.first v, among order (B.first v)) cs (listed_class E B K rel order T W v cv rv)
      (mem_append (chain (top_of B v) (among order (B.first v))) (closing (top_of B v) (among order (B.first v)))
      (inl (subst (λ (l : List ℕ). Memᴰ (last_of (top_of B v) (among ps (B.first v)), v) (chain (top_of B v) l)) (sym split) (chain_at (top_of B v) v (among ps (B.first v)) (among bs (B.first v))))))
      (on_bool (any (shares K B.par cs (B.first v, among order (B.first v))) (among order (B.first v))) (λ y. contradict (alone y) n) (λ y. y))
    where
      split : among order (B.first v) ≡ among ps (B.first v) ++ v ∷ among bs (B.first v)
      split = ap (filter (holds (B.first v))) o ∙ filter_cut (holds (B.first v)) v ps bs (ap₂ ◌&&◌ cv (ap₂ ◌&&◌ rv (eq-eqb (B.first v) (B.first v) refl)))

      in_class : Memᴰ v (among order (B.first v))
      in_class = subst (λ (l : List ℕ). Memᴰ v l) (sym split) (mem_append (among ps (B.first v)) (v ∷ among bs (B.first v)) (inr (Memᴰ.head refl)))

      -- a member that shares is alone, so it is v
      alone : any (shares K B.par cs (B.first v, among order (B.first v))) (among order (B.first v)) ≡ true → shares_top B K rel order v ≡ true
      alone y =
          let (w, m, h) = any_find (shares K B.par cs (B.first v, among order (B.first v))) (among order (B.first v)) y in
          on_shares K B.par cs (B.first v, among order (B.first v)) w h λ s i j k.
          let e : v ≡ w = only (subst (λ (l : List ℕ). Memᴰ v l) (single_list (among order (B.first v)) s m) in_class) in
          ap₂ ◌&&◌ cv (ap₂ ◌&&◌ rv (ap (shares K B.par cs (B.first v, among order (B.first v))) e ∙ h))
        where
          only : {w : ℕ} → Memᴰ v (w ∷ []) → v ≡ w
          only (Memᴰ.head e) = e
          only (Memᴰ.tail m) = absurd (elim m [ ])

  -- after the loop, for a class with two members at least
  pub edge_closing : (v : ℕ) → B.child v ≡ true → rel v ≡ true → 2 ≤ length (among order (B.first v)) → Memᴰ (last_of (top_of B v) (among order (B.first v)), top_of B v) (written_edges B K rel order)
  edge_closing v cv rv l =
      edge_own K B.par cs (B.first v, among order (B.first v)) cs (listed_class E B K rel order T W v cv rv)
      (mem_append (chain (top_of B v) (among order (B.first v))) (closing (top_of B v) (among order (B.first v))) (inr (closing_edge (top_of B v) (among order (B.first v)) l)))
      (on_bool (any (shares K B.par cs (B.first v, among order (B.first v))) (among order (B.first v)))
      (λ y.
      let (w, m, h) = any_find (shares K B.par cs (B.first v, among order (B.first v))) (among order (B.first v)) y in
      on_shares K B.par cs (B.first v, among order (B.first v)) w h λ s i j k. absurd (omega (arith, ap (λ l. length l) (single_list (among order (B.first v)) s m))))
      (λ y. y))

  -- ---- all written edges are such
  abbrev pub Forward : ℕ → ℕ → Type 0
  Forward p q = (ps : List ℕ) × (bs : List ℕ) × (order ≡ ps ++ q ∷ bs) × (B.child q ≡ true) × (rel q ≡ true) × (p ≡ last_of (top_of B q) (among ps (B.first q)))

  abbrev pub Closing : ℕ → ℕ → Type 0
  Closing p q = (n : ℕ) × Memᴰ n (names_in B rel order) × (2 ≤ length (among order n)) × (p ≡ last_of (B.par n) (among order n)) × (q ≡ B.par n)

  pub written_edge : (p q : ℕ) → Memᴰ (p, q) (written_edges B K rel order) → Forward p q ⊎ Closing p q
  unfolding Cut
  written_edge p q m =
      let (c, k, o) = own_edge K B.par cs cs m in
      let (n, e) = class_from E B K rel order T W c (names_in B rel order) k in
      go c n (subst (λ (l : List ℕ). Memᴰ (p, q) (cycle (B.par c.0) l)) e o)
    where
      go : (c : Class) → Memᴰ c.0 (names_in B rel order) → Memᴰ (p, q) (cycle (B.par c.0) (among order c.0)) → Forward p q ⊎ Closing p q
      go c n o = cases (edge_append (chain (B.par c.0) (among order c.0)) (closing (B.par c.0) (among order c.0)) o)
        where
          cases : Memᴰ (p, q) (chain (B.par c.0) (among order c.0)) ⊎ Memᴰ (p, q) (closing (B.par c.0) (among order c.0)) → Forward p q ⊎ Closing p q
          cases (inl h) =
              let (xs, ys, i, j) = chain_cut (B.par c.0) p q (among order c.0) h in
              let (ps, bs, s, t) = cut_filter (holds c.0) q order xs ys i in
              let (x, cq, rq, fq) = members_are E B K rel order T W c.0 q (subst (λ (l : List ℕ). Memᴰ q l) (sym i) (mem_append xs (q ∷ ys) (inr (Memᴰ.head refl)))) in
              inl (ps, bs, s, cq, rq, j ∙ ap (last_of (B.par c.0)) (sym t) ∙ ap (λ s. last_of (B.par s) (among ps s)) (sym fq))
          cases (inr h) = let (l, i, j) = closing_cut (B.par c.0) p q (among order c.0) h in inr (c.0, n, l, i, j)
