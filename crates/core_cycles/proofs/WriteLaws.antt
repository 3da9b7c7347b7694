-- Laws of writing the edges: one edge; the closing edge of a class; the edges of one node; what is read fits; the loop.
-- Assumes nothing.
use Prim.Native.Nat.{◌*◌, ◌+◌, ◌-◌, ◌<◌, ◌≤◌, suc, ℕ}
use mathlib.Core.Bool.{◌&&◌, cond, not, true}
use mathlib.Core.List.{List, Memᴰ, [], ◌++◌, ◌∷◌}
use mathlib.Core.Path.{◌∙◌, ◌≡◌, ap, ap₂, refl, subst, sym}
use lib.Dec.{eqb, ltb}
use lib.ListN.{length, length-append}
use native.Mathlib.Omega.{arith}
use borrow.Author.Tests.{eq-eqb, eqb-false, eqb-true, lt-ltb, ltb-false, ne_eqb}
use Rattle.theory_graph.proofs.Booleans.{and_elim, on_bool}
use Rattle.theory_graph.proofs.Lists.{table_length, table_mem}
use Rattle.theory_graph.proofs.TableLaws.{table_equal, table_more}
use Rattle.theory_graph.specs.Graph.{Edge, NodeSet}
use Rattle.theory_graph.specs.Lists.{member, table}
use Rattle.theory_junctions.specs.Blocks.{Blocks, last_of}
use Rattle.theory_junctions.specs.Reduce.{members_in, shares_top}
use Rattle.core_words.proofs.ChangeLaws.{only_then_put}
use Rattle.core_words.proofs.FieldLaws.{update_at, update_other, update_same}
use Rattle.core_words.specs.Fields.{ACTIVE, EDGE, MAPPED, NUMBER, ORDER, PARENT, TO, TOP, Put, PutHalf, half, node}
use Rattle.core_forest.specs.Forest.{edges_below}
use Rattle.core_loading.proofs.LoadingLaws.{halves_kept}
use Rattle.core_cycles.proofs.NumberLaws.{member_place, relevant_seen, source, source_relevant}
use Rattle.core_cycles.proofs.OrderLaws.{count_few, last_in}
use Rattle.core_cycles.specs.BlocksIn.{BlocksBy, FROM, LAST, MEMBERS}
use Rattle.core_cycles.specs.Numbering.{NumbersBy, last_code, numbered}
use Rattle.core_cycles.specs.Writing.{CanMap, CanWriteCycles, CanWriteEdge, CanWriteNode, Mapping, Writing, Written, closing_at, closing_by, edge_if, edges_at, edges_behind, edges_to}

-- ---- one edge
if_none : (a b : ℕ) → a ≡ 0 → edge_if a b ≡ []
if_none a b z = ap (λ t. cond t [] ((a - 1, b) ∷ [])) (eq-eqb a 0 z)

if_one : (a b : ℕ) → ¬ (a ≡ 0) → edge_if a b ≡ (a - 1, b) ∷ []
if_one a b z = ap (λ t. cond t [] ((a - 1, b) ∷ [])) (ne_eqb a 0 z)

if_few : (a b : ℕ) → length (edge_if a b) ≤ 1
if_few a b = on_bool (eqb a 0) (λ e. let q = ap (λ (l : List Edge). length l) (if_none a b (eqb-true a 0 e)) in omega (arith, q))
    (λ e. let q = ap (λ (l : List Edge). length l) (if_one a b (eqb-false a 0 e)) in omega (arith, q))

pub written_one : {n m e a b : ℕ} {w w₁ w₂ : List ℕ} → CanWriteEdge n m e a b w → ¬ (a ≡ 0) → PutHalf n TO (2 * (m + e)) (a - 1) w w₁ → PutHalf n TO (2 * (m + e) + 1) b w₁ w₂
    → Written n m e (edge_if a b) w w₂ (e + 1)
written_one {n} {m} {e} {a} {b} {w} {w₁} {w₂} h z p q = record {
  same = q.same ∙ p.same;
  nodes = λ j i v l. q.nodes j i v l ∙ p.nodes j i v l;
  past = λ i l. halves_kept n (m + e + 1) w w₂ behind i (omega (arith, l));
  count = let q = ap (λ (l : List Edge). length l) (if_one a b z) in omega (arith, q);
  edges = table_more (λ j. (half n TO w₂ (2 * (m + j)), half n TO w₂ (2 * (m + j) + 1))) e
      ∙ ap₂ (λ (x : List Edge) (y : Edge). x ++ y ∷ [])
      (table_equal (λ j. (half n TO w₂ (2 * (m + j)), half n TO w₂ (2 * (m + j) + 1))) (λ j. (half n TO w (2 * (m + j)), half n TO w (2 * (m + j) + 1))) 0 e
      (λ j i l. ap₂ (λ x y. (x, y)) (far (2 * (m + j)) (λ s. omega (arith, s, l)) (λ s. omega (arith, s, l))) (far (2 * (m + j) + 1) (λ s. omega (arith, s, l)) (λ s. omega (arith, s, l)))))
      (ap₂ (λ x y. (x, y)) first second)
      ∙ ap (λ (l : List Edge). edges_behind n m e w ++ l) (sym (if_one a b z));
}
  where
    far : (i : ℕ) → ¬ (i ≡ 2 * (m + e)) → ¬ (i ≡ 2 * (m + e) + 1) → half n TO w₂ i ≡ half n TO w i
    far i k l = ap (λ f. f i) q.here ∙ update_other (half n TO w₁) (2 * (m + e) + 1) b i l ∙ ap (λ f. f i) p.here ∙ update_other (half n TO w) (2 * (m + e)) (a - 1) i k

    first : half n TO w₂ (2 * (m + e)) ≡ a - 1
    first = ap (λ f. f (2 * (m + e))) q.here ∙ update_other (half n TO w₁) (2 * (m + e) + 1) b (2 * (m + e)) (λ s. omega (arith, s)) ∙ ap (λ f. f (2 * (m + e))) p.here ∙ update_same (half n TO w) (2 * (m + e)) (a - 1)

    second : half n TO w₂ (2 * (m + e) + 1) ≡ b
    second = ap (λ f. f (2 * (m + e) + 1)) q.here ∙ update_same (half n TO w₁) (2 * (m + e) + 1) b

    behind : (k i : ℕ) → k < 3 → 2 * (m + e + 1) ≤ i → half n k w₂ i ≡ half n k w i
    behind k i g l = on_bool (eqb k TO)
        (λ s. let y = eqb-true k TO s in rw y (far i (λ s. omega (arith, s, l)) (λ s. omega (arith, s, l))))
        (λ s. ap (λ (f : ℕ → ℕ). f i) (q.else k g (eqb-false k TO s) ∙ p.else k g (eqb-false k TO s)))

-- ---- the closing edge of a class
module _ (w : List ℕ) (v : ℕ) where
  has_parent : {e : ℕ} → e ≡ node EDGE w v → ¬ (e ≡ 0) → closing_at w v ≡ cond (eqb (node TOP w v) v) (cond (ltb (node MEMBERS w v) 2) 0 (node LAST w v)) 0
  has_parent i z = ap (λ b. cond b 0 (cond (eqb (node TOP w v) v) (cond (ltb (node MEMBERS w v) 2) 0 (node LAST w v)) 0)) (ne_eqb (node EDGE w v) 0 (λ q. z (i ∙ q)))

  is_first : {e t : ℕ} → e ≡ node EDGE w v → ¬ (e ≡ 0) → t ≡ node TOP w v → t ≡ v → closing_at w v ≡ cond (ltb (node MEMBERS w v) 2) 0 (node LAST w v)
  is_first i z j q = has_parent i z ∙ ap (λ b. cond b (cond (ltb (node MEMBERS w v) 2) 0 (node LAST w v)) 0) (eq-eqb (node TOP w v) v (sym j ∙ q))

  pub closing_few : {e t r : ℕ} → e ≡ node EDGE w v → ¬ (e ≡ 0) → t ≡ node TOP w v → t ≡ v → r ≡ node MEMBERS w v → r < 2 → 0 ≡ closing_at w v
  closing_few i z j q k l = sym (is_first i z j q ∙ ap (λ b. cond b 0 (node LAST w v)) (lt-ltb (node MEMBERS w v) 2 (omega (arith, k, l))))

-- ---- what has been numbered, read off
module _ {n m k seen h : ℕ} {to act ord te par top mark members below number last from : ℕ → ℕ}
    (p : NumbersBy n m k seen seen h to act ord te par top mark members below number last from) where
  abbrev b : BlocksBy n m k seen to act ord te par top mark
  b = p.counted.is

  abbrev B : Blocks (edges_below to m)
  B = b.blocks

  abbrev order : List ℕ
  order = table ord 0 seen

  abbrev own_number : NodeSet
  own_number = numbered B (member (table act 0 k)) b.rel order

  pub number_low : (u : ℕ) → b.rel u ≡ true → number u < h
  number_low u r = let (j, l, e) = table_mem ord 0 seen u (b.search.seen_listed u (relevant_seen b u r)) in subst (λ (x : ℕ). number x < h) (sym e) (p.low j (omega arith) (ap b.rel (sym e) ∙ r))

  pub from_cases : {A : Type 0} (i : ℕ) → i < seen → (from (ord i) ≡ 0 → A) → (B.child (ord i) ≡ true → own_number (ord i) ≡ true → from (ord i) ≡ suc (number (source b i)) → A) → A
  from_cases i l f g = on_bool (B.child (ord i) && own_number (ord i))
      (λ t. and_elim (B.child (ord i)) (own_number (ord i)) t λ c o. g c o (p.from_is i l ∙ ap (λ x. cond x (suc (number (source b i))) 0) t))
      (λ t. f (p.from_is i l ∙ ap (λ x. cond x (suc (number (source b i))) 0) t))

  own_relevant : (u : ℕ) → own_number u ≡ true → b.rel u ≡ true
  own_relevant u o = and_elim (b.rel u) (not (shares_top B (member (table act 0 k)) b.rel order u)) o λ r s. r

  abbrev closing : ℕ → ℕ
  closing v = closing_by te top members last v

  pub code_last : (t : ℕ) (us : List ℕ) → 1 ≤ length us → last_code number us ≡ suc (number (last_of t us))
  code_last t [] l = absurd (omega arith)
  code_last t (u ∷ us) l = refl

  pub closing_cases : {A : Type 0} (i : ℕ) → i < seen → (closing (ord i) ≡ 0 → A)
      → (B.child (ord i) ≡ true → B.first (ord i) ≡ ord i → 2 ≤ length (members_in B b.rel order (ord i)) → closing (ord i) ≡ suc (number (last_of (B.par (ord i)) (members_in B b.rel order (ord i)))) → A) → A
  closing_cases i l f g = on_bool (eqb (te v) 0)
      (λ t. f (ap (λ x. cond x 0 (cond (eqb (top v) v) (cond (ltb (members v) 2) 0 (last v)) 0)) t)) λ t.
      on_bool (eqb (top v) v)
      (λ s. on_bool (ltb (members v) 2)
      (λ r. f (ap (λ x. cond x 0 (cond (eqb (top v) v) (cond (ltb (members v) 2) 0 (last v)) 0)) t ∙ ap (λ x. cond x (cond (ltb (members v) 2) 0 (last v)) 0) s ∙ ap (λ x. cond x 0 (last v)) r))
      (λ r.
      let c : B.child v ≡ true = b.child i l ∙ ap not t in
      let m2 : 2 ≤ length (members_in B b.rel order v) = omega (arith, p.counted.members_are v (b.placed i l), ltb-false (members v) 2 r) in
      g c (b.first v (b.placed i l) ∙ eqb-true (top v) v s) m2
      (ap (λ x. cond x 0 (cond (eqb (top v) v) (cond (ltb (members v) 2) 0 (last v)) 0)) t ∙ ap (λ x. cond x (cond (ltb (members v) 2) 0 (last v)) 0) s ∙ ap (λ x. cond x 0 (last v)) r
      ∙ p.last_is v c ∙ code_last (B.par v) (members_in B b.rel order v) (omega (arith, m2)))))
      (λ s. f (ap (λ x. cond x 0 (cond (eqb (top v) v) (cond (ltb (members v) 2) 0 (last v)) 0)) t ∙ ap (λ x. cond x (cond (ltb (members v) 2) 0 (last v)) 0) s))
    where
      v : ℕ
      v = ord i

  -- a class with members: the last of them and the top are relevant
  pub last_relevant : (v : ℕ) → 1 ≤ length (members_in B b.rel order v) → b.rel (last_of (B.par v) (members_in B b.rel order v)) ≡ true
  last_relevant v l = go (members_in B b.rel order v) l (λ u q. let (j, g, e, x, y, z) = member_place b seen v u q in y)
    where
      go : (us : List ℕ) → 1 ≤ length us → ((u : ℕ) → Memᴰ u us → b.rel u ≡ true) → b.rel (last_of (B.par v) us) ≡ true
      go [] l f = absurd (omega arith)
      go (u ∷ us) l f = f (last_of u us) (last_in u us)

  pub class_top : (v : ℕ) → 1 ≤ length (members_in B b.rel order v) → b.rel (B.par v) ≡ true
  class_top v l = go (members_in B b.rel order v) l (λ u q. q)
    where
      go : (us : List ℕ) → 1 ≤ length us → ((u : ℕ) → Memᴰ u us → Memᴰ u (members_in B b.rel order v)) → b.rel (B.par v) ≡ true
      go [] l f = absurd (omega arith)
      go (u ∷ us) l f = let (j, g, e, x, y, z) = member_place b seen v u (f u (Memᴰ.head refl)) in ap (λ w. b.rel (B.par w)) (sym z) ∙ b.relevance.top u y x

  pub from_low : (i : ℕ) → i < seen → from (ord i) ≤ h
  from_low i l = from_cases i l (λ z. omega (arith, z)) (λ c o e. let q = number_low (source b i) (source_relevant b i c (own_relevant (ord i) o)) in omega (arith, e, q))

  pub from_number : (i : ℕ) → i < seen → ¬ (from (ord i) ≡ 0) → number (ord i) < h
  from_number i l ne = from_cases i l (λ z. absurd (ne z)) (λ c o e. number_low (ord i) (own_relevant (ord i) o))

  pub closing_low : (i : ℕ) → i < seen → closing (ord i) ≤ h
  closing_low i l = closing_cases i l (λ z. omega (arith, z)) (λ c f m e. let q = number_low (last_of (B.par (ord i)) (members_in B b.rel order (ord i))) (last_relevant (ord i) (omega (arith, m))) in omega (arith, e, q))

  pub closing_number : (i : ℕ) → i < seen → ¬ (closing (ord i) ≡ 0) → number (par (ord i)) < h
  closing_number i l ne = closing_cases i l (λ z. absurd (ne z)) (λ c f m e. let q = number_low (B.par (ord i)) (class_top (ord i) (omega (arith, m))) in omega (arith, ap number (b.parent (ord i)), q))

-- ---- the loop
closing_same : {x x' y y' z z' l l' : ℕ} (v : ℕ) → x ≡ x' → y ≡ y' → z ≡ z' → l ≡ l'
    → cond (eqb x 0) 0 (cond (eqb y v) (cond (ltb z 2) 0 l) 0) ≡ cond (eqb x' 0) 0 (cond (eqb y' v) (cond (ltb z' 2) 0 l') 0)
closing_same {x} {x'} {y} {y'} {z} {z'} {l} {l'} v a b c d =
    ap₂ (λ x y. cond (eqb x 0) 0 (cond (eqb y v) (cond (ltb z 2) 0 l) 0)) a b ∙ ap₂ (λ z l. cond (eqb x' 0) 0 (cond (eqb y' v) (cond (ltb z 2) 0 l) 0)) c d

module _ {n m k seen h i e : ℕ} {a w : List ℕ} (r : CanWriteCycles n m k seen h a) (q : Writing n m i a w e) (l : i < seen) where
  i_fit : i < n
  i_fit = omega (arith, l, r.numbers.counted.is.less)

  abbrev v : ℕ
  v = node ORDER a i

  v_fit : v < n
  v_fit = r.numbers.counted.is.placed i l

  parent_fit : node PARENT a v < n
  parent_fit = r.numbers.counted.is.parent_fit i l

  here : (j : ℕ) → j < 16 → node j w v ≡ node j a v
  here j g = q.nodes j g v v_fit

  closing_is : closing_at w v ≡ closing_at a v
  closing_is = closing_same v (here EDGE (omega arith)) (here TOP (omega arith)) (here MEMBERS (omega arith)) (here LAST (omega arith))

  number_up : node NUMBER w (node PARENT w v) ≡ node NUMBER a (node PARENT a v)
  number_up = ap (node NUMBER w) (here PARENT (omega arith)) ∙ q.nodes NUMBER (omega arith) (node PARENT a v) parent_fit

  edges_same : edges_at w v ≡ edges_at a v
  edges_same = ap₂ (λ (x y : List Edge). x ++ y) (ap₂ edge_if (here FROM (omega arith)) (here NUMBER (omega arith))) (ap₂ edge_if closing_is number_up)

  h_few : h ≤ 65536
  h_few = omega (
    arith,
    r.few,
    r.numbers.total,
    count_few (numbered r.numbers.counted.is.blocks (member (table (node ACTIVE a) 0 k)) r.numbers.counted.is.rel (table (node ORDER a) 0 seen)) (table (node ORDER a) 0 seen),
    table_length (node ORDER a) 0 seen,
    r.numbers.counted.is.less,
  )

  u_is : {u : ℕ} → u ≡ node ORDER w i → u ≡ v
  u_is e = e ∙ q.nodes ORDER (omega arith) i i_fit

  pub node_can : {u : ℕ} → u ≡ node ORDER w i → CanWriteNode n m e w u
  node_can {u} eu = subst (CanWriteNode n m e w) (sym (u_is eu)) (record {
    few = r.few;
    much = r.much;
    less = omega (arith, q.most, l, r.few, r.numbers.counted.is.less);
    room = omega (arith, q.most, q.same, r.room, l, r.numbers.counted.is.less);
    fit = v_fit;
    parent_fit = omega (arith, here PARENT (omega arith), parent_fit);
    from_low = omega (arith, here FROM (omega arith), from_low r.numbers i l, h_few);
    from_number = λ ne. let z = from_number r.numbers i l (λ z. ne (here FROM (omega arith) ∙ z)) in omega (arith, here NUMBER (omega arith), z, h_few);
    closing_low = omega (arith, closing_is, closing_low r.numbers i l, h_few);
    closing_number = λ ne. let z = closing_number r.numbers i l (λ z. ne (closing_is ∙ z)) in omega (arith, number_up, z, h_few);
  })

  pub writing_more : {u f : ℕ} {w' : List ℕ} → u ≡ node ORDER w i → Written n m e (edges_at w u) w w' f → Writing n m (i + 1) a w' f
  writing_more {u} {f} {w'} eu s = go (subst (λ (x : ℕ). Written n m e (edges_at w x) w w' f) (u_is eu) s)
    where
      few_edges : length (edges_at w v) ≤ 2
      few_edges = omega (arith, length-append (edge_if (node FROM w v) (node NUMBER w v)) (edge_if (closing_at w v) (node NUMBER w (node PARENT w v))), if_few (node FROM w v) (node NUMBER w v), if_few (closing_at w v) (node NUMBER w (node PARENT w v)))

      next : suc i ≡ i + 1
      next = omega arith

      go : Written n m e (edges_at w v) w w' f → Writing n m (i + 1) a w' f
      go s = record {
        same = s.same ∙ q.same;
        nodes = λ j g u z. s.nodes j g u z ∙ q.nodes j g u z;
        past = λ j z. s.past j (omega (arith, z, s.count, few_edges, q.most, l, r.numbers.counted.is.less)) ∙ q.past j z;
        most = omega (arith, s.count, few_edges, q.most);
        edges = s.edges ∙ ap₂ (λ (x y : List Edge). x ++ y) q.edges edges_same ∙ ap (edges_to a) next;
      }

-- ---- the active nodes

module _ {n k i : ℕ} {a w : List ℕ} (r : CanMap n k a) (q : Mapping n a i w) (l : i < k) where
  pub active_fit : {v : ℕ} → v ≡ node ACTIVE w i → v < n
  active_fit e = omega (arith, e, ap (λ f. f i) (q.rest.nodes ACTIVE (omega arith) refl), r.active i l)

  pub mapping_more : {v x : ℕ} {w' : List ℕ} → v ≡ node ACTIVE w i → x ≡ node NUMBER w v → Put MAPPED v x w w' → Mapping n a (i + 1) w'
  mapping_more {v} {x} {w'} ev ex s = record {
    rest = only_then_put refl (active_fit ev) q.rest s;
    numbers = λ j g. ap (λ f. f (node ACTIVE a j)) s.here
        ∙ update_at (λ u y. u ≡ node ACTIVE a j → y ≡ node NUMBER a (node ACTIVE a j)) (node MAPPED w) v x
        (λ e. ex ∙ ap (λ f. f v) (q.rest.nodes NUMBER (omega arith) refl) ∙ ap (node NUMBER a) e)
        (λ u ne e. ap (node MAPPED w) e ∙ q.numbers j (before j g (λ z. ne (e ∙ ap (node ACTIVE a) z ∙ sym (ev ∙ ap (λ f. f i) (q.rest.nodes ACTIVE (omega arith) refl))))))
        (node ACTIVE a j) refl;
  }
    where
      before : (j : ℕ) → j < i + 1 → ¬ (j ≡ i) → j < i
      before j g ne = omega (arith, g, ne)
