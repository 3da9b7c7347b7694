-- The reduced graph as lists: a list of classes gives the rings and the merges of proofs/Reduction, so it has the colourings, and the replies, of the given graph at the active
-- junctions; its edges lie between its junctions; with k active junctions, k at least 2, it has at most 3k - 3 junctions and 4k - 6 edges.
-- In order: entries of lists; the members of a class by its name; rings; merges; the reduced graph; its junctions; its size.
-- Assumes nothing.
use Prim.Native.Nat.{◌*◌, ◌+◌, ◌-◌, ◌<◌, ◌≤◌, suc, zero, ℕ}
use mathlib.Core.Bool.{Bool, cond, false, not, true}
use mathlib.Core.List.{List, Memᴰ, [], ◌++◌, ◌∷◌}
use mathlib.Core.Logic.{◌⊎◌, inl, inr}
use mathlib.Core.Path.{◌∙◌, ◌≡◌, ap, refl, subst, sym}
use lib.Dec.{eqb}
use lib.ListN.{length, length-append}
use native.Mathlib.Omega.{arith}
use borrow.Author.Tests.{eq-eqb, eqb-true, ne_eqb, not-true}
use Rattle.theory_graph.proofs.Booleans.{and_elim, contradict, on_bool}
use Rattle.theory_graph.proofs.DistinctLists.{distinct_left, distinct_right, split_mem}
use Rattle.theory_graph.proofs.Lists.{any_find, filter_in, in_filter, mem_append, mem_member, member_mem, one_in}
use Rattle.theory_graph.proofs.SpanningForest.{on_eq}
use Rattle.theory_graph.specs.Graph.{Edge, NodeSet}
use Rattle.theory_graph.specs.Lists.{Distinct, any, filter, member}
use Rattle.theory_graph.specs.SmallGraph.{ends_in, image}
use Rattle.theory_junctions.proofs.Colours.{edge_append, edge_image, image_edge}
use Rattle.theory_junctions.proofs.Contraction.{onto_other, onto_there}
use Rattle.theory_junctions.proofs.Cycles.{cycle_ends}
use Rattle.theory_junctions.proofs.Reduction.{merged_active, merged_later, reduced_same, top_pos}
use Rattle.theory_junctions.proofs.SameColourings.{Covers, image_same, reply_added, same_edges, same_trans}
use Rattle.theory_junctions.proofs.Size.{active_tops, edges_bound, members_bound}
use Rattle.theory_junctions.specs.Blocks.{AllMergeable, Blocks, Mergeable, Rings, cycle, merged_to, onto, top_of}
use Rattle.theory_junctions.specs.Classes.{Class, ClassList, Falling, Shared, classes_below, count, cycles_of, members_of, names_of, own_cycles, own_members, reduced_graph, reduced_junctions, shares, single, tick}
use Rattle.theory_junctions.specs.Colouring.{Same}
use Rattle.theory_junctions.specs.Reply.{reply}

-- ---- entries
pub image_length : (f : ℕ → ℕ) (G : List Edge) → length (image f G) ≡ length G
image_length f [] = refl
image_length f (e ∷ G) = ap suc (image_length f G)

pub member_class : {u : ℕ} (cs : List Class) → Memᴰ u (members_of cs) → (c : Class) × Memᴰ c cs × Memᴰ u c.1
member_class {u = u} [] m = elim m [ ]
member_class {u} (c ∷ cs) m = go (split_mem c.1 (members_of cs) m) (member_class cs)
  where
    go : Memᴰ u c.1 ⊎ Memᴰ u (members_of cs) → (Memᴰ u (members_of cs) → (e : Class) × Memᴰ e cs × Memᴰ u e.1) → (e : Class) × Memᴰ e (c ∷ cs) × Memᴰ u e.1
    go (inl n) ih = (c, mathlib.Core.List.Memᴰ.head refl, n)
    go (inr n) ih = let (e, k, o) = ih n in (e, mathlib.Core.List.Memᴰ.tail k, o)

pub class_members : {u : ℕ} (c : Class) (cs : List Class) → Memᴰ c cs → Memᴰ u c.1 → Memᴰ u (members_of cs)
class_members {u = u} c [] x'' n = elim x'' [ ]
class_members {u} c (e ∷ cs) (mathlib.Core.List.Memᴰ.head p) n = mem_append e.1 (members_of cs) (inl (subst (λ (s : Class). Memᴰ u s.1) p n))
class_members c (e ∷ cs) (mathlib.Core.List.Memᴰ.tail m) n = mem_append e.1 (members_of cs) (inr (class_members c cs m n))

class_names : (c : Class) (cs : List Class) → Memᴰ c cs → Memᴰ c.0 (names_of cs)
class_names c [] x' = elim x' [ ]
class_names c (e ∷ cs) (mathlib.Core.List.Memᴰ.head p) = mathlib.Core.List.Memᴰ.head (ap (λ e. e.0) p)
class_names c (e ∷ cs) (mathlib.Core.List.Memᴰ.tail m) = mathlib.Core.List.Memᴰ.tail (class_names c cs m)

-- ---- the members of a class by its name
abbrev lookup : List Class → ℕ → List ℕ
lookup [] n = []
lookup (c ∷ cs) n = cond (eqb c.0 n) c.1 (lookup cs n)

lookup_mem : {u : ℕ} (cs : List Class) (n : ℕ) → Memᴰ u (lookup cs n) → (c : Class) × Memᴰ c cs × (c.0 ≡ n) × Memᴰ u c.1
lookup_mem {u = u} [] n m = elim m [ ]
lookup_mem {u} (c ∷ cs) n m = go (eqb c.0 n) refl m (lookup_mem cs n)
  where
    go : (b : Bool) → eqb c.0 n ≡ b → Memᴰ u (cond b c.1 (lookup cs n)) → (Memᴰ u (lookup cs n) → (e : Class) × Memᴰ e cs × (e.0 ≡ n) × Memᴰ u e.1)
        → (e : Class) × Memᴰ e (c ∷ cs) × (e.0 ≡ n) × Memᴰ u e.1
    go true e k ih = (c, mathlib.Core.List.Memᴰ.head refl, eqb-true c.0 n e, k)
    go false e k ih = let (d, a, b, o) = ih k in (d, mathlib.Core.List.Memᴰ.tail a, b, o)

lookup_class : (c : Class) (cs : List Class) → Distinct (names_of cs) → Memᴰ c cs → lookup cs c.0 ≡ c.1
lookup_class c [] d x'' = elim x'' [ ]
lookup_class c (e ∷ cs) d (mathlib.Core.List.Memᴰ.head p) = ap (λ b. cond b e.1 (lookup cs c.0)) (eq-eqb e.0 c.0 (ap (λ e. e.0) (sym p))) ∙ ap (λ e. e.1) (sym p)
lookup_class c (e ∷ cs) d (mathlib.Core.List.Memᴰ.tail m) =
    ap (λ b. cond b e.1 (lookup cs c.0)) (ne_eqb e.0 c.0 (λ i. d.0 (subst (λ (s : ℕ). Memᴰ s (names_of cs)) (sym i) (class_names c cs m)))) ∙ lookup_class c cs d.1 m

lookup_once : (cs : List Class) (n : ℕ) → Distinct (members_of cs) → Distinct (lookup cs n)
lookup_once [] n d = tt
lookup_once (c ∷ cs) n d = go (eqb c.0 n) (distinct_left c.1 (members_of cs) d) (lookup_once cs n (distinct_right c.1 (members_of cs) d))
  where
    go : (b : Bool) → Distinct c.1 → Distinct (lookup cs n) → Distinct (cond b c.1 (lookup cs n))
    go true p q = p
    go false p q = q

-- ---- the edges of the cycles
cycles_edge : (par : ℕ → ℕ) {e : Edge} (c : Class) (cs : List Class) → Memᴰ c cs → Memᴰ e (cycle (par c.0) c.1) → Memᴰ e (cycles_of par cs)
cycles_edge par {e = e} c [] x'' n = elim x'' [ ]
cycles_edge par {e} c (d ∷ cs) (mathlib.Core.List.Memᴰ.head p) n = mem_append (cycle (par d.0) d.1) (cycles_of par cs) (inl (subst (λ (s : Class). Memᴰ e (cycle (par s.0) s.1)) p n))
cycles_edge par c (d ∷ cs) (mathlib.Core.List.Memᴰ.tail m) n = mem_append (cycle (par d.0) d.1) (cycles_of par cs) (inr (cycles_edge par c cs m n))

edge_cycle : (par : ℕ → ℕ) {e : Edge} (cs : List Class) → Memᴰ e (cycles_of par cs) → (c : Class) × Memᴰ c cs × Memᴰ e (cycle (par c.0) c.1)
edge_cycle par {e = e} [] m = elim m [ ]
edge_cycle par {e} (d ∷ cs) m = go (edge_append (cycle (par d.0) d.1) (cycles_of par cs) m) (edge_cycle par cs)
  where
    go : Memᴰ e (cycle (par d.0) d.1) ⊎ Memᴰ e (cycles_of par cs) → (Memᴰ e (cycles_of par cs) → (c : Class) × Memᴰ c cs × Memᴰ e (cycle (par c.0) c.1))
        → (c : Class) × Memᴰ c (d ∷ cs) × Memᴰ e (cycle (par c.0) c.1)
    go (inl n) ih = (d, mathlib.Core.List.Memᴰ.head refl, n)
    go (inr n) ih = let (c, k, o) = ih n in (c, mathlib.Core.List.Memᴰ.tail k, o)

module _ (E : List Edge) (B : Blocks E) (K : NodeSet) (Q : List ℕ) (cs : List Class) (L : ClassList E B K Q cs) where
  abbrev relevant : NodeSet
  relevant = member (Q ++ members_of cs)

  listed : (v : ℕ) → relevant v ≡ true → B.child v ≡ true → Memᴰ v (members_of cs)
  listed v r c = go (split_mem Q (members_of cs) (member_mem (Q ++ members_of cs) v r))
    where
      go : Memᴰ v Q ⊎ Memᴰ v (members_of cs) → Memᴰ v (members_of cs)
      go (inl m) = contradict c (L.root_parentless v m)
      go (inr m) = m

  listed_relevant : (v : ℕ) → Memᴰ v (members_of cs) → relevant v ≡ true
  listed_relevant v m = mem_member v (Q ++ members_of cs) (mem_append Q (members_of cs) (inr m))

  pub listed_child : (v : ℕ) → Memᴰ v (members_of cs) → B.child v ≡ true
  listed_child v m = let (c, k, n) = member_class cs m in (L.class_member c v k n).0

  ring_of : (c : Class) → Memᴰ c cs → lookup cs c.0 ≡ c.1
  ring_of c k = lookup_class c cs L.names_once k

  -- ---- rings
  pub class_rings : Rings E B K (cycles_of B.par cs)
  class_rings =
      record {
        relevant = relevant;
        ring = lookup cs;
        active = λ k m. mem_member k (Q ++ members_of cs) (L.active k m);
        relevant_seen = λ v r. seen v (split_mem Q (members_of cs) (member_mem (Q ++ members_of cs) v r));
        relevant_top = λ v r c.
            let (e, k, n) = member_class cs (listed v r c) in
            mem_member (top_of B v) (Q ++ members_of cs) (subst (λ (s : ℕ). Memᴰ (B.par s) (Q ++ members_of cs)) (sym (L.class_member e v k n).1) (L.class_top e k));
        ring_member = λ v u c m.
            let (e, k, i, n) = lookup_mem cs (B.first v) m in
            let (d, f) = L.class_member e u k n in
            (listed_relevant u (class_members e cs k n), d, f ∙ i);
        member_ring = λ u c r.
            let (e, k, n) = member_class cs (listed u r c) in
            let (d, f) = L.class_member e u k n in
            subst (λ (l : List ℕ). Memᴰ u l) (sym (ap (lookup cs) f ∙ ring_of e k)) n;
        ring_once = λ v c. lookup_once cs (B.first v) L.members_once;
        ring_edge = λ v p q c m. edge v p q m;
        edge_ring = λ p q m.
            let (e, k, n) = edge_cycle B.par cs m in
            let (d, f) = L.class_name e k in
            (e.0, d, subst (λ (s : ℕ). Memᴰ (p, q) (cycle (B.par s) (lookup cs s))) (sym f) (subst (λ (l : List ℕ). Memᴰ (p, q) (cycle (B.par e.0) l)) (sym (ring_of e k)) n));
      }
    where
      seen : (v : ℕ) → Memᴰ v Q ⊎ Memᴰ v (members_of cs) → B.seen v ≡ true
      seen v (inl m) = L.root_seen v m
      seen v (inr m) = B.child_seen v (listed_child v m)

      edge : (v p q : ℕ) → Memᴰ (p, q) (cycle (top_of B v) (lookup cs (B.first v))) → Memᴰ (p, q) (cycles_of B.par cs)
      edge v p q = go (lookup cs (B.first v)) refl
        where
          go : (l : List ℕ) → lookup cs (B.first v) ≡ l → Memᴰ (p, q) (cycle (top_of B v) l) → Memᴰ (p, q) (cycles_of B.par cs)
          go [] i m = absurd (elim m [ ])
          go (x ∷ l) i m =
              let (e, k, j, n) = lookup_mem cs (B.first v) (subst (λ (l : List ℕ). Memᴰ x l) (sym i) (mathlib.Core.List.Memᴰ.head refl)) in
              let same : x ∷ l ≡ e.1 = sym i ∙ ap (lookup cs) (sym j) ∙ ring_of e k in
              cycles_edge B.par e cs k
              (subst (λ (s : ℕ). Memᴰ (p, q) (cycle (B.par s) e.1)) (sym j) (subst (λ (r : List ℕ). Memᴰ (p, q) (cycle (top_of B v) r)) same m))

-- ---- merges
pub single_list : {v : ℕ} (us : List ℕ) → single us ≡ true → Memᴰ v us → us ≡ v ∷ []
single_list [] h m = contradict h refl
single_list (x ∷ []) h (mathlib.Core.List.Memᴰ.head p) = ap (λ s. s ∷ []) (sym p)
single_list (x ∷ []) h (mathlib.Core.List.Memᴰ.tail m) = absurd (elim m [ ])
single_list (x ∷ y ∷ us) h m = contradict h refl

pub on_shares : {A : Type 0} (K : NodeSet) (par : ℕ → ℕ) (cs : List Class) (c : Class) (v : ℕ) → shares K par cs c v ≡ true
    → (single c.1 ≡ true → K v ≡ false → K (par c.0) ≡ false → classes_below par cs v ≡ 1 → A) → A
on_shares K par cs c v h f =
    and_elim _ _ h λ s i. and_elim _ _ i λ a j. and_elim _ _ j λ b o. f s (not-true (K v) a) (not-true (K (par c.0)) b) (eqb-true (classes_below par cs v) 1 o)

-- the first class with the top v
abbrev name_below : (ℕ → ℕ) → List Class → ℕ → ℕ
name_below par [] v = 0
name_below par (c ∷ cs) v = cond (eqb (par c.0) v) c.0 (name_below par cs v)

pub below_some : (par : ℕ → ℕ) (e : Class) (cs : List Class) (v : ℕ) → Memᴰ e cs → par e.0 ≡ v → 1 ≤ classes_below par cs v
below_some par e [] v x'' i = elim x'' [ ]
below_some par e (c ∷ cs) v (mathlib.Core.List.Memᴰ.head p) i = omega (arith, ap tick (eq-eqb (par c.0) v (ap (λ e. par e.0) (sym p) ∙ i)))
below_some par e (c ∷ cs) v (mathlib.Core.List.Memᴰ.tail m) i = omega (arith, below_some par e cs v m i)

below_one : (par : ℕ → ℕ) (e : Class) (cs : List Class) (v : ℕ) → classes_below par cs v ≤ 1 → Memᴰ e cs → par e.0 ≡ v → e.0 ≡ name_below par cs v
below_one par e [] v l x3 i = elim x3 [ ]
below_one par e (c ∷ cs) v l (mathlib.Core.List.Memᴰ.head p) i =
    ap (λ e. e.0) p ∙ sym (ap (λ b. cond b c.0 (name_below par cs v)) (eq-eqb (par c.0) v (ap (λ e. par e.0) (sym p) ∙ i)))
below_one par e (c ∷ cs) v l (mathlib.Core.List.Memᴰ.tail m) i =
    on_bool (eqb (par c.0) v)
    (λ t. absurd (omega (arith, ap tick t, below_some par e cs v m i)))
    (λ t. below_one par e cs v (omega arith) m i ∙ sym (ap (λ b. cond b c.0 (name_below par cs v)) t))

-- ---- the written cycles
pub own_edge : (K : NodeSet) (par : ℕ → ℕ) (cs : List Class) {e : Edge} (ds : List Class) → Memᴰ e (own_cycles K par cs ds) → (c : Class) × Memᴰ c ds × Memᴰ e (cycle (par c.0) c.1)
own_edge K par cs {e = e} [] m = elim m [ ]
own_edge K par cs {e} (d ∷ ds) m = go (any (shares K par cs d) d.1) (edge_append (cond (any (shares K par cs d) d.1) [] (cycle (par d.0) d.1)) (own_cycles K par cs ds) m) (own_edge K par cs ds)
  where
    go : (b : Bool) → Memᴰ e (cond b [] (cycle (par d.0) d.1)) ⊎ Memᴰ e (own_cycles K par cs ds)
        → (Memᴰ e (own_cycles K par cs ds) → (c : Class) × Memᴰ c ds × Memᴰ e (cycle (par c.0) c.1)) → (c : Class) × Memᴰ c (d ∷ ds) × Memᴰ e (cycle (par c.0) c.1)
    go true (inl n) ih = absurd (elim n [ ])
    go false (inl n) ih = (d, mathlib.Core.List.Memᴰ.head refl, n)
    go true (inr n) ih = let (c, k, o) = ih n in (c, mathlib.Core.List.Memᴰ.tail k, o)
    go false (inr n) ih = let (c, k, o) = ih n in (c, mathlib.Core.List.Memᴰ.tail k, o)

pub edge_own : (K : NodeSet) (par : ℕ → ℕ) (cs : List Class) {e : Edge} (c : Class) (ds : List Class) → Memᴰ c ds → Memᴰ e (cycle (par c.0) c.1) → any (shares K par cs c) c.1 ≡ false
    → Memᴰ e (own_cycles K par cs ds)
edge_own K par cs {e = e} c [] x3 n f = elim x3 [ ]
edge_own K par cs {e} c (d ∷ ds) (mathlib.Core.List.Memᴰ.head p) n f =
    mem_append (cond (any (shares K par cs d) d.1) [] (cycle (par d.0) d.1)) (own_cycles K par cs ds)
    (inl (subst (λ (b : Bool). Memᴰ e (cond b [] (cycle (par d.0) d.1))) (sym (ap (λ s. any (shares K par cs s) s.1) (sym p) ∙ f)) (subst (λ (s : Class). Memᴰ e (cycle (par s.0) s.1)) p n)))
edge_own K par cs c (d ∷ ds) (mathlib.Core.List.Memᴰ.tail m) n f = mem_append (cond (any (shares K par cs d) d.1) [] (cycle (par d.0) d.1)) (own_cycles K par cs ds) (inr (edge_own K par cs c ds m n f))

pub own_member : (K : NodeSet) (par : ℕ → ℕ) (cs : List Class) {u : ℕ} (c : Class) (ds : List Class) → Memᴰ c ds → Memᴰ u c.1 → shares K par cs c u ≡ false → Memᴰ u (own_members K par cs ds)
own_member K par cs {u = u} c [] x3 n f = elim x3 [ ]
own_member K par cs {u} c (d ∷ ds) (mathlib.Core.List.Memᴰ.head p) n f =
    mem_append (filter (λ v. not (shares K par cs d v)) d.1) (own_members K par cs ds)
    (inl (in_filter (λ v. not (shares K par cs d v)) u d.1 (subst (λ (s : Class). Memᴰ u s.1) p n) (ap not (ap (λ s. shares K par cs s u) (sym p) ∙ f))))
own_member K par cs c (d ∷ ds) (mathlib.Core.List.Memᴰ.tail m) n f = mem_append (filter (λ v. not (shares K par cs d v)) d.1) (own_members K par cs ds) (inr (own_member K par cs c ds m n f))

pub member_own : (K : NodeSet) (par : ℕ → ℕ) (cs : List Class) {u : ℕ} (ds : List Class) → Memᴰ u (own_members K par cs ds) → (c : Class) × Memᴰ c ds × Memᴰ u c.1 × (shares K par cs c u ≡ false)
member_own K par cs {u = u} [] m = elim m [ ]
member_own K par cs {u} (d ∷ ds) m = go (split_mem (filter (λ v. not (shares K par cs d v)) d.1) (own_members K par cs ds) m) (member_own K par cs ds)
  where
    go : Memᴰ u (filter (λ v. not (shares K par cs d v)) d.1) ⊎ Memᴰ u (own_members K par cs ds)
        → (Memᴰ u (own_members K par cs ds) → (c : Class) × Memᴰ c ds × Memᴰ u c.1 × (shares K par cs c u ≡ false)) → (c : Class) × Memᴰ c (d ∷ ds) × Memᴰ u c.1 × (shares K par cs c u ≡ false)
    go (inl n) ih = let (k, h) = filter_in (λ v. not (shares K par cs d v)) u d.1 n in (d, mathlib.Core.List.Memᴰ.head refl, k, not-true (shares K par cs d u) h)
    go (inr n) ih = let (c, k, o, h) = ih n in (c, mathlib.Core.List.Memᴰ.tail k, o, h)

-- ---- the reduced graph
module _ (E : List Edge) (B : Blocks E) (K : NodeSet) (Q : List ℕ) (cs : List Class) (L : ClassList E B K Q cs) where
  abbrev H : List Edge
  H = cycles_of B.par cs

  abbrev R : Rings E B K H
  R = class_rings E B K Q cs L

  shared_mergeable : (c : Class) (v : ℕ) → Memᴰ c cs → Memᴰ v c.1 → shares K B.par cs c v ≡ true → Mergeable E B K H R v
  unfolding class_rings
  shared_mergeable c v k n h =
      on_shares K B.par cs c v h λ s i t o.
      let (d, f) = L.class_member c v k n in
      record {
        is_child = d;
        idle = i;
        top_idle = ap (λ s. K (B.par s)) f ∙ t;
        alone = ap (lookup cs) f ∙ ring_of E B K Q cs L c k ∙ single_list c.1 s n;
        below = name_below B.par cs v;
        one_below = λ u cu r e.
            let (a, ka, na) = member_class cs (listed E B K Q cs L u r cu) in
            let (da, fa) = L.class_member a u ka na in
            fa ∙ below_one B.par a cs v (omega arith) ka (ap B.par (sym fa) ∙ e);
      }

  all_mergeable : (vs : List ℕ) → ((v : ℕ) → Memᴰ v vs → Mergeable E B K H R v) → Falling B.pos vs → AllMergeable E B K H R vs
  all_mergeable [] g f = tt
  all_mergeable (v ∷ vs) g f = (g v (mathlib.Core.List.Memᴰ.head refl), f.0, all_mergeable vs (λ w m. g w (mathlib.Core.List.Memᴰ.tail m)) f.1)

  -- a merged junction goes where its top goes, and the others stay
  pub merged_top : (vs : List ℕ) → Falling B.pos vs → (v : ℕ) → Memᴰ v vs → merged_to B vs v ≡ merged_to B vs (top_of B v)
  merged_top [] f v x'' = elim x'' [ ]
  merged_top (x ∷ vs) f v (mathlib.Core.List.Memᴰ.head p) =
      let t = merged_to B vs (top_of B x) in
      let same : onto t x t ≡ t = on_eq t x (λ e. ap (onto t x) e ∙ onto_there t x) (onto_other t x t) in
      ap (merged_to B (x ∷ vs)) p ∙ ap (onto t x) (merged_later E B K H R vs x f.0) ∙ onto_there t x ∙ sym same ∙ ap (λ s. merged_to B (x ∷ vs) (top_of B s)) (sym p)
  merged_top (x ∷ vs) f v (mathlib.Core.List.Memᴰ.tail m) = ap (onto (merged_to B vs (top_of B x)) x) (merged_top vs f.1 v m)

  pub merged_unlisted : (vs : List ℕ) (u : ℕ) → ¬ Memᴰ u vs → merged_to B vs u ≡ u
  merged_unlisted [] u n = refl
  merged_unlisted (x ∷ vs) u n = ap (onto (merged_to B vs (top_of B x)) x) (merged_unlisted vs u (λ m. n (mathlib.Core.List.Memᴰ.tail m))) ∙ onto_other (merged_to B vs (top_of B x)) x u (λ e. n (mathlib.Core.List.Memᴰ.head e))

  module _ (vs : List ℕ) (T : Shared E B K cs vs) where
    abbrev μ : ℕ → ℕ
    μ = merged_to B vs

    merges : AllMergeable E B K H R vs
    merges = all_mergeable vs (λ v m. let (c, k, n, h) = T.share v m in shared_mergeable c v k n h) T.falls

    written_all : Covers (image μ (own_cycles K B.par cs cs)) (image μ H)
    written_all p q m ne =
        let (a, b, n, ea, eb) = edge_image μ p q H m in
        let (c, k, o) = edge_cycle B.par cs n in
        inl (
        on_bool (any (shares K B.par cs c) c.1)
        (λ y. absurd (ne (loop a b c k o y ea eb)))
        (λ y. subst (λ (s : ℕ). Memᴰ (s, q) (image μ (own_cycles K B.par cs cs))) (sym ea) (subst (λ (s : ℕ). Memᴰ (μ a, s) (image μ (own_cycles K B.par cs cs))) (sym eb) (image_edge μ a b (own_cycles K B.par cs cs) (edge_own K B.par cs c cs k o y))))
        )
      where
        -- the one edge of a class whose member shares its top's number
        one : (t v a b : ℕ) (us : List ℕ) → us ≡ v ∷ [] → Memᴰ (a, b) (cycle t us) → (a ≡ t) × (b ≡ v)
        one t v a b us e m = go (subst (λ (l : List ℕ). Memᴰ (a, b) (cycle t l)) e m)
          where
            go : Memᴰ (a, b) (cycle t (v ∷ [])) → (a ≡ t) × (b ≡ v)
            go (mathlib.Core.List.Memᴰ.head i) = (ap (λ e. e.0) i, ap (λ e. e.1) i)
            go (mathlib.Core.List.Memᴰ.tail n) = absurd (elim n [ ])

        loop : (a b : ℕ) (c : Class) → Memᴰ c cs → Memᴰ (a, b) (cycle (B.par c.0) c.1) → any (shares K B.par cs c) c.1 ≡ true → p ≡ μ a → q ≡ μ b → p ≡ q
        loop a b c k o y ea eb =
            let (v, n, h) = any_find (shares K B.par cs c) c.1 y in
            let (d, f) = L.class_member c v k n in
            on_shares K B.par cs c v h λ s i t j.
            let (ia, ib) = one (B.par c.0) v a b c.1 (single_list c.1 s n) o in
            ea ∙ ap μ (ia ∙ ap B.par (sym f)) ∙ sym (merged_top vs T.falls v (T.every c v k n h)) ∙ sym (eb ∙ ap μ ib)

    all_written : Covers (image μ H) (image μ (own_cycles K B.par cs cs))
    all_written p q m ne =
        let (a, b, n, ea, eb) = edge_image μ p q (own_cycles K B.par cs cs) m in
        let (c, k, o) = own_edge K B.par cs cs n in
        inl (subst (λ (s : ℕ). Memᴰ (s, q) (image μ H)) (sym ea) (subst (λ (s : ℕ). Memᴰ (μ a, s) (image μ H)) (sym eb) (image_edge μ a b H (cycles_edge B.par c cs k o))))

    -- the same colourings at the active junctions
    pub reduced_graph_same : Same K E (λ k. k) (reduced_graph B K cs vs) (λ k. k)
    reduced_graph_same =
        same_trans K E (λ k. k) (image μ H) (λ k. k) (reduced_graph B K cs vs) (λ k. k)
        (reduced_same E B K H R vs merges)
        (same_edges K (λ k. k) (image μ H) (image μ (own_cycles K B.par cs cs)) written_all all_written)

    -- ---- its junctions
    relevant_goes : (n u : ℕ) → B.pos u < n → Memᴰ u (Q ++ members_of cs) → Memᴰ (μ u) (reduced_junctions B K Q cs)
    relevant_goes zero u l m = absurd (omega arith)
    relevant_goes (suc n) u l m =
        on_bool (member vs u)
        (λ t.
        let (c, k, o, h) = T.share u (member_mem vs u t) in
        let (d, f) = L.class_member c u k o in
        subst (λ (s : ℕ). Memᴰ s (reduced_junctions B K Q cs)) (sym (merged_top vs T.falls u (member_mem vs u t)))
        (relevant_goes n (top_of B u) (omega (arith, top_pos E B u d)) (subst (λ (s : ℕ). Memᴰ (B.par s) (Q ++ members_of cs)) (sym f) (L.class_top c k))))
        (λ t.
        let off : ¬ Memᴰ u vs = λ i. contradict (mem_member u vs i) t in
        subst (λ (s : ℕ). Memᴰ s (reduced_junctions B K Q cs)) (sym (merged_unlisted vs u off)) (go off (split_mem Q (members_of cs) m)))
      where
        go : ¬ Memᴰ u vs → Memᴰ u Q ⊎ Memᴰ u (members_of cs) → Memᴰ u (reduced_junctions B K Q cs)
        go off (inl i) = mem_append Q (own_members K B.par cs cs) (inl i)
        go off (inr i) =
            let (c, k, o) = member_class cs i in
            mem_append Q (own_members K B.par cs cs)
            (inr (own_member K B.par cs c cs k o (on_bool (shares K B.par cs c u) (λ h. absurd (off (T.every c u k o h))) (λ h. h))))

    goes : (u : ℕ) → Memᴰ u (Q ++ members_of cs) → Memᴰ (μ u) (reduced_junctions B K Q cs)
    goes u = relevant_goes (suc (B.pos u)) u (omega arith)

    -- the active junctions are among them, and the edges lie between them
    pub reduced_active : (k : ℕ) → K k ≡ true → Memᴰ k (reduced_junctions B K Q cs)
    reduced_active k m = subst (λ (s : ℕ). Memᴰ s (reduced_junctions B K Q cs)) (merged_active E B K H R vs merges k m) (goes k (L.active k m))

    pub reduced_ends : (p q : ℕ) → Memᴰ (p, q) (reduced_graph B K cs vs) → Memᴰ p (reduced_junctions B K Q cs) × Memᴰ q (reduced_junctions B K Q cs)
    reduced_ends p q m =
        let (a, b, n, ea, eb) = edge_image μ p q (own_cycles K B.par cs cs) m in
        let (c, k, o) = own_edge K B.par cs cs n in
        let (ma, mb) = cycle_ends (B.par c.0) a b c.1 o in (
          subst (λ (s : ℕ). Memᴰ s (reduced_junctions B K Q cs)) (sym ea) (goes a (at c k a ma)),
          subst (λ (s : ℕ). Memᴰ s (reduced_junctions B K Q cs)) (sym eb) (goes b (at c k b mb)),
        )
      where
        at : (c : Class) → Memᴰ c cs → (u : ℕ) → Memᴰ u (B.par c.0 ∷ c.1) → Memᴰ u (Q ++ members_of cs)
        at c k u (mathlib.Core.List.Memᴰ.head e) = subst (λ (s : ℕ). Memᴰ s (Q ++ members_of cs)) (sym e) (L.class_top c k)
        at c k u (mathlib.Core.List.Memᴰ.tail n) = mem_append Q (members_of cs) (inr (class_members c cs k n))

    -- ---- the replies, with any edges added between active junctions
    pub reduced_reply : (F : List Edge) → ends_in K F ≡ true → (x y : ℕ) → K x ≡ true → K y ≡ true
        → reply (E ++ F) x y ≡ reply (reduced_graph B K cs vs ++ F) x y
    reduced_reply F w x y kx ky =
        subst (λ (G : List Edge). reply (E ++ G) x y ≡ reply (reduced_graph B K cs vs ++ G) x y) (image_same F) (reply_added K E (λ k. k) (reduced_graph B K cs vs) (λ k. k) reduced_graph_same F w x y kx ky)

    -- ---- the size
    active_some : (c : Class) (ds : List Class) → Memᴰ c ds → K (B.par c.0) ≡ true → 1 ≤ active_tops K B.par ds
    active_some c [] x'' a = elim x'' [ ]
    active_some c (d ∷ ds) (mathlib.Core.List.Memᴰ.head p) a = omega (arith, ap tick (ap (λ e. K (B.par e.0)) (sym p) ∙ a))
    active_some c (d ∷ ds) (mathlib.Core.List.Memᴰ.tail m) a = omega (arith, active_some c ds m a)

    -- above each class is a root
    pub root_above : (n : ℕ) (c : Class) → B.pos c.0 < n → Memᴰ c cs → (1 ≤ active_tops K B.par cs) × (1 ≤ length Q)
    root_above zero c l k = absurd (omega arith)
    root_above (suc n) c l k = go (split_mem Q (members_of cs) (L.class_top c k)) (root_above n)
      where
        go : Memᴰ (B.par c.0) Q ⊎ Memᴰ (B.par c.0) (members_of cs) → ((e : Class) → B.pos e.0 < n → Memᴰ e cs → (1 ≤ active_tops K B.par cs) × (1 ≤ length Q))
            → (1 ≤ active_tops K B.par cs) × (1 ≤ length Q)
        go (inl m) ih = (active_some c cs k (L.root_active (B.par c.0) m), one_in m)
        go (inr m) ih =
            let (e, ke, n) = member_class cs m in
            let (d, f) = L.class_member e (B.par c.0) ke n in
            ih e (omega (arith, ap B.pos f, B.first_pos (B.par c.0) d, B.par_pos c.0 (L.class_name c k).0)) ke

    -- with at most k active junctions
    pub reduced_size : (k : ℕ) → length Q + count K (members_of cs) ≤ k → 2 ≤ k → (length (reduced_junctions B K Q cs) ≤ 3 * k - 3) × (length (reduced_graph B K cs vs) ≤ 4 * k - 6)
    reduced_size k few l = go cs refl
      where
        J : length (reduced_junctions B K Q cs) ≡ length Q + length (own_members K B.par cs cs)
        J = length-append Q (own_members K B.par cs cs)

        go : (ds : List Class) → cs ≡ ds → (length (reduced_junctions B K Q cs) ≤ 3 * k - 3) × (length (reduced_graph B K cs vs) ≤ 4 * k - 6)
        go [] e =
            let a : length (own_members K B.par cs cs) ≡ 0 = ap (λ s. length (own_members K B.par s s)) e in
            let b : length (own_cycles K B.par cs cs) ≡ 0 = ap (λ s. length (own_cycles K B.par s s)) e in
            (omega (arith, J), omega (arith, image_length μ (own_cycles K B.par cs cs)))
        go (c ∷ ds) e =
            let (a, b) = root_above (suc (B.pos c.0)) c (omega arith) (subst (λ (s : List Class). Memᴰ c s) (sym e) (mathlib.Core.List.Memᴰ.head refl)) in (
              omega (arith, J, members_bound K B.par cs L.class_filled L.members_once L.support),
              omega (arith, image_length μ (own_cycles K B.par cs cs), edges_bound K B.par cs L.class_filled L.members_once L.support),
            )
