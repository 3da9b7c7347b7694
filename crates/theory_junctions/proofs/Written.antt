-- The small graph as a program writes it: with numbers of the program's choice, and the edges in any order and direction, with or without repeated edges and loops.
-- In order: images; a junction has the number of the junction it is merged into; the colourings; the counts of junctions and edges; the reply of one query.
-- Assumes nothing.
use Prim.Native.Nat.{◌*◌, ◌+◌, ◌-◌, ◌<◌, ◌≤◌, suc, zero, ℕ}
use mathlib.Core.Bool.{false, true}
use mathlib.Core.List.{List, Memᴰ, [], ◌∷◌, map}
use mathlib.Core.Logic.{◌⊎◌, inl, inr}
use mathlib.Core.Path.{◌∙◌, ◌≡◌, ap, ap₂, refl, subst, sym}
use lib.ListN.{length, length-append}
use native.Mathlib.Omega.{arith}
use Rattle.theory_graph.proofs.Booleans.{contradict, on_bool}
use Rattle.theory_graph.proofs.DistinctLists.{distinct_fewer}
use Rattle.theory_graph.proofs.Ends.{ends_in_mem}
use Rattle.theory_graph.proofs.Lists.{filter_in, mem_map, mem_member, member_mem}
use Rattle.theory_graph.specs.Graph.{Edge, NodeSet, joined}
use Rattle.theory_graph.specs.Lists.{Distinct, filter, member}
use Rattle.theory_graph.specs.SmallGraph.{different, image, no_edge}
use Rattle.theory_junctions.proofs.Colours.{edge_image}
use Rattle.theory_junctions.proofs.Query.{actives_few, query_joined, reduced_bound, reduced_few, two_few}
use Rattle.theory_junctions.proofs.ReadOut.{read_reply_lem}
use Rattle.theory_junctions.proofs.ReduceLaws.{backwards_mem, class_list, shared_list}
use Rattle.theory_junctions.proofs.Reduced.{image_length, merged_top, merged_unlisted, reduced_active, reduced_ends, reduced_graph_same, reduced_size}
use Rattle.theory_junctions.proofs.Reduction.{image_twice, top_pos}
use Rattle.theory_junctions.proofs.Replies.{reply_zero}
use Rattle.theory_junctions.proofs.SameColourings.{Covers, reply_same, same_edges, same_renumbered, same_trans}
use Rattle.theory_junctions.proofs.Size.{edges_count}
use Rattle.theory_junctions.proofs.Windows.{map_length, some_edge}
use Rattle.theory_junctions.specs.Blocks.{Blocks, merged_to, top_of}
use Rattle.theory_junctions.specs.Classes.{Class, ClassList, Shared, closed_cycles, own_members, reduced_graph}
use Rattle.theory_junctions.specs.Colouring.{Same}
use Rattle.theory_junctions.specs.Reduce.{Numbers, Relevance, Search, classes_in, roots_in, shared_in, shares_top, small_junctions, written_edges}
use Rattle.theory_junctions.specs.Reply.{read_reply, reply}

-- ---- images
image_agree : (f g : ℕ → ℕ) (G : List Edge) → ((p q : ℕ) → Memᴰ (p, q) G → (f p ≡ g p) × (f q ≡ g q)) → image f G ≡ image g G
image_agree f g [] h = refl
image_agree f g (e ∷ G) h =
    let (a, b) = h e.0 e.1 (Memᴰ.head refl) in
    ap₂ (λ x l. x ∷ l) (ap₂ (λ s t. (s, t)) a b) (image_agree f g G (λ p q m. h p q (Memᴰ.tail m)))

module _ (E : List Edge) (B : Blocks E) (K rel : NodeSet) (order : List ℕ) (T : Search E B K order) (W : Relevance E B K rel) where
  abbrev Q : List ℕ
  Q = roots_in B order

  abbrev cs : List Class
  cs = classes_in B rel order

  abbrev vs : List ℕ
  vs = shared_in B K rel order

  -- ---- numbers
  module _ (num ρ : ℕ → ℕ) (N : Numbers E B K rel order num ρ) where
    merged_number : (n u : ℕ) → B.pos u < n → num u ≡ num (merged_to B vs u)
    merged_number zero u l = absurd (omega arith)
    merged_number (suc n) u l =
        on_bool (member vs u)
        (λ t.
        let m = member_mem vs u t in
        let S = shared_list E B K rel order T W in
        let (c, k, o, h) = S.share u m in
        let (d, f) = (class_list E B K rel order T W).class_member c u k o in
        let s = (filter_in (shares_top B K rel order) u order (backwards_mem u (filter (shares_top B K rel order) order) m)).1 in
        N.shared u s ∙ merged_number n (top_of B u) (omega (arith, top_pos E B u d)) ∙ ap num (sym (merged_top E B K Q cs (class_list E B K rel order T W) vs S.falls u m)))
        (λ t. ap num (sym (merged_unlisted E B K Q cs (class_list E B K rel order T W) vs u (λ m. contradict (mem_member u vs m) t))))

    numbered_twice : image num (reduced_graph B K cs vs) ≡ image num (written_edges B K rel order)
    numbered_twice =
        image_twice num (merged_to B vs) (written_edges B K rel order)
        ∙ image_agree (λ u. num (merged_to B vs u)) num (written_edges B K rel order) (λ p q m. (sym (merged_number (suc (B.pos p)) p (omega arith)), sym (merged_number (suc (B.pos q)) q (omega arith))))

    -- the colourings of the given graph at the active junctions
    pub written_same : (H : List Edge) → Covers H (image num (written_edges B K rel order)) → Covers (image num (written_edges B K rel order)) H → Same K E (λ k. k) H num
    written_same H a b =
        let L = class_list E B K rel order T W in
        let S = shared_list E B K rel order T W in
        let J = small_junctions B K rel order in
        same_trans K E (λ k. k) (reduced_graph B K cs vs) (λ k. k) H num (reduced_graph_same E B K Q cs L vs S)
        (same_trans K (reduced_graph B K cs vs) (λ k. k) (image num (written_edges B K rel order)) num H num
        (subst (λ (G : List Edge). Same K (reduced_graph B K cs vs) (λ k. k) G num) numbered_twice
        (same_renumbered K (member J) num ρ (reduced_graph B K cs vs) (λ k. k) (λ v m. N.own v (member_mem J v m))
        (ends_in_mem (member J) (reduced_graph B K cs vs) (λ p q m. let (s, t) = reduced_ends E B K Q cs L vs S p q m in (mem_member p J s, mem_member q J t)))
        (λ k m. mem_member k J (reduced_active E B K Q cs L vs S k m))))
        (same_edges K num (image num (written_edges B K rel order)) H a b))

  -- ---- counts
  -- one edge for each junction that is no root, and one for each closed cycle
  pub written_count : length (written_edges B K rel order) + length Q ≡ length (small_junctions B K rel order) + closed_cycles cs
  written_count = omega (arith, length-append Q (own_members K B.par cs cs), edges_count K B.par cs cs (class_list E B K rel order T W).class_filled)

-- with k different active junctions, a list without repetition of junctions of the small graph has at most 3k - 3 entries, and at most 4k - 6 edges are written
pub written_size : (E : List Edge) (B : Blocks E) (S : List ℕ) (rel : NodeSet) (order : List ℕ) → Search E B (member S) order → Relevance E B (member S) rel → 2 ≤ different S
    → (J : List ℕ) → Distinct J → ((v : ℕ) → Memᴰ v J → Memᴰ v (small_junctions B (member S) rel order)) → (length J ≤ 3 * different S - 3) × (length (written_edges B (member S) rel order) ≤ 4 * different S - 6)
written_size E B S rel order T W l J d f =
    let (a, b) = reduced_bound E B S (roots_in B order) (classes_in B rel order) (class_list E B (member S) rel order T W) (shared_in B (member S) rel order) (shared_list E B (member S) rel order T W) l in (
      omega (arith, distinct_fewer (small_junctions B (member S) rel order) J d f),
      omega (arith, image_length (merged_to B (shared_in B (member S) rel order)) (written_edges B (member S) rel order)),
    )

-- with one active junction or none
pub written_few : (E : List Edge) (B : Blocks E) (S : List ℕ) (rel : NodeSet) (order : List ℕ) → Search E B (member S) order → Relevance E B (member S) rel → different S ≤ 1
    → (J : List ℕ) → Distinct J → ((v : ℕ) → Memᴰ v J → Memᴰ v (small_junctions B (member S) rel order)) → (length J ≤ different S) × (length (written_edges B (member S) rel order) ≡ 0)
written_few E B S rel order T W l J d f =
    let (a, b) = reduced_few E B S (roots_in B order) (classes_in B rel order) (class_list E B (member S) rel order T W) (shared_in B (member S) rel order) (shared_list E B (member S) rel order T W) l in
    (omega (arith, a, distinct_fewer (small_junctions B (member S) rel order) J d f), b)

-- ---- one query
module _ (E : List Edge) (B : Blocks E) (x y : ℕ) (rel : NodeSet) (order : List ℕ) (T : Search E B (member (x ∷ y ∷ [])) order) (W : Relevance E B (member (x ∷ y ∷ [])) rel)
    (num ρ : ℕ → ℕ) (N : Numbers E B (member (x ∷ y ∷ [])) rel order num ρ) where
  abbrev K : NodeSet
  K = member (x ∷ y ∷ [])

  abbrev X : List Edge
  X = image num (written_edges B K rel order)

  abbrev R : List Edge
  R = reduced_graph B K (classes_in B rel order) (shared_in B K rel order)

  module _ (H : List Edge) (all : Covers H X) (only : (p q : ℕ) → Memᴰ (p, q) H → Memᴰ (p, q) X ⊎ Memᴰ (q, p) X) where
    L : ClassList E B K (roots_in B order) (classes_in B rel order)
    L = class_list E B K rel order T W

    S : Shared E B K (classes_in B rel order) (shared_in B K rel order)
    S = shared_list E B K rel order T W

    abbrev J : List ℕ
    J = small_junctions B K rel order

    same : Same K E (λ k. k) H num
    same = written_same E B K rel order T W num ρ N H all (λ p q m n. only p q m)

    Kx : K x ≡ true
    Kx = mem_member x (x ∷ y ∷ []) (Memᴰ.head refl)

    Ky : K y ≡ true
    Ky = mem_member y (x ∷ y ∷ []) (Memᴰ.tail (Memᴰ.head refl))

    -- the ends of an edge of X are numbers of junctions
    ends : (p q : ℕ) → Memᴰ (p, q) X → Memᴰ p (map num J) × Memᴰ q (map num J)
    ends p q m =
        let (a, b, n, ea, eb) = edge_image num p q R (subst (λ (G : List Edge). Memᴰ (p, q) G) (sym (numbered_twice E B K rel order T W num ρ N)) m) in
        let (ma, mb) = reduced_ends E B K (roots_in B order) (classes_in B rel order) L (shared_in B K rel order) S a b n in
        (subst (λ (s : ℕ). Memᴰ s (map num J)) (sym ea) (mem_map num ma), subst (λ (s : ℕ). Memᴰ s (map num J)) (sym eb) (mem_map num mb))

    ends_either : (p q : ℕ) → Memᴰ (p, q) X ⊎ Memᴰ (q, p) X → Memᴰ p (map num J) × Memᴰ q (map num J)
    ends_either p q (inl m) = ends p q m
    ends_either p q (inr m) = let (a, b) = ends q p m in (b, a)

    edge_there : (G : List Edge) → ((p q : ℕ) → Memᴰ (p, q) G → Memᴰ (p, q) X ⊎ Memᴰ (q, p) X) → no_edge G ≡ false → no_edge X ≡ false
    edge_there [] f n = contradict refl n
    edge_there (e ∷ G) f n = go (f e.0 e.1 (Memᴰ.head refl))
      where
        has : {e : Edge} (M : List Edge) → Memᴰ e M → no_edge M ≡ false
        has [] m = elim m [ ]
        has (e ∷ M) m = refl

        go : Memᴰ (e.0, e.1) X ⊎ Memᴰ (e.1, e.0) X → no_edge X ≡ false
        go (inl m) = has X m
        go (inr m) = has X m

    joined_there : no_edge H ≡ false → joined H (num x) (num y) ≡ true
    joined_there n =
        let e : no_edge R ≡ false = some_edge num R (ap no_edge (numbered_twice E B K rel order T W num ρ N) ∙ edge_there H only n) in
        let j = query_joined E B x y (roots_in B order) (classes_in B rel order) L (shared_in B K rel order) S e in
        let r = reply_same K E (λ k. k) R (λ k. k) (reduced_graph_same E B K (roots_in B order) (classes_in B rel order) L (shared_in B K rel order) S) x y Kx Ky in
        on_bool (joined H (num x) (num y)) (λ h. h)
        (λ h. contradict j ((reply_zero R x y).0 (sym r ∙ reply_same K E (λ k. k) H num same x y Kx Ky ∙ (reply_zero H (num x) (num y)).1 h)))

    -- the reply of the given graph is read off what the program wrote
    pub written_query : reply E x y ≡ read_reply H (num x) (num y)
    written_query =
        let few = (reduced_size E B K (roots_in B order) (classes_in B rel order) L (shared_in B K rel order) S 2 (omega (arith, two_few E B x y (roots_in B order) (classes_in B rel order) L (shared_in B K rel order) S, actives_few E B (x ∷ y ∷ []) (roots_in B order) (classes_in B rel order) L)) (omega arith)).0 in
        reply_same K E (λ k. k) H num same x y Kx Ky
        ∙ read_reply_lem H (map num J) (num x) (num y) (omega (arith, map_length num J))
        (mem_map num (reduced_active E B K (roots_in B order) (classes_in B rel order) L (shared_in B K rel order) S x Kx))
        (mem_map num (reduced_active E B K (roots_in B order) (classes_in B rel order) L (shared_in B K rel order) S y Ky))
        (λ p q m. ends_either p q (only p q m)) joined_there
