-- What the replay uses: the reduced graph on numbers; the step from a window to a part of it; the reply at a window of one query.
-- In order: numbers; the numbered graph has the same colourings; the step; the reply.
-- Assumes nothing.
use Prim.Native.Nat.{◌+◌, ◌<◌, suc, ℕ}
use mathlib.Core.Bool.{false, true}
use mathlib.Core.List.{List, Memᴰ, [], ◌++◌, ◌∷◌, map}
use mathlib.Core.Path.{◌∙◌, ◌≡◌, ap, refl, subst, sym}
use lib.Dec.{eqb}
use lib.ListN.{length}
use native.Mathlib.Omega.{arith}
use borrow.Author.Tests.{eq-eqb, eqb-true}
use Rattle.theory_graph.proofs.Booleans.{contradict, on_bool}
use Rattle.theory_graph.proofs.Ends.{ends_in_mem}
use Rattle.theory_graph.proofs.Lists.{entry, mem_map, mem_member, member_mem, nth_entry, nth_low, position_nth}
use Rattle.theory_graph.specs.Graph.{Edge, NodeSet, joined}
use Rattle.theory_graph.specs.Lists.{member}
use Rattle.theory_graph.specs.SmallGraph.{ends_in, image, no_edge}
use Rattle.theory_junctions.proofs.Colours.{edge_image}
use Rattle.theory_junctions.proofs.Query.{Kx, Ky, actives_few, query_joined, two_few}
use Rattle.theory_junctions.proofs.ReadOut.{read_reply_lem}
use Rattle.theory_junctions.proofs.Reduced.{reduced_active, reduced_ends, reduced_graph_same, reduced_size}
use Rattle.theory_junctions.proofs.Replies.{reply_zero}
use Rattle.theory_junctions.proofs.SameColourings.{reply_same, same_labels, same_renumbered, same_step, same_trans}
use Rattle.theory_junctions.specs.Blocks.{Blocks}
use Rattle.theory_junctions.specs.Classes.{Class, ClassList, Shared, number_in, numbered_graph, reduced_graph, reduced_junctions}
use Rattle.theory_junctions.specs.Colouring.{Same}
use Rattle.theory_junctions.specs.Reply.{read_reply, reply}

-- ---- numbers
number_back : (J : List ℕ) (v : ℕ) → Memᴰ v J → (entry 0 J (number_in J v) ≡ v) × (number_in J v < length J)
number_back J v m =
    let (s, n, h) = position_nth (eqb v) 0 v J m (eq-eqb v v refl) in
    let e : 0 + number_in J v ≡ number_in J v = omega arith in
    (ap (entry 0 J) (sym e) ∙ nth_entry n ∙ sym (eqb-true v s h), omega (arith, (nth_low n).1))

pub map_length : (f : ℕ → ℕ) (J : List ℕ) → length (map f J) ≡ length J
map_length f [] = refl
map_length f (x ∷ J) = ap suc (map_length f J)

pub some_edge : (f : ℕ → ℕ) (H : List Edge) → no_edge (image f H) ≡ false → no_edge H ≡ false
some_edge f [] h = h
some_edge f (e ∷ H) h = h

-- ---- the numbered graph
module _ (E : List Edge) (B : Blocks E) (K : NodeSet) (Q : List ℕ) (cs : List Class) (L : ClassList E B K Q cs) (vs : List ℕ) (T : Shared E B K cs vs) where
  abbrev J : List ℕ
  J = reduced_junctions B K Q cs

  -- the same colourings, where an active junction has its number
  pub numbered_same : Same K E (λ k. k) (numbered_graph B K Q cs vs) (number_in J)
  numbered_same =
      same_trans K E (λ k. k) (reduced_graph B K cs vs) (λ k. k) (numbered_graph B K Q cs vs) (number_in J) (reduced_graph_same E B K Q cs L vs T)
      (same_renumbered K (member J) (number_in J) (entry 0 J) (reduced_graph B K cs vs) (λ k. k)
      (λ v m. (number_back J v (member_mem J v m)).0)
      (ends_in_mem (member J) (reduced_graph B K cs vs) (λ p q m. let (a, b) = reduced_ends E B K Q cs L vs T p q m in (mem_member p J a, mem_member q J b)))
      (λ k m. mem_member k J (reduced_active E B K Q cs L vs T k m)))

  -- numbers are below the number of junctions, at active junctions and at the ends of edges
  pub numbered_below : (k : ℕ) → K k ≡ true → number_in J k < length J
  numbered_below k m = (number_back J k (reduced_active E B K Q cs L vs T k m)).1

  pub numbered_ends : (p q : ℕ) → Memᴰ (p, q) (numbered_graph B K Q cs vs) → (p < length J) × (q < length J)
  numbered_ends p q m =
      let (a, b, n, ea, eb) = edge_image (number_in J) p q (reduced_graph B K cs vs) m in
      let (ma, mb) = reduced_ends E B K Q cs L vs T a b n in
      (subst (λ (s : ℕ). s < length J) (sym ea) (number_back J a ma).1, subst (λ (s : ℕ). s < length J) (sym eb) (number_back J b mb).1)

-- ---- from a window to a part: H stands for the network G at the labels K; the edges F between labels are added; the sum is reduced to the junctions of the part's labels L
pub window_step : (K L : NodeSet) (G : List Edge) (g : ℕ → ℕ) (H : List Edge) (h : ℕ → ℕ) (F : List Edge) → Same K G g H h → ends_in K F ≡ true → ((k : ℕ) → L k ≡ true → K k ≡ true)
    → (A : NodeSet) → ((k : ℕ) → L k ≡ true → A (h k) ≡ true)
    → (B : Blocks (H ++ image h F)) (Q : List ℕ) (cs : List Class) → ClassList (H ++ image h F) B A Q cs → (vs : List ℕ) → Shared (H ++ image h F) B A cs vs
    → Same L (G ++ image g F) g (numbered_graph B A Q cs vs) (λ k. number_in (reduced_junctions B A Q cs) (h k))
window_step K L G g H h F s w sub A act B Q cs C vs T =
    same_step K L G g H h F (numbered_graph B A Q cs vs) (λ k. number_in (reduced_junctions B A Q cs) (h k)) s w sub
    (same_labels A L h (H ++ image h F) (λ k. k) (numbered_graph B A Q cs vs) (number_in (reduced_junctions B A Q cs)) act (numbered_same (H ++ image h F) B A Q cs C vs T))

-- ---- a window of one query
module _ (E : List Edge) (B : Blocks E) (x y : ℕ) (Q : List ℕ) (cs : List Class) (L : ClassList E B (member (x ∷ y ∷ [])) Q cs) (vs : List ℕ) (T : Shared E B (member (x ∷ y ∷ [])) cs vs) where
  abbrev K : NodeSet
  K = member (x ∷ y ∷ [])

  abbrev M : List Edge
  M = numbered_graph B K Q cs vs

  abbrev ν : ℕ → ℕ
  ν = number_in (reduced_junctions B K Q cs)

  numbered_reply : reply E x y ≡ reply M (ν x) (ν y)
  numbered_reply = reply_same K E (λ k. k) M ν (numbered_same E B K Q cs L vs T) x y (Kx E B x y Q cs L vs T) (Ky E B x y Q cs L vs T)

  numbered_joined : no_edge M ≡ false → joined M (ν x) (ν y) ≡ true
  numbered_joined n =
      let j = query_joined E B x y Q cs L vs T (some_edge ν (reduced_graph B K cs vs) n) in
      let r = reply_same K E (λ k. k) (reduced_graph B K cs vs) (λ k. k) (reduced_graph_same E B K Q cs L vs T) x y (Kx E B x y Q cs L vs T) (Ky E B x y Q cs L vs T) in
      on_bool (joined M (ν x) (ν y)) (λ h. h)
      (λ h. contradict j ((reply_zero (reduced_graph B K cs vs) x y).0 (sym r ∙ numbered_reply ∙ (reply_zero M (ν x) (ν y)).1 h)))

  -- the reply is read off the numbers
  pub query_numbered : reply E x y ≡ read_reply M (ν x) (ν y)
  query_numbered =
      let few = (reduced_size E B K Q cs L vs T 2 (omega (arith, two_few E B x y Q cs L vs T, actives_few E B (x ∷ y ∷ []) Q cs L)) (omega arith)).0 in
      numbered_reply
      ∙ read_reply_lem M (map ν (reduced_junctions B K Q cs)) (ν x) (ν y) (omega (arith, map_length ν (reduced_junctions B K Q cs)))
      (mem_map ν (reduced_active E B K Q cs L vs T x (Kx E B x y Q cs L vs T))) (mem_map ν (reduced_active E B K Q cs L vs T y (Ky E B x y Q cs L vs T)))
      (λ p q m.
      let (a, b, n, ea, eb) = edge_image ν p q (reduced_graph B K cs vs) m in
      let (ma, mb) = reduced_ends E B K Q cs L vs T a b n in (
        subst (λ (s : ℕ). Memᴰ s (map ν (reduced_junctions B K Q cs))) (sym ea) (mem_map ν ma),
        subst (λ (s : ℕ). Memᴰ s (map ν (reduced_junctions B K Q cs))) (sym eb) (mem_map ν mb),
      ))
      numbered_joined
