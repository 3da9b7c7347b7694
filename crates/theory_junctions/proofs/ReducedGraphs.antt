-- The theorem of the sibling replay, for what specs/Reduce computes from the blocks of a search: the small graph has the colourings of the given graph at the active junctions;
-- so the replies are the same whatever edges are added between active junctions; it has at most 3k - 3 junctions and 4k - 6 edges for k different active junctions;
-- and for two active junctions their reply is read off. Last the same for other numbers and another order of edges, as a program writes them.
-- proofs/PathMergingLaws gives the blocks of every forest.
-- Assumes nothing.
use Prim.Native.Nat.{◌*◌, ◌-◌, ◌<◌, ◌≤◌, ℕ}
use mathlib.Core.Bool.{true}
use mathlib.Core.List.{List, Memᴰ, [], ◌++◌, ◌∷◌}
use mathlib.Core.Path.{◌∙◌, ◌≡◌, ap, sym}
use lib.ListN.{length}
use native.Mathlib.Omega.{arith}
use Rattle.theory_graph.specs.Graph.{Edge, NodeSet}
use Rattle.theory_graph.specs.Lists.{member}
use Rattle.theory_graph.specs.SmallGraph.{different, ends_in, image}
use Rattle.theory_junctions.proofs.Query.{reduced_bound}
use Rattle.theory_junctions.proofs.ReduceLaws.{class_list, shared_list}
use Rattle.theory_junctions.proofs.Reduced.{image_length}
use Rattle.theory_junctions.proofs.SameColourings.{image_same, reply_added}
use Rattle.theory_junctions.proofs.Windows.{numbered_below, numbered_ends, numbered_same, query_numbered, window_step}
use Rattle.theory_junctions.specs.Blocks.{Blocks}
use Rattle.theory_junctions.specs.Classes.{reduced_graph}
use Rattle.theory_junctions.specs.Colouring.{Same}
use Rattle.theory_junctions.specs.Reduce.{Relevance, Search, classes_in, roots_in, shared_in, small_graph, small_junctions, small_number}
use Rattle.theory_junctions.specs.Reply.{read_reply, reply}

module _ (E : List Edge) (B : Blocks E) (K rel : NodeSet) (order : List ℕ) (T : Search E B K order) (W : Relevance E B K rel) where
  abbrev H : List Edge
  H = small_graph B K rel order

  abbrev ν : ℕ → ℕ
  ν = small_number B K rel order

  pub small_same : Same K E (λ k. k) H ν
  small_same = numbered_same E B K (roots_in B order) (classes_in B rel order) (class_list E B K rel order T W) (shared_in B K rel order) (shared_list E B K rel order T W)

  -- demand 3 for the loss of a junction
  pub small_reply : (F : List Edge) → ends_in K F ≡ true → (x y : ℕ) → K x ≡ true → K y ≡ true → reply (E ++ F) x y ≡ reply (H ++ image ν F) (ν x) (ν y)
  small_reply F w x y kx ky = ap (λ G. reply (E ++ G) x y) (sym (image_same F)) ∙ reply_added K E (λ k. k) H ν small_same F w x y kx ky

  -- active junctions have numbers below the number of junctions, and so do the ends of edges
  pub small_below : (k : ℕ) → K k ≡ true → ν k < length (small_junctions B K rel order)
  small_below = numbered_below E B K (roots_in B order) (classes_in B rel order) (class_list E B K rel order T W) (shared_in B K rel order) (shared_list E B K rel order T W)

  pub small_ends : (p q : ℕ) → Memᴰ (p, q) H → (p < length (small_junctions B K rel order)) × (q < length (small_junctions B K rel order))
  small_ends = numbered_ends E B K (roots_in B order) (classes_in B rel order) (class_list E B K rel order T W) (shared_in B K rel order) (shared_list E B K rel order T W)

-- the size, for an active list
pub small_size : (E : List Edge) (B : Blocks E) (S : List ℕ) (rel : NodeSet) (order : List ℕ) → Search E B (member S) order → Relevance E B (member S) rel → 2 ≤ different S
    → (length (small_junctions B (member S) rel order) ≤ 3 * different S - 3) × (length (small_graph B (member S) rel order) ≤ 4 * different S - 6)
small_size E B S rel order T W l =
    let (a, b) = reduced_bound E B S (roots_in B order) (classes_in B rel order) (class_list E B (member S) rel order T W) (shared_in B (member S) rel order) (shared_list E B (member S) rel order T W) l in
    (a, omega (arith, image_length (small_number B (member S) rel order) (reduced_graph B (member S) (classes_in B rel order) (shared_in B (member S) rel order))))

-- the step from a window to a part of it: H stands for the network G at the labels K, the edges F between labels are added, and A are the junctions of the part's labels L
pub small_step : (K L : NodeSet) (G : List Edge) (g : ℕ → ℕ) (H : List Edge) (h : ℕ → ℕ) (F : List Edge) → Same K G g H h → ends_in K F ≡ true → ((k : ℕ) → L k ≡ true → K k ≡ true)
    → (B : Blocks (H ++ image h F)) (A rel : NodeSet) (order : List ℕ) → Search (H ++ image h F) B A order → Relevance (H ++ image h F) B A rel → ((k : ℕ) → L k ≡ true → A (h k) ≡ true)
    → Same L (G ++ image g F) g (small_graph B A rel order) (λ k. small_number B A rel order (h k))
small_step K L G g H h F s w sub B A rel order T W act =
    window_step K L G g H h F s w sub A act B (roots_in B order) (classes_in B rel order) (class_list (H ++ image h F) B A rel order T W) (shared_in B A rel order) (shared_list (H ++ image h F) B A rel order T W)

-- one query
pub small_query : (E : List Edge) (B : Blocks E) (x y : ℕ) (rel : NodeSet) (order : List ℕ) → Search E B (member (x ∷ y ∷ [])) order → Relevance E B (member (x ∷ y ∷ [])) rel
    → reply E x y ≡ read_reply (small_graph B (member (x ∷ y ∷ [])) rel order) (small_number B (member (x ∷ y ∷ [])) rel order x) (small_number B (member (x ∷ y ∷ [])) rel order y)
small_query E B x y rel order T W =
    query_numbered E B x y (roots_in B order) (classes_in B rel order) (class_list E B (member (x ∷ y ∷ [])) rel order T W) (shared_in B (member (x ∷ y ∷ [])) rel order) (shared_list E B (member (x ∷ y ∷ [])) rel order T W)

-- a window of one query with the labels x and y: the reply in the whole network is read off the last small graph
pub leaf_reply : (K : NodeSet) (G : List Edge) (g : ℕ → ℕ) (H : List Edge) (h : ℕ → ℕ) (F : List Edge) → Same K G g H h → ends_in K F ≡ true → (x y : ℕ) → K x ≡ true → K y ≡ true
    → (B : Blocks (H ++ image h F)) (rel : NodeSet) (order : List ℕ) → Search (H ++ image h F) B (member (h x ∷ h y ∷ [])) order → Relevance (H ++ image h F) B (member (h x ∷ h y ∷ [])) rel
    → reply (G ++ image g F) (g x) (g y)
    ≡ read_reply (small_graph B (member (h x ∷ h y ∷ [])) rel order) (small_number B (member (h x ∷ h y ∷ [])) rel order (h x)) (small_number B (member (h x ∷ h y ∷ [])) rel order (h y))
leaf_reply K G g H h F s w x y kx ky B rel order T W = reply_added K G g H h s F w x y kx ky ∙ small_query (H ++ image h F) B (h x) (h y) rel order T W
