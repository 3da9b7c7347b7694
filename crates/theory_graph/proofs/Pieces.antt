-- The numbers of pieces (document 02, No. 2). In order: groups of an equivalence, numbered by first appearance; the pieces: two entries' numbers differ just where
-- their nodes have answer 0, the numbers are those below the count of pieces, each is used, and they come in order; numbers where the entries are moved by a map
-- that keeps the groups; and so the pieces are those of the places that a small graph, and the contraction, gives the entries.
-- Assumes nothing.
use Prim.Native.Nat.{◌<◌, suc, zero, ℕ}
use mathlib.Core.Bool.{Bool, cond, false, not, true}
use mathlib.Core.List.{List, Memᴰ, [], ◌++◌, ◌∷◌, append-nil, map}
use mathlib.Core.Logic.{◌↔◌}
use mathlib.Core.Path.{◌∙◌, ◌≡◌, ap, ap₂, refl, subst, sym}
use lib.Dec.{eqb, ltb}
use lib.ListN.{get_or, length, length-map}
use native.Mathlib.Nat.{zero-add}
use native.Mathlib.Omega.{arith}
use borrow.Author.Tests.{eq-eqb, eqb-true, lt-ltb, ltb-false, ltb-true}
use Rattle.theory_graph.proofs.Booleans.{bool_iff, contradict, on_bool}
use Rattle.theory_graph.proofs.ContractionIsSmall.{contract_small}
use Rattle.theory_graph.proofs.Definitions.{joined_from, joined_to}
use Rattle.theory_graph.proofs.Lifting.{small_cuts}
use Rattle.theory_graph.proofs.Lists.{Nth, entry, entry_nth, filter_true, firsts_append, firsts_cover, firsts_in, firsts_pairwise, nth_entry, nth_in, nth_low}
use Rattle.theory_graph.proofs.Lists.{map_equal, map_twice, pairwise_nth, position_append, position_nth}
use Rattle.theory_graph.proofs.Numbering.{in_order_lem}
use Rattle.theory_graph.proofs.Published.{joined_refl, joined_sym, joined_trans}
use Rattle.theory_graph.proofs.Separation.{insep_sym, insep_trans, two_edge_connected}
use Rattle.theory_graph.proofs.SmallGraphs.{SmallGraph}
use Rattle.theory_graph.proofs.Transfer.{insep_down, insep_up}
use Rattle.theory_graph.specs.Contraction.{contract}
use Rattle.theory_graph.specs.Graph.{Edge, answer, joined, two_edge}
use Rattle.theory_graph.specs.Lists.{filter, firsts, position}
use Rattle.theory_graph.specs.Pieces.{numbered, piece_count, pieces}
use Rattle.theory_graph.specs.SmallGraph.{ends_in, in_order}

-- ---- entries by their index
get_d_map : (f : ℕ → ℕ) (S : List ℕ) (i : ℕ) → i < length S → get_or (map f S) i 0 ≡ f (get_or S i 0)
get_d_map f [] i l = absurd (omega arith)
get_d_map f (x ∷ S) zero l = refl
get_d_map f (x ∷ S) (suc i) l = get_d_map f S i (omega arith)

get_or_mem : (S : List ℕ) (i : ℕ) → i < length S → Memᴰ (get_or S i 0) S
get_or_mem [] i l = absurd (omega arith)
get_or_mem (x ∷ S) zero l = Memᴰ.head refl
get_or_mem (x ∷ S) (suc i) l = Memᴰ.tail (get_or_mem S i (omega arith))

mem_get_or : (S : List ℕ) (a : ℕ) → Memᴰ a S → (i : ℕ) × (i < length S) × (get_or S i 0 ≡ a)
mem_get_or [] a x' = elim x' [ ]
mem_get_or (x ∷ S) a (Memᴰ.head p) = (0, omega arith, sym p)
mem_get_or (x ∷ S) a (Memᴰ.tail m) = let (i, l, e) = mem_get_or S a m in (suc i, omega arith, e)

-- ---- the groups of an equivalence
pub record Equivalence (R : ℕ → ℕ → Bool) : Type 0 where
  pub self : (x : ℕ) → R x x ≡ true
  pub turn : (x y : ℕ) → R x y ≡ true → R y x ≡ true
  pub join : (x y z : ℕ) → R x y ≡ true → R y z ≡ true → R x z ≡ true

pub equal_nodes : Equivalence eqb
equal_nodes = record {
  self = λ x. eq-eqb x x refl;
  turn = λ x y e. eq-eqb y x (sym (eqb-true x y e));
  join = λ x y z p q. eq-eqb x z (eqb-true x y p ∙ eqb-true y z q);
}

joined_nodes : (E : List Edge) → Equivalence (joined E)
joined_nodes E = record { self = joined_refl E; turn = joined_sym E; join = joined_trans E }

-- the number of a's group
abbrev pub group : (ℕ → ℕ → Bool) → List ℕ → ℕ → ℕ
group R S a = position (λ c. R c a) (firsts R S)

module _ {R : ℕ → ℕ → Bool} (q : Equivalence R) (S : List ℕ) where
  -- the first entry of a's group has its number
  group_first : (a : ℕ) → Memᴰ a S → (c : ℕ) × Nth c 0 (firsts R S) (group R S a) × (R c a ≡ true)
  group_first a m =
      let (c, n, e) = firsts_cover R q.self q.join a S m in
      let (d, o, f) = position_nth (λ c. R c a) 0 c (firsts R S) n e in
      (d, subst (λ (v : ℕ). Nth d 0 (firsts R S) v) (zero-add (group R S a)) o, f)

  -- first entries of one group have one number
  one_number : (c d i j : ℕ) → Nth c 0 (firsts R S) i → Nth d 0 (firsts R S) j → R c d ≡ true → i ≡ j
  one_number c d i j m n e = on_bool (ltb i j)
      (λ p. absurd (pairwise_nth R (firsts_pairwise R S) m n (ltb-true i j p) e))
      (λ p. on_bool (ltb j i)
      (λ q'. absurd (pairwise_nth R (firsts_pairwise R S) n m (ltb-true j i q') (q.turn c d e)))
      (λ q'. omega (arith, ltb-false i j p, ltb-false j i q')))

  -- the group of a first entry has its number
  pub group_nth : (c a i : ℕ) → Nth c 0 (firsts R S) i → Memᴰ a S → R c a ≡ true → group R S a ≡ i
  group_nth c a i n m e = let (d, o, f) = group_first a m in one_number d c (group R S a) i o n (q.join d a c f (q.turn c a e))

  group_same : (a b : ℕ) → Memᴰ a S → Memᴰ b S → R a b ≡ true → group R S a ≡ group R S b
  group_same a b ma mb e = let (d, n, f) = group_first b mb in group_nth d a (group R S b) n ma (q.join d b a f (q.turn a b e))

  same_group : (a b : ℕ) → Memᴰ a S → Memᴰ b S → group R S a ≡ group R S b → R a b ≡ true
  same_group a b ma mb e =
      let (c, m, p) = group_first a ma in
      let (d, n, f) = group_first b mb in
      let z : c ≡ d = sym (nth_entry m) ∙ ap (entry 0 (firsts R S)) e ∙ nth_entry n in
      q.join a c b (q.turn c a p) (subst (λ (v : ℕ). R v b ≡ true) (sym z) f)

  group_below : (a : ℕ) → Memᴰ a S → group R S a < length (firsts R S)
  group_below a m = let (c, n, e) = group_first a m in omega (arith, (nth_low n).1)

  group_used : (k : ℕ) → k < length (firsts R S) → (a : ℕ) × Memᴰ a S × (group R S a ≡ k)
  group_used k l =
      let n = entry_nth 0 k (firsts R S) (omega arith) (omega arith) in
      let c = entry 0 (firsts R S) k in
      let m = firsts_in R c S (nth_in n) in
      (c, m, group_nth c c k n m (q.self c))

  numbered_order : in_order 0 (numbered R S) ≡ true
  unfolding numbered
  numbered_order = in_order_lem R q.self q.join (group R S) [] S (λ x. true) 0 (λ x c p f. refl)
      (λ a e. sym (zero-add (position (λ c. R c a) (filter (λ x. true) (firsts R (S ++ [])))) ∙ ap (position (λ c. R c a)) (filter_true (firsts R (S ++ [])) ∙ ap (firsts R) (append-nil S))))
      (λ a e. contradict refl e)

  -- in a longer list its group has the same number
  pub group_append : (T : List ℕ) (a : ℕ) → Memᴰ a S → group R (S ++ T) a ≡ group R S a
  group_append T a m =
      let (us, e) = firsts_append R S T in
      let (c, n, f) = firsts_cover R q.self q.join a S m in
      ap (position (λ c. R c a)) e ∙ position_append (λ c. R c a) c (firsts R S) us n f

-- ---- pieces
-- answer 0 is that the two are not joined
answer_unjoined : (E : List Edge) (x y : ℕ) → joined E x y ≡ false → answer E x y ≡ 0
unfolding answer
answer_unjoined E x y f = ap (λ b. cond b (cond (two_edge E x y) 2 1) 0) f

unjoined_answer : (E : List Edge) (x y : ℕ) → answer E x y ≡ 0 → joined E x y ≡ false
unfolding answer
unjoined_answer E x y e = on_bool (joined E x y)
    (λ p. absurd (some (two_edge E x y) (sym (ap (λ b. cond b (cond (two_edge E x y) 2 1) 0) p) ∙ e)))
    (λ f. f)
  where
    some : (b : Bool) → cond {A = ℕ} b 2 1 ≡ 0 → ⊥
    some true e = omega arith
    some false e = omega arith

module _ (E : List Edge) (S : List ℕ) where
  pieces_at : (i : ℕ) → i < length S → get_or (pieces E S) i 0 ≡ group (joined E) S (get_or S i 0)
  unfolding pieces numbered
  pieces_at i l = get_d_map (group (joined E) S) S i l

  -- two entries' numbers differ exactly when their nodes have answer 0
  pub pieces_differ : (i j : ℕ) → i < length S → j < length S → (¬ (get_or (pieces E S) i 0 ≡ get_or (pieces E S) j 0)) ↔ (answer E (get_or S i 0) (get_or S j 0) ≡ 0)
  pieces_differ i j l k =
      let a = get_or S i 0 in
      let b = get_or S j 0 in
      let ma = get_or_mem S i l in
      let mb = get_or_mem S j k in (
        λ ne. answer_unjoined E a b (on_bool (joined E a b)
            (λ p. absurd (ne (pieces_at i l ∙ group_same (joined_nodes E) S a b ma mb p ∙ sym (pieces_at j k))))
            (λ f. f)),
        λ z e. contradict (same_group (joined_nodes E) S a b ma mb (sym (pieces_at i l) ∙ e ∙ pieces_at j k)) (unjoined_answer E a b z),
      )

  -- the numbers are those below the count, and each is used
  pub pieces_below : (i : ℕ) → i < length S → get_or (pieces E S) i 0 < piece_count E S
  unfolding piece_count
  pieces_below i l = rw (pieces_at i l) (group_below (joined_nodes E) S (get_or S i 0) (get_or_mem S i l))

  pub pieces_used : (p : ℕ) → p < piece_count E S → (i : ℕ) × (i < length S) × (get_or (pieces E S) i 0 ≡ p)
  unfolding piece_count
  pieces_used p l =
      let (a, m, e) = group_used (joined_nodes E) S p l in
      let (i, k, z) = mem_get_or S a m in
      (i, k, pieces_at i k ∙ ap (group (joined E) S) z ∙ e)

  pub pieces_order : in_order 0 (pieces E S) ≡ true
  unfolding pieces
  pieces_order = numbered_order (joined_nodes E) S

  pub pieces_length : length (pieces E S) ≡ length S
  unfolding pieces numbered
  pieces_length = length-map S (group (joined E) S)

-- ---- numbers follow where the entries are moved by σ, which keeps the groups
module _ (σ : ℕ → ℕ) where
  filter_map : (f k : ℕ → Bool) (xs : List ℕ) → ((a : ℕ) → Memᴰ a xs → f a ≡ k (σ a)) → filter k (map σ xs) ≡ map σ (filter f xs)
  filter_map f k [] e = refl
  filter_map f k (x ∷ xs) e =
      ap₂ (λ (b : Bool) (l : List ℕ). cond b (σ x ∷ l) l) (sym (e x (Memᴰ.head refl))) (filter_map f k xs (λ a m. e a (Memᴰ.tail m))) ∙ over (f x)
    where
      over : (b : Bool) → cond b (σ x ∷ map σ (filter f xs)) (map σ (filter f xs)) ≡ map σ (cond b (x ∷ filter f xs) (filter f xs))
      over true = refl
      over false = refl

  position_map : (f k : ℕ → Bool) (xs : List ℕ) → ((a : ℕ) → Memᴰ a xs → f a ≡ k (σ a)) → position k (map σ xs) ≡ position f xs
  position_map f k [] e = refl
  position_map f k (x ∷ xs) e = ap₂ (λ (b : Bool) (n : ℕ). cond b 0 (suc n)) (sym (e x (Memᴰ.head refl))) (position_map f k xs (λ a m. e a (Memᴰ.tail m)))

  firsts_map : (R Q : ℕ → ℕ → Bool) (xs : List ℕ) → ((a b : ℕ) → Memᴰ a xs → Memᴰ b xs → R a b ≡ Q (σ a) (σ b)) → firsts Q (map σ xs) ≡ map σ (firsts R xs)
  firsts_map R Q [] e = refl
  firsts_map R Q (x ∷ xs) e =
      ap (λ (l : List ℕ). σ x ∷ l) (
      ap (filter (λ y. not (Q (σ x) y))) (firsts_map R Q xs (λ a b m n. e a b (Memᴰ.tail m) (Memᴰ.tail n)))
      ∙ filter_map (λ y. not (R x y)) (λ y. not (Q (σ x) y)) (firsts R xs) (λ a m. ap not (e x a (Memᴰ.head refl) (Memᴰ.tail (firsts_in R a xs m))))
      )

  pub numbered_map : (R Q : ℕ → ℕ → Bool) (S : List ℕ) → ((a b : ℕ) → Memᴰ a S → Memᴰ b S → R a b ≡ Q (σ a) (σ b)) → numbered R S ≡ numbered Q (map σ S)
  unfolding numbered
  numbered_map R Q S e =
      map_equal (group R S) (λ a. group Q (map σ S) (σ a)) S
      (λ a m. sym (ap (position (λ c. Q c (σ a))) (firsts_map R Q S e) ∙ position_map (λ c. R c a) (λ c. Q c (σ a)) (firsts R S) (λ c n. e c a (firsts_in R c S n) m)))
      ∙ sym (map_twice (group Q (map σ S)) σ S)

-- ---- the small graph
module _ (E : List Edge) (S : List ℕ) (h : ℕ) (H : List Edge) (ρ σ : ℕ → ℕ) (g : SmallGraph E S h H ρ σ) where
  -- two active nodes are joined just where their places are
  small_joined : (a b : ℕ) → Memᴰ a S → Memᴰ b S → joined E a b ≡ joined H (σ a) (σ b)
  small_joined a b ma mb =
      let c = small_cuts E S h H ρ σ g in
      let (la, ta) = g.place a ma in
      let (lb, tb) = g.place b mb in
      let na = lt-ltb (σ a) h la in
      let nb = lt-ltb (σ b) h lb in
      let ja = two_edge_connected E ta in
      let jb = two_edge_connected E tb in
      bool_iff _ _
      (λ p. joined_from H (σ a) (σ b)
      (insep_down (λ v. ltb v h) ρ H E c 0 (σ a) (σ b) (omega arith) na nb (insep_trans E (insep_sym E ja) (insep_trans E (joined_to E a b p) jb))))
      (λ p. joined_from E a b
      (insep_trans E ja (insep_trans E (insep_up (λ v. ltb v h) ρ H E c 0 (σ a) (σ b) (omega arith) na nb (joined_to H (σ a) (σ b) p)) (insep_sym E jb))))

  -- the entries' pieces are those of their places
  pub small_pieces : pieces E S ≡ pieces H (map σ S)
  unfolding pieces
  small_pieces = numbered_map σ (joined E) (joined H) S small_joined

module _ (n : ℕ) (E : List Edge) (S : List ℕ) (wE : ends_in (λ v. ltb v n) E ≡ true) (wS : (a : ℕ) → Memᴰ a S → a < n) where
  pub contract_pieces : pieces E S ≡ pieces (contract n E S).edges (contract n E S).map
  unfolding contract
  contract_pieces = small_pieces E S _ _ _ _ (contract_small n E S wE wS)

  pub contract_map_length : length (contract n E S).map ≡ length S
  unfolding contract
  contract_map_length = length-map S _

  -- and exactly when the nodes that the map gives them have answer 0 in the contraction
  pub pieces_differ_small : (i j : ℕ) → i < length S → j < length S
      → (¬ (get_or (pieces E S) i 0 ≡ get_or (pieces E S) j 0)) ↔ (answer (contract n E S).edges (get_or (contract n E S).map i 0) (get_or (contract n E S).map j 0) ≡ 0)
  pieces_differ_small i j l k =
      rw contract_pieces (pieces_differ (contract n E S).edges (contract n E S).map i j (omega (arith, contract_map_length)) (omega (arith, contract_map_length)))
