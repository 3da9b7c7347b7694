-- An example, to see the definitions at work and that their conditions can be met: the triangle 0, 1, 2 with 3 hanging on 2, and the active junctions 0 and 3.
-- The search finds 0, 1, 2, 3. The classes are {1, 2} with the top 0 and {3} with the top 2; 2 is relevant as a top, 1 is not. The small graph is the path 0-2-3, numbered 0-1-2,
-- and the reply is 1, since the loss of 2 parts 0 and 3.
-- Assumes nothing.
use Prim.Native.Nat.{◌<◌, suc, zero, ℕ}
use mathlib.Core.Bool.{Bool, cond, false, true}
use mathlib.Core.List.{List, Memᴰ, [], ◌∷◌}
use mathlib.Core.Logic.{◌⊎◌, inl, inr}
use mathlib.Core.Path.{◌≡◌, ap, refl, subst, sym}
use native.Mathlib.Omega.{arith}
use Rattle.theory_graph.proofs.Booleans.{contradict}
use Rattle.theory_graph.proofs.Lists.{member_mem}
use Rattle.theory_graph.specs.Graph.{Edge}
use Rattle.theory_graph.specs.Lists.{member}
use Rattle.theory_junctions.proofs.PathMergingLaws.{merged_blocks, forest_blocks}
use Rattle.theory_junctions.proofs.ReduceLaws.{relevance}
use Rattle.theory_junctions.proofs.ReducedGraphs.{small_query}
use Rattle.theory_junctions.specs.Blocks.{Blocks}
use Rattle.theory_junctions.specs.PathMerging.{Forest, merge_path, merge_on, first_after, unite}
use Rattle.theory_junctions.specs.Reduce.{Search, relevant_to, small_graph, small_junctions}
use Rattle.theory_junctions.specs.Reply.{reply}

abbrev pub edges : List Edge
edges = (0, 1) ∷ (1, 2) ∷ (2, 0) ∷ (2, 3) ∷ []

-- a fact about the four junctions, and about each other number
pub four : (A : ℕ → Type 0) → A 0 → A 1 → A 2 → A 3 → ((n : ℕ) → A (suc (suc (suc (suc n))))) → (v : ℕ) → A v
four A a b c d f zero = a
four A a b c d f (suc zero) = b
four A a b c d f (suc (suc zero)) = c
four A a b c d f (suc (suc (suc zero))) = d
four A a b c d f (suc (suc (suc (suc n)))) = f n

abbrev pub known : ℕ → Bool
known zero = true
known (suc zero) = true
known (suc (suc zero)) = true
known (suc (suc (suc zero))) = true
known (suc (suc (suc (suc n)))) = false

abbrev pub lower : ℕ → Bool
lower zero = false
lower (suc n) = known (suc n)

abbrev pub up : ℕ → ℕ
up zero = 0
up (suc zero) = 0
up (suc (suc zero)) = 0
up (suc (suc (suc zero))) = 2
up (suc (suc (suc (suc n)))) = 0

-- a fact about the four edges
pub each : (A : ℕ → ℕ → Type 0) → A 0 1 → A 1 2 → A 2 0 → A 2 3 → (p q : ℕ) → Memᴰ (p, q) edges → A p q
each A a b c d p q (Memᴰ.head e) = subst (λ (f : Edge). A f.0 f.1) (sym e) a
each A a b c d p q (Memᴰ.tail (Memᴰ.head e)) = subst (λ (f : Edge). A f.0 f.1) (sym e) b
each A a b c d p q (Memᴰ.tail (Memᴰ.tail (Memᴰ.head e))) = subst (λ (f : Edge). A f.0 f.1) (sym e) c
each A a b c d p q (Memᴰ.tail (Memᴰ.tail (Memᴰ.tail (Memᴰ.head e)))) = subst (λ (f : Edge). A f.0 f.1) (sym e) d
each A a b c d p q (Memᴰ.tail (Memᴰ.tail (Memᴰ.tail (Memᴰ.tail m)))) = absurd (elim m [ ])

abbrev pub forest : Forest edges
forest =
    record {
      seen = known;
      child = lower;
      par = up;
      pos = λ v. v;
      tree = λ v. cond (known v) 0 v;
      child_seen = four (λ v. lower v ≡ true → known v ≡ true) (λ e. refl) (λ e. refl) (λ e. refl) (λ e. refl) (λ n e. e);
      par_seen = four (λ v. lower v ≡ true → known (up v) ≡ true) (λ e. refl) (λ e. refl) (λ e. refl) (λ e. refl) (λ n e. refl);
      par_pos = four (λ v. lower v ≡ true → up v < v) (λ e. contradict e refl) (λ e. omega arith) (λ e. omega arith) (λ e. omega arith) (λ n e. contradict e refl);
      par_edge = four (λ v. lower v ≡ true → Memᴰ (v, up v) edges ⊎ Memᴰ (up v, v) edges)
          (λ e. contradict e refl)
          (λ e. inr (Memᴰ.head refl))
          (λ e. inl (Memᴰ.tail (Memᴰ.tail (Memᴰ.head refl))))
          (λ e. inr (Memᴰ.tail (Memᴰ.tail (Memᴰ.tail (Memᴰ.head refl)))))
          (λ n e. contradict e refl);
      par_tree = four (λ v. lower v ≡ true → cond (known (up v)) 0 (up v) ≡ cond (known v) 0 v) (λ e. refl) (λ e. refl) (λ e. refl) (λ e. refl) (λ n e. contradict e refl);
      root_tree = four (λ v. known v ≡ true → lower v ≡ false → cond (known v) 0 v ≡ v) (λ e f. refl) (λ e f. contradict refl f) (λ e f. contradict refl f) (λ e f. contradict refl f) (λ n e f. refl);
      edge_seen = each (λ p q. known p ≡ known q) refl refl refl refl;
      edge_tree = each (λ p q. known p ≡ true → cond (known p) 0 p ≡ cond (known q) 0 q) (λ e. refl) (λ e. refl) (λ e. refl) (λ e. refl);
      pos_once = λ u v a b e. e;
    }

abbrev pub blocks : Blocks edges
blocks = forest_blocks edges forest

abbrev pub order : List ℕ
order = 0 ∷ 1 ∷ 2 ∷ 3 ∷ []

listed : (A : ℕ → Type 0) → A 0 → A 1 → A 2 → A 3 → (v : ℕ) → Memᴰ v order → A v
listed A a b c d v (Memᴰ.head e) = subst A (sym e) a
listed A a b c d v (Memᴰ.tail (Memᴰ.head e)) = subst A (sym e) b
listed A a b c d v (Memᴰ.tail (Memᴰ.tail (Memᴰ.head e))) = subst A (sym e) c
listed A a b c d v (Memᴰ.tail (Memᴰ.tail (Memᴰ.tail (Memᴰ.head e)))) = subst A (sym e) d
listed A a b c d v (Memᴰ.tail (Memᴰ.tail (Memᴰ.tail (Memᴰ.tail m)))) = absurd (elim m [ ])

pub search : Search edges blocks (member (0 ∷ 3 ∷ [])) order
unfolding forest_blocks merged_blocks
search =
    record {
      rises = (low 0 (1 ∷ 2 ∷ 3 ∷ []) (omega arith, (omega arith, (omega arith, tt))), (low 1 (2 ∷ 3 ∷ []) (omega arith, (omega arith, tt)), (low 2 (3 ∷ []) (omega arith, tt), (low 3 [] tt, tt))));
      listed_seen = listed (λ v. known v ≡ true) refl refl refl refl;
      seen_listed = four (λ v. known v ≡ true → Memᴰ v order)
          (λ e. Memᴰ.head refl)
          (λ e. Memᴰ.tail (Memᴰ.head refl))
          (λ e. Memᴰ.tail (Memᴰ.tail (Memᴰ.head refl)))
          (λ e. Memᴰ.tail (Memᴰ.tail (Memᴰ.tail (Memᴰ.head refl))))
          (λ n e. contradict e refl);
      active_seen = λ k m. active k (member_mem (0 ∷ 3 ∷ []) k m);
      root_active = four (λ v. known v ≡ true → lower v ≡ false → member (0 ∷ 3 ∷ []) v ≡ true) (λ e f. refl) (λ e f. contradict refl f) (λ e f. contradict refl f) (λ e f. contradict refl f) (λ n e f. contradict e refl);
    }
  where
    AllAbove : ℕ → List ℕ → Type 0
    AllAbove v [] = Unit {0}
    AllAbove v (w ∷ ws) = (v < w) × AllAbove v ws

    low : (v : ℕ) (ws : List ℕ) → AllAbove v ws → (w : ℕ) → Memᴰ w ws → v < w
    low v [] a w x'' = elim x'' [ ]
    low v (x ∷ ws) a w (Memᴰ.head e) = omega (arith, a.0, e)
    low v (x ∷ ws) a w (Memᴰ.tail m) = low v ws a.1 w m

    active : (k : ℕ) → Memᴰ k (0 ∷ 3 ∷ []) → known k ≡ true
    active k (Memᴰ.head e) = ap known e
    active k (Memᴰ.tail (Memᴰ.head e)) = ap known e
    active k (Memᴰ.tail (Memᴰ.tail m)) = absurd (elim m [ ])

-- the small graph, computed
pub example_junctions : small_junctions blocks (member (0 ∷ 3 ∷ [])) (relevant_to blocks (0 ∷ 3 ∷ [])) order ≡ 0 ∷ 2 ∷ 3 ∷ []
unfolding forest_blocks merged_blocks first_after merge_path merge_on unite
example_junctions = refl

pub example_graph : small_graph blocks (member (0 ∷ 3 ∷ [])) (relevant_to blocks (0 ∷ 3 ∷ [])) order ≡ (0, 1) ∷ (1, 2) ∷ []
unfolding forest_blocks merged_blocks first_after merge_path merge_on unite
example_graph = refl

-- and the reply, read off it
pub example_reply : reply edges 0 3 ≡ 1
unfolding forest_blocks merged_blocks first_after merge_path merge_on unite
example_reply = small_query edges blocks 0 3 (relevant_to blocks (0 ∷ 3 ∷ [])) order search (relevance edges blocks (0 ∷ 3 ∷ []))
