-- A small graph is a forest: each edge joins two nodes that the others leave apart. So it has fewer edges than nodes.
-- Assumes nothing.
use Prim.Native.Nat.{◌*◌, ◌+◌, ◌-◌, ◌<◌, ◌≤◌, suc, zero, ℕ}
use mathlib.Core.Bool.{Bool, ◌&&◌, cond, false, not, true, true≢false}
use mathlib.Core.List.{List, Memᴰ, [], ◌∷◌}
use mathlib.Core.Path.{◌∙◌, ◌≡◌, ap, ap₂, refl, sym}
use lib.Dec.{eqb, ltb}
use lib.ListN.{length}
use native.Mathlib.Omega.{arith}
use borrow.Author.Tests.{eqb-false, eqb-true, ltb-false, ltb-true}
use Rattle.theory_graph.proofs.Booleans.{and_elim, contradict, on_bool}
use Rattle.theory_graph.proofs.CutOffs.{on_two_edge}
use Rattle.theory_graph.proofs.Cuts.{crosses_zero}
use Rattle.theory_graph.proofs.Reach.{connected_reach, reach, reach_connected, reach_self}
use Rattle.theory_graph.proofs.Separation.{insep_sym, insep_trans}
use Rattle.theory_graph.proofs.SmallGraphs.{SmallGraph, small_down, small_ends_in}
use Rattle.theory_graph.proofs.Uniqueness.{small_bound}
use Rattle.theory_graph.specs.Cut.{Separated, crosses, cut}
use Rattle.theory_graph.specs.Graph.{Edge, NodeSet}
use Rattle.theory_graph.specs.Lists.{filter, firsts}
use Rattle.theory_graph.specs.SmallGraph.{◌∘◌, different, ends_in, most_nodes}

abbrev pub Acyclic : List Edge → Type 0
Acyclic [] = Unit {0}
Acyclic (e ∷ E) = Separated 0 E e.0 e.1 × Acyclic E

-- ---- counts below n
abbrev one : Bool → ℕ
one true = 1
one false = 0

abbrev count : ℕ → NodeSet → ℕ
count zero U = 0
count (suc n) U = one (U n) + count n U

one_le : (a : Bool) → one a ≤ 1
one_le true = omega arith
one_le false = omega arith

one_mono : (a b : Bool) → (a ≡ true → b ≡ true) → one a ≤ one b
one_mono true b h = rw (h refl) (omega arith)
one_mono false b h = omega arith

count_le : (n : ℕ) (U : NodeSet) → count n U ≤ n
count_le zero U = omega arith
count_le (suc n) U = omega (arith, count_le n U, one_le (U n))

count_mono : (n : ℕ) (U W : NodeSet) → ((v : ℕ) → U v ≡ true → W v ≡ true) → count n U ≤ count n W
count_mono zero U W h = omega arith
count_mono (suc n) U W h = omega (arith, count_mono n U W h, one_mono (U n) (W n) (h n))

count_less : (n : ℕ) (U W : NodeSet) → ((v : ℕ) → U v ≡ true → W v ≡ true) → (v : ℕ) → v < n → U v ≡ false → W v ≡ true → count n U < count n W
count_less zero U W h v l p q = absurd (omega arith)
count_less (suc n) U W h v l p q =
    on_bool (eqb v n)
    (λ e. let i = eqb-true v n e in omega (arith, count_mono n U W h, ap one (sym (ap U i) ∙ p), ap one (sym (ap W i) ∙ q)))
    (λ e. let i : ¬ (v ≡ n) = eqb-false v n e in omega (arith, count_less n U W h v (omega arith) p q, one_mono (U n) (W n) (h n)))

-- ---- the least node of a set
abbrev none : ℕ → NodeSet → Bool
none zero U = true
none (suc k) U = not (U k) && none k U

none_mono : (k : ℕ) (U W : NodeSet) → ((v : ℕ) → U v ≡ true → W v ≡ true) → none k W ≡ true → none k U ≡ true
none_mono zero U W h p = refl
none_mono (suc k) U W h p =
    and_elim _ _ p λ a b.
    on_bool (U k) (λ t. contradict a (ap not (h k t))) (λ f. ap₂ (λ s r. not s && r) f (none_mono k U W h b))

none_at : (k : ℕ) (U : NodeSet) (v : ℕ) → v < k → U v ≡ true → none k U ≡ false
none_at zero U v l t = absurd (omega arith)
none_at (suc k) U v l t =
    on_bool (U k) (λ a. ap (λ s. not s && none k U) a) λ a.
    on_bool (eqb v k)
    (λ e. contradict t (ap U (eqb-true v k e) ∙ a))
    (λ e. let i : ¬ (v ≡ k) = eqb-false v k e in ap₂ (λ s r. not s && r) a (none_at k U v (omega arith) t))

lower : (k : ℕ) (U : NodeSet) → none k U ≡ false → (m : ℕ) × (m < k) × (U m ≡ true) × (none m U ≡ true)
lower zero U h = contradict refl h
lower (suc k) U h =
    on_bool (none k U)
    (λ a. on_bool (U k) (λ t. (k, omega arith, t, a)) (λ f. contradict (ap₂ (λ s r. not s && r) f a) h))
    (λ a. let (m, l, t, b) = lower k U a in (m, omega arith, t, b))

-- the least node of x's component
root : List Edge → NodeSet
root E v = none v (reach E v)

reach_trans : (E : List Edge) (x y z : ℕ) → reach E x y ≡ true → reach E y z ≡ true → reach E x z ≡ true
reach_trans E x y z p q = connected_reach E x z (insep_trans E (reach_connected E x y p) (reach_connected E y z q))

reach_sym : (E : List Edge) (x y : ℕ) → reach E x y ≡ true → reach E y x ≡ true
reach_sym E x y p = connected_reach E y x (insep_sym E (reach_connected E x y p))

rooted : (E : List Edge) (n x : ℕ) → x < n → (m : ℕ) × (m < n) × (reach E x m ≡ true) × (root E m ≡ true)
unfolding root
rooted E n x l =
    on_bool (none x (reach E x))
    (λ a. (x, l, reach_self E x, a))
    (λ a.
    let (m, i, t, b) = lower x (reach E x) a in
    (m, omega arith, t, none_mono m (reach E m) (reach E x) (λ v r. reach_trans E x m v t r) b))

-- one more edge: what was reached still is, and its ends reach one another
reach_more : (e : Edge) (E : List Edge) (x v : ℕ) → reach E x v ≡ true → reach (e ∷ E) x v ≡ true
reach_more e E x v r = rw r

reach_ends : (e : Edge) (E : List Edge) → reach (e ∷ E) e.0 e.1 ≡ true
reach_ends e E = connected_reach (e ∷ E) e.0 e.1 λ s. true≢false (sym s.1 ∙ crosses_zero _ _ (omega arith) ∙ s.2)

not_root : (E : List Edge) (v u : ℕ) → u < v → reach E v u ≡ true → root E v ≡ false
unfolding root
not_root E v u l r = none_at v (reach E v) u l r

root_less : (e : Edge) (E : List Edge) (v : ℕ) → root (e ∷ E) v ≡ true → root E v ≡ true
unfolding root
root_less e E v r = none_mono v (reach E v) (reach (e ∷ E) v) (reach_more e E v) r

-- two roots that the new edge joins: the greater is a root no longer
roots_drop : (e : Edge) (E : List Edge) (n : ℕ) → Separated 0 E e.0 e.1 → e.0 < n → e.1 < n → count n (root (e ∷ E)) < count n (root E)
roots_drop e E n s l k =
    let (a, la, ra, ta) = rooted E n e.0 l in
    let (b, lb, rb, tb) = rooted E n e.1 k in
    let ab : reach (e ∷ E) a b ≡ true =
    reach_trans (e ∷ E) a e.0 b (reach_sym (e ∷ E) e.0 a (reach_more e E e.0 a ra)) (reach_trans (e ∷ E) e.0 e.1 b (reach_ends e E) (reach_more e E e.1 b rb)) in
    on_bool (ltb a b)
    (λ t. count_less n _ _ (root_less e E) b lb (not_root (e ∷ E) b a (ltb-true a b t) (reach_sym (e ∷ E) a b ab)) tb)
    (λ t.
    on_bool (ltb b a) (λ t'. count_less n _ _ (root_less e E) a la (not_root (e ∷ E) a b (ltb-true b a t') ab) ta) λ t'.
    let same : a ≡ b = omega (arith, ltb-false a b t, ltb-false b a t') in
    absurd (reach_connected E e.0 e.1 (reach_trans E e.0 a e.1 ra (rw same (reach_sym E e.1 b rb))) s))

acyclic_count : (n : ℕ) (E : List Edge) → Acyclic E → ends_in (λ v. ltb v n) E ≡ true → length E + count n (root E) ≤ n
acyclic_count n [] f w = omega (arith, count_le n (root []))
acyclic_count n (e ∷ E) f w =
    and_elim _ _ w λ a w. and_elim _ _ w λ b w.
    omega (arith, acyclic_count n E f.1 w, roots_drop e E n f.0 (ltb-true e.0 n a) (ltb-true e.1 n b))

pub acyclic_bound : (n : ℕ) (E : List Edge) → 0 < n → Acyclic E → ends_in (λ v. ltb v n) E ≡ true → length E < n
unfolding root
acyclic_bound n E p f w = omega (arith, acyclic_count n E f w, count_less n (λ v. false) (root E) (λ v h. absurd (true≢false (sym h))) 0 p refl refl)

-- ---- a small graph's edges
filter_most : (f : ℕ → Bool) (l : List ℕ) → length (filter f l) ≤ length l
filter_most f [] = omega arith
filter_most f (x ∷ l) = go (f x) (filter_most f l)
  where
    go : (b : Bool) → length (filter f l) ≤ length l → length (cond b (x ∷ filter f l) (filter f l)) ≤ suc (length l)
    go true h = omega arith
    go false h = omega arith

pub firsts_most : (R : ℕ → ℕ → Bool) (l : List ℕ) → length (firsts R l) ≤ length l
firsts_most R [] = omega arith
firsts_most R (x ∷ l) = omega (arith, firsts_most R l, filter_most (λ y. not (R x y)) (firsts R l))

pub most_nodes_double : (k : ℕ) → most_nodes k ≤ 2 * k
most_nodes_double k = go (ltb k 2)
  where
    go : (b : Bool) → cond b k (2 * k - 2) ≤ 2 * k
    go true = omega arith
    go false = omega arith

module _ (E : List Edge) (S : List ℕ) (h : ℕ) (H : List Edge) (ρ σ : ℕ → ℕ) (g : SmallGraph E S h H ρ σ) where
  small_acyclic : (G : List Edge) → ((U : NodeSet) → cut U E ≤ 1 → cut (U ∘ ρ) G ≤ 1) → ((e : Edge) → Memᴰ e G → Memᴰ e H) → Acyclic G
  small_acyclic [] f sub = tt
  small_acyclic (e ∷ G) f sub =
      let (a, b, l) = g.edge e.0 e.1 (sub e (Memᴰ.head refl)) in (
        on_two_edge E (ρ e.0) (ρ e.1)
            (λ s. let (U, p, q, c) = s in (U ∘ ρ, p, q, omega (arith, f U c, ap₂ crosses p q)))
            (λ t. absurd (omega (arith, g.once e.0 e.1 (omega arith) b t))),
        small_acyclic G (λ U c. omega (arith, f U c)) (λ x m. sub x (Memᴰ.tail m)),
      )

  pub small_edges : 0 < h → length H < h
  small_edges p = acyclic_bound h H p (small_acyclic H (λ U c. omega (arith, small_down E S h H ρ σ g U c)) (λ e m. m)) (small_ends_in E S h H ρ σ g)

  -- at most as many edges as nodes
  pub small_edges_most : length H ≤ h
  small_edges_most = on_bool (ltb 0 h) (λ t. omega (arith, small_edges (ltb-true 0 h t))) λ f. no_edge H (λ i j m. omega (arith, (g.edge i j m).1, ltb-false 0 h f))
    where
      no_edge : (H : List Edge) → ((i j : ℕ) → Memᴰ (i, j) H → ⊥) → length H ≤ h
      no_edge [] f = omega arith
      no_edge (e ∷ H) f = absurd (f e.0 e.1 (Memᴰ.head refl))

  -- and at most two for each active entry
  pub small_edges_entries : length H ≤ 2 * length S
  small_edges_entries = omega (arith, small_edges_most, small_bound E S h H ρ σ g, most_nodes_double (different S), firsts_most eqb S)
