-- hangs by cuts: for two joined nodes that one entry can part it is the least of the names of the entries that alone leave a set that parts them; else 65,535.
-- In order: the smallest of a list; the entries whose loss parts two nodes; hangs is the least, and what is the least is hangs; hangs is symmetric and the same throughout a class.
-- Assumes nothing.
use Prim.Native.Nat.{◌*◌, ◌+◌, ◌<◌, ◌≤◌, ℕ}
use mathlib.Core.Bool.{Bool, cond, false, not, true}
use mathlib.Core.List.{List, Memᴰ, [], ◌++◌, ◌∷◌}
use mathlib.Core.Path.{◌∙◌, ◌≡◌, ap, refl, subst, sym}
use lib.Dec.{eqb, leb}
use native.Mathlib.Omega.{arith}
use borrow.Author.Tests.{leb-false, leb-true, ne_eqb}
use Rattle.theory_graph.proofs.Booleans.{contradict, on_bool}
use Rattle.theory_graph.proofs.CutOffs.{on_two_edge}
use Rattle.theory_graph.proofs.Cuts.{crosses_cases, crosses_le, crosses_one, crossing, cut_complement}
use Rattle.theory_graph.proofs.Definitions.{joined_from, joined_to, two_edge_from, two_edge_not}
use Rattle.theory_graph.proofs.Reach.{reach, reach_closed, reach_connected, reach_self}
use Rattle.theory_graph.proofs.Separation.{insep_cut, insep_sym, same_side, two_edge_connected}
use Rattle.theory_graph.specs.Cut.{Connected, Separated, TwoEdgeConnected, crosses, cut, ∁}
use Rattle.theory_graph.specs.Graph.{Edge, NodeSet, answer, joined, two_edge}
use Rattle.theory_names.proofs.NamedCuts.{entry_leaves, names_closed, names_complement, names_one}
use Rattle.theory_names.specs.Names.{Entry, Named, Sixteen, hangs, least, loss_names, cut_names, plain}

-- ---- the smallest of a list
pub least_in : (n : ℕ) (ns : List ℕ) → Memᴰ (least (n ∷ ns)) (n ∷ ns)
least_in n [] = Memᴰ.head refl
least_in n (m ∷ ns) =
    on_bool (leb n (least (m ∷ ns)))
    (λ t. let l = leb-true n (least (m ∷ ns)) t in Memᴰ.head (omega arith))
    (λ t. let l = leb-false n (least (m ∷ ns)) t in Memᴰ.tail (subst (λ (k : ℕ). Memᴰ k (m ∷ ns)) (omega arith) (least_in m ns)))

pub least_low : (ns : List ℕ) {a : ℕ} → Memᴰ a ns → least ns ≤ a
least_low [] {a = a} x' = elim x' [ ]
least_low (n ∷ []) {a = a} (Memᴰ.tail k) = elim k [ ]
least_low (n ∷ []) (Memᴰ.head p) = omega arith
least_low (n ∷ m ∷ ns) (Memᴰ.head p) = omega arith
least_low (n ∷ m ∷ ns) (Memᴰ.tail k) = omega (arith, least_low (m ∷ ns) k)

-- ---- the entries whose loss leaves a list that passes a test
later : {n : ℕ} {ns : List ℕ} (m : ℕ) (b : Bool) → Memᴰ n ns → Memᴰ n (cond b (m ∷ ns) ns)
later m true k = Memᴰ.tail k
later m false k = k

-- an entry that alone leaves U, where the test holds of each list that U is closed in
loss_of : (t : List Edge → Bool) (G : Named) (U : NodeSet) → cut U (plain G) ≤ 1 → 0 < cut U (plain G) → ((F : List Edge) → cut U F ≤ 0 → t F ≡ true) → Memᴰ (cut_names U G) (loss_names t G)
loss_of t [] U c p k = absurd (omega arith)
loss_of t (e ∷ G) U c p k = crosses_cases (U e.0.0) (U e.0.1)
    (λ z. later e.1 (t (plain G)) (subst (λ (n : ℕ). Memᴰ n (loss_names (λ F. t (e.0 ∷ F)) G)) (omega (arith, ap (λ (k : ℕ). k * e.1) z))
    (loss_of (λ F. t (e.0 ∷ F)) G U (omega arith) (omega arith) (λ F f. k (e.0 ∷ F) (omega arith)))))
    (λ z.
    let q : cut U (plain G) ≤ 0 = omega arith in
    subst (λ (b : Bool). Memᴰ (cut_names U (e ∷ G)) (cond b (e.1 ∷ loss_names (λ F. t (e.0 ∷ F)) G) (loss_names (λ F. t (e.0 ∷ F)) G))) (sym (k (plain G) q))
    (Memᴰ.head (omega (arith, ap (λ (k : ℕ). k * e.1) z, names_closed U G q))))

-- such a name is that of an entry
abbrev pub Loss : (List Edge → Bool) → Named → ℕ → Type 0
Loss t G n = (A : Named) × (e : Entry) × (B : Named) × (G ≡ A ++ e ∷ B) × (t (plain (A ++ B)) ≡ true) × (n ≡ e.1)

pub loss_entry : (t : List Edge → Bool) (G : Named) {n : ℕ} → Memᴰ n (loss_names t G) → Loss t G n
loss_entry t [] m = absurd (elim m [ ])
loss_entry t (e ∷ G) {n} m = go (t (plain G)) refl m (λ k. loss_entry (λ F. t (e.0 ∷ F)) G k)
  where
    next : Loss (λ F. t (e.0 ∷ F)) G n → Loss t (e ∷ G) n
    next (A, f, B, p, q, r) = (e ∷ A, f, B, ap (λ (K : Named). e ∷ K) p, q, r)

    go : (b : Bool) → t (plain G) ≡ b → Memᴰ n (cond b (e.1 ∷ loss_names (λ F. t (e.0 ∷ F)) G) (loss_names (λ F. t (e.0 ∷ F)) G))
        → (Memᴰ n (loss_names (λ F. t (e.0 ∷ F)) G) → Loss (λ F. t (e.0 ∷ F)) G n) → Loss t (e ∷ G) n
    go true p (Memᴰ.head q) f = ([], e, G, refl, p, q)
    go true p (Memᴰ.tail k) f = next (f k)
    go false p k f = next (f k)

pub entry_loss : (t : List Edge → Bool) (A : Named) (e : Entry) (B : Named) → t (plain (A ++ B)) ≡ true → Memᴰ e.1 (loss_names t (A ++ e ∷ B))
entry_loss t [] e B p = subst (λ (b : Bool). Memᴰ e.1 (cond b (e.1 ∷ loss_names (λ F. t (e.0 ∷ F)) B) (loss_names (λ F. t (e.0 ∷ F)) B))) (sym p) (Memᴰ.head refl)
entry_loss t (f ∷ A) e B p = later f.1 (t (plain (A ++ e ∷ B))) (entry_loss (λ F. t (f.0 ∷ F)) A e B p)

-- what an entry adds to a cut and to its names
pub cut_entry : (U : NodeSet) (A : Named) (e : Entry) (B : Named) → cut U (plain (A ++ e ∷ B)) ≡ crossing U e.0 + cut U (plain (A ++ B))
cut_entry U [] e B = refl
cut_entry U (f ∷ A) e B = omega (arith, cut_entry U A e B)

pub names_entry : (U : NodeSet) (A : Named) (e : Entry) (B : Named) → cut_names U (A ++ e ∷ B) ≡ crossing U e.0 * e.1 + cut_names U (A ++ B)
names_entry U [] e B = refl
names_entry U (f ∷ A) e B = omega (arith, names_entry U A e B)

-- ---- the entries whose loss parts x and y
-- a set that at most one entry leaves parts x and y, and n is that entry's name
abbrev pub PartsBy : Named → ℕ → ℕ → ℕ → Type 0
PartsBy G x y n = (U : NodeSet) × (U x ≡ true) × (U y ≡ false) × (cut U (plain G) ≤ 1) × (cut_names U G ≡ n)

module _ (G : Named) (x y : ℕ) (j : Connected (plain G) x y) where
  abbrev parted : List Edge → Bool
  parted F = not (joined F x y)

  -- an entry that alone leaves such a set is one of them
  pub cut_loss : (U : NodeSet) → U x ≡ true → U y ≡ false → cut U (plain G) ≤ 1 → Memᴰ (cut_names U G) (loss_names parted G)
  cut_loss U p q c = loss_of parted G U c (insep_cut (plain G) j U p q) (λ F f. on_bool (joined F x y) (λ t. absurd (joined_to F x y t (U, p, q, f))) (λ t. ap not t))

  -- and each of them is one that alone leaves such a set
  pub loss_cut : (n : ℕ) → Memᴰ n (loss_names parted G) → PartsBy G x y n
  loss_cut n m = go (loss_entry parted G m)
    where
      go : Loss parted G n → PartsBy G x y n
      go (A, e, B, g, t, r) = on_bool (joined (plain (A ++ B)) x y) (λ u. contradict t (ap not u)) λ u.
          let E = plain (A ++ B) in
          let U = reach E x in
          let n : ¬ Connected E x y = λ k. contradict (joined_from E x y k) u in
          let p = reach_self E x in
          let q : U y ≡ false = on_bool (U y) (λ s. absurd (n (reach_connected E x y s))) (λ f. f) in
          let z = reach_closed E x in
          let c : cut U (plain G) ≡ crossing U e.0 + cut U E = ap (λ (K : Named). cut U (plain K)) g ∙ cut_entry U A e B in
          let w : cut_names U G ≡ crossing U e.0 * e.1 + cut_names U (A ++ B) = ap (cut_names U) g ∙ names_entry U A e B in
          let le = crosses_le (U e.0.0) (U e.0.1) in
          let one : crossing U e.0 ≡ 1 = omega (arith, insep_cut (plain G) j U p q) in
          (U, p, q, omega arith, omega (arith, ap (λ (k : ℕ). k * e.1) one, names_closed U (A ++ B) z))

-- ---- hangs is the least
-- n is the least name of an entry that alone leaves a set that parts x and y
pub record IsLeast (G : Named) (x y n : ℕ) : Type 0 where
  pub some : PartsBy G x y n
  pub low : (U : NodeSet) → U x ≡ true → U y ≡ false → cut U (plain G) ≤ 1 → n ≤ cut_names U G

pub is_least_unique : (G : Named) (x y m n : ℕ) → IsLeast G x y m → IsLeast G x y n → m ≡ n
is_least_unique G x y m n a b =
    let (U, p, q, c, r) = a.some in
    let (W, s, t, d, w) = b.some in
    omega (arith, a.low W s t d, b.low U p q c)

pub is_least_sym : (G : Named) (x y n : ℕ) → IsLeast G x y n → IsLeast G y x n
is_least_sym G x y n a =
    let (U, p, q, c, r) = a.some in
    record {
      some = (∁ U, ap not q, ap not p, omega (arith, cut_complement U (plain G)), names_complement U G ∙ r);
      low = λ W s t d. omega (arith, a.low (∁ W) (ap not t) (ap not s) (omega (arith, cut_complement W (plain G))), names_complement W G);
    }

-- the answer of two nodes, by the definition
one_is : (G : Named) (x y : ℕ) → Connected (plain G) x y → Separated 1 (plain G) x y → eqb (answer (plain G) x y) 1 ≡ true
unfolding answer
one_is G x y j s = rw (joined_from (plain G) x y j, two_edge_not (plain G) x y s)

pub hangs_least : (G : Named) (x y : ℕ) → Connected (plain G) x y → Separated 1 (plain G) x y → IsLeast G x y (hangs G x y)
unfolding hangs
hangs_least G x y j (U, p, q, c) =
    rw (one_is G x y j (U, p, q, c)) (go (loss_names (λ F. not (joined F x y)) G) refl (cut_loss G x y j U p q c))
  where
    go : (ns : List ℕ) → loss_names (λ F. not (joined F x y)) G ≡ ns → Memᴰ (cut_names U G) ns → IsLeast G x y (least ns)
    go [] e m = absurd (elim m [ ])
    go (n ∷ ns) e m = record {
      some = loss_cut G x y j (least (n ∷ ns)) (subst (λ (l : List ℕ). Memᴰ (least (n ∷ ns)) l) (sym e) (least_in n ns));
      low = λ W s t d. least_low (n ∷ ns) (subst (λ (l : List ℕ). Memᴰ (cut_names W G) l) e (cut_loss G x y j W s t d));
    }

-- where the answer is not 1, hangs is 65,535
pub hangs_none : (G : Named) (x y : ℕ) → ¬ (answer (plain G) x y ≡ 1) → hangs G x y ≡ 65535
unfolding hangs
hangs_none G x y n = rw (ne_eqb (answer (plain G) x y) 1 n)

pub hangs_apart : (G : Named) (x y : ℕ) → ¬ Connected (plain G) x y → hangs G x y ≡ 65535
unfolding answer
hangs_apart G x y n = hangs_none G x y (λ a. no_zero (sym (rw (on_bool (joined (plain G) x y) (λ t. absurd (n (joined_to (plain G) x y t))) (λ f. f))) ∙ a))
  where
    no_zero : ¬ (◌≡◌ {A = ℕ} 0 1)
    no_zero e = omega arith

pub hangs_class : (G : Named) (x y : ℕ) → TwoEdgeConnected (plain G) x y → hangs G x y ≡ 65535
unfolding answer
hangs_class G x y t = hangs_none G x y (λ a. no_two (sym (rw (joined_from (plain G) x y (two_edge_connected (plain G) t), two_edge_from (plain G) x y t)) ∙ a))
  where
    no_two : ¬ (◌≡◌ {A = ℕ} 2 1)
    no_two e = omega arith

-- what is the least is hangs
pub least_hangs : (G : Named) (x y n : ℕ) → Connected (plain G) x y → IsLeast G x y n → hangs G x y ≡ n
least_hangs G x y n j a = let (U, p, q, c, r) = a.some in is_least_unique G x y (hangs G x y) n (hangs_least G x y j (U, p, q, c)) a

-- ---- where small cuts with their names are the same, hangs is the same
-- each small cut of G that parts x and y has one of H that parts u and v, with at most as many entries and at most its name
abbrev pub Meets : Named → ℕ → ℕ → Named → ℕ → ℕ → Type 0
Meets G x y H u v = (U : NodeSet) → U x ≡ true → U y ≡ false → cut U (plain G) ≤ 1
    → (W : NodeSet) × (W u ≡ true) × (W v ≡ false) × (cut W (plain H) ≤ cut U (plain G)) × (cut_names W H ≤ cut_names U G)

meets_separated : (G : Named) (x y : ℕ) (H : Named) (u v j : ℕ) → j ≤ 1 → Meets G x y H u v → Separated j (plain G) x y → Separated j (plain H) u v
meets_separated G x y H u v j l f (U, p, q, c) = let (W, r, s, d, n) = f U p q (omega arith) in (W, r, s, omega (arith, d))

pub hangs_meets : (G : Named) (x y : ℕ) (H : Named) (u v : ℕ) → Meets G x y H u v → Meets H u v G x y → hangs G x y ≡ hangs H u v
hangs_meets G x y H u v f b =
    on_bool (joined (plain G) x y)
    (λ t.
    let j = joined_to (plain G) x y t in
    let k : Connected (plain H) u v = λ s. j (meets_separated H u v G x y 0 (omega arith) b s) in
    on_two_edge (plain G) x y
    (λ s.
    let a = hangs_least G x y j s in
    let (U, p, q, c, r) = a.some in
    let (W, w, z, d, m) = f U p q c in
    let low : (X : NodeSet) → X u ≡ true → X v ≡ false → cut X (plain H) ≤ 1 → hangs G x y ≤ cut_names X H =
    λ X o i e. let (Y, yx, yy, l, le) = b X o i e in omega (arith, a.low Y yx yy (omega (arith, l)), le) in
    sym (least_hangs H u v (hangs G x y) k (record { some = (W, w, z, omega (arith, d), omega (arith, r, m, low W w z (omega (arith, d)))); low = low })))
    (λ e. hangs_class G x y e ∙ sym (hangs_class H u v (λ s. e (meets_separated H u v G x y 1 (omega arith) b s)))))
    (λ t.
    let n : ¬ Connected (plain G) x y = λ j. contradict (joined_from (plain G) x y j) t in
    hangs_apart G x y n ∙ sym (hangs_apart H u v (λ k. n (λ s. k (meets_separated G x y H u v 0 (omega arith) f s)))))

-- the order of the two nodes does not matter
pub hangs_sym : (G : Named) (x y : ℕ) → hangs G x y ≡ hangs G y x
hangs_sym G x y = hangs_meets G x y G y x (turned x y) (turned y x)
  where
    turned : (x y : ℕ) → Meets G x y G y x
    turned x y U p q c = (∁ U, ap not q, ap not p, omega (arith, cut_complement U (plain G)), omega (arith, names_complement U G))

-- nor which node of its class each is
pub hangs_same : (G : Named) (x y u v : ℕ) → TwoEdgeConnected (plain G) x u → TwoEdgeConnected (plain G) y v → hangs G x y ≡ hangs G u v
hangs_same G x y u v xu yv = hangs_meets G x y G u v (moved x y u v xu yv) (moved u v x y (insep_sym (plain G) xu) (insep_sym (plain G) yv))
  where
    moved : (x y u v : ℕ) → TwoEdgeConnected (plain G) x u → TwoEdgeConnected (plain G) y v → Meets G x y G u v
    moved x y u v xu yv U p q c = (U, sym (same_side (plain G) x u xu U c) ∙ p, sym (same_side (plain G) y v yv U c) ∙ q, omega arith, omega arith)

-- nor the order of the entries, nor the way an edge is written: only cuts and their names do
pub hangs_cuts : (G H : Named) → ((U : NodeSet) → cut U (plain G) ≡ cut U (plain H)) → ((U : NodeSet) → cut_names U G ≡ cut_names U H) → (x y : ℕ) → hangs G x y ≡ hangs H x y
hangs_cuts G H c n x y = hangs_meets G x y H x y
    (λ U p q l. (U, p, q, omega (arith, c U), omega (arith, n U)))
    (λ U p q l. (U, p, q, omega (arith, c U), omega (arith, n U)))

-- ---- bounds
-- an entry that alone leaves a set that parts two joined nodes has at least the name that they hang on
pub hangs_low : (G : Named) (x y : ℕ) → Connected (plain G) x y → (U : NodeSet) → cut U (plain G) ≤ 1 → 0 < crosses (U x) (U y) → hangs G x y ≤ cut_names U G
hangs_low G x y j U c l = crosses_one (U x) (U y) l
    (λ p q. (hangs_least G x y j (U, p, q, c)).low U p q c)
    (λ p q. subst (λ (n : ℕ). n ≤ cut_names U G) (hangs_sym G y x) ((hangs_least G y x (insep_sym (plain G) j) (U, q, p, c)).low U q p c))

-- 16-bit names give a 16-bit name
pub hangs_sixteen : (G : Named) (x y : ℕ) → Sixteen G → Connected (plain G) x y → hangs G x y ≤ 65535
hangs_sixteen G x y w j =
    on_two_edge (plain G) x y
    (λ s.
    let (U, p, q, c, n) = (hangs_least G x y j s).some in
    let (e, m, l) = entry_leaves U G (insep_cut (plain G) j U p q) in
    omega (arith, w e m, names_one U e c m l))
    (λ t. omega (arith, hangs_class G x y t))

-- ---- the answers
-- where it is 1, the two are joined and one entry can part them
pub answer_one : (G : Named) (x y : ℕ) → answer (plain G) x y ≡ 1 → Connected (plain G) x y × Separated 1 (plain G) x y
unfolding answer
answer_one G x y h = go (joined (plain G) x y) (two_edge (plain G) x y) refl refl h
  where
    go : (a b : Bool) → joined (plain G) x y ≡ a → two_edge (plain G) x y ≡ b → ◌≡◌ {A = ℕ} (cond a (cond b 2 1) 0) 1 → Connected (plain G) x y × Separated 1 (plain G) x y
    go true true p q h = absurd (omega arith)
    go true false p q h = (joined_to (plain G) x y p, on_two_edge (plain G) x y (λ s. s) (λ t. contradict (two_edge_from (plain G) x y t) q))
    go false b p q h = absurd (omega arith)
