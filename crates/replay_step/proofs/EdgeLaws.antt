-- Edges written one after another into the half-edges behind a front: one edge, the edges of the numbers that pass, the edges of an area copied, and the
-- loop that copies them.
-- Assumes nothing.
use Prim.Native.Nat.{◌*◌, ◌+◌, ◌-◌, ◌<◌, ◌≤◌, suc, ℕ}
use mathlib.Core.Bool.{Bool, cond, true}
use mathlib.Core.List.{List, [], ◌++◌, ◌∷◌, append_assoc}
use mathlib.Core.Path.{◌∙◌, ◌≡◌, ap, ap₂, refl, sym}
use lib.Dec.{eqb}
use lib.ListN.{drop, get_or, length, length-drop, length-take, take}
use lib.Seq.{get_or-drop, get_or-take}
use native.Mathlib.Omega.{arith}
use borrow.Author.Tests.{eqb-false, eqb-true}
use borrow.Rule.Slice.PartMut.{put_mid, same_len_mid, take_put}
use Rattle.core_reduce.specs.Core.{edges_in}
use Rattle.theory_graph.proofs.Booleans.{on_bool}
use Rattle.theory_graph.proofs.TableLaws.{table_equal, table_more, triples_table}
use Rattle.theory_graph.specs.Graph.{Edge}
use Rattle.theory_graph.specs.Lists.{table}
use Rattle.theory_names.specs.Names.{Entry, Named}
use Rattle.theory_timeline.proofs.TagLaws.{pick_snoc}
use Rattle.theory_timeline.specs.Tags.{pick_events}
use Rattle.replay_step.proofs.WordLaws.{drop_back, front_get, take_whole}
use Rattle.replay_step.specs.Area.{area_edges}
use Rattle.core_loading.specs.Loading.{PutEdge}
use Rattle.replay_step.specs.Load.{AddedBy, Copied, EdgesReady, Edged, edge_at}
use Rattle.core_words.specs.Fields.{NAME, TO, half, node}

-- the first j edges, and the edge behind them
edges_ext : (n j : ℕ) (w z : List ℕ) → ((h : ℕ) → h < 2 * j → half n TO z h ≡ half n TO w h) → ((h : ℕ) → h < 2 * j → half n NAME z h ≡ half n NAME w h) → edges_in n j z ≡ edges_in n j w
edges_ext n j w z k c = table_equal _ _ 0 j (λ i a b. ap₂ (λ (e : Edge) (x : ℕ). (e, x)) (ap₂ (λ (x y : ℕ). (x, y)) (k (2 * i) (omega arith)) (k (2 * i + 1) (omega arith))) (c (2 * i) (omega arith)))

module _ {s n j a b c : ℕ} {w z zs : List ℕ} (k : Edged s n j w z) (p : PutEdge n j a b c (take (length z - s) (drop s z)) zs) (l : s ≤ length z) where
  abbrev back : List ℕ
  back = put_mid s (length z - s) z zs

  behind : drop s back ≡ zs
  behind = drop_back s z zs l

  pub edged_more : a < n → b < n → c < 65536 → Edged s n (j + 1) w back
  edged_more la lb lc =
      record {
        front = take_put s (length z - s) z zs l ∙ k.front;
        nodes = λ i t v u. ap (λ q. node i q v) behind ∙ p.nodes i t v u ∙ ap (λ q. node i q v) (take_whole s z) ∙ k.nodes i t v u;
        ends = λ h u. rw behind (end h u);
        names = λ i u. rw behind (name i u);
      }
    where
      end : (h : ℕ) → h < 2 * (j + 1) → half n TO zs h < n
      end h u =
          on_bool (eqb h (2 * j)) (λ t. rw (eqb-true h (2 * j) t, p.first) la) (λ t.
          on_bool (eqb h (2 * j + 1)) (λ r. rw (eqb-true h (2 * j + 1) r, p.second) lb) (λ r.
          let n1 : ¬ (h ≡ 2 * j) = eqb-false h (2 * j) t in
          let n2 : ¬ (h ≡ 2 * j + 1) = eqb-false h (2 * j + 1) r in
          let q : h < 2 * j = omega arith in
          rw (p.else h q ∙ ap (λ y. half n TO y h) (take_whole s z)) (k.ends h q)))

      name : (i : ℕ) → i < j + 1 → half n NAME zs (2 * i) < 65536
      name i u =
          on_bool (eqb i j) (λ t. rw (eqb-true i j t, p.name) lc) (λ t.
          let n1 : ¬ (i ≡ j) = eqb-false i j t in
          rw (p.else_name (2 * i) (omega arith) ∙ ap (λ y. half n NAME y (2 * i)) (take_whole s z)) (k.names i (omega arith)))

  pub edges_more : edges_in n (j + 1) (drop s back) ≡ edges_in n j (drop s z) ++ (((a, b), c) ∷ [])
  edges_more =
      ap (edges_in n (j + 1)) behind
      ∙ table_more (λ e. ((half n TO zs (2 * e), half n TO zs (2 * e + 1)), half n NAME zs (2 * e))) j
      ∙ ap₂ (λ (G : Named) (x : Entry). G ++ (x ∷ []))
      (edges_ext n j (drop s z) zs (λ h u. p.else h u ∙ ap (λ y. half n TO y h) (take_whole s z)) (λ h u. p.else_name h u ∙ ap (λ y. half n NAME y h) (take_whole s z)))
      (ap₂ (λ (e : Edge) (x : ℕ). (e, x)) (ap₂ (λ (x y : ℕ). (x, y)) p.first p.second) p.name)

-- ---- edges of the numbers that pass, one number after another
one_number : (f : ℕ → Bool) (E : ℕ → Entry) (i : ℕ) (b : Bool) → f i ≡ b → pick_events f E i (i + 1 - i) ≡ cond b (E i ∷ []) []
one_number f E i b e = let z : i + 1 - i ≡ 1 = omega arith in ap (λ (n : ℕ). pick_events f E i n) z ∙ ap (λ (t : Bool). cond t (E i ∷ []) []) e

-- m edges are there
pub record There (s n m : ℕ) (v : List ℕ) : Type 0 where
  pub ends : (h : ℕ) → h < 2 * m → half n TO (drop s v) h < n
  pub names : (i : ℕ) → i < m → half n NAME (drop s v) (2 * i) < 65536

edged_none : (s n m : ℕ) (v : List ℕ) → There s n m v → Edged s n m v v
edged_none s n m v e = record { front = refl; nodes = λ j l u b. refl; ends = e.ends; names = e.names }

module _ {s n : ℕ} {f : ℕ → Bool} {E : ℕ → Entry} {i m : ℕ} {v : List ℕ} (there : There s n m v) where
  pub added_put : f i ≡ true → {a b c : ℕ} → ((a, b), c) ≡ E i → a < n → b < n → c < 65536 → s ≤ length v → {zs : List ℕ} → PutEdge n m a b c (take (length v - s) (drop s v)) zs
      → AddedBy s n f E i (i + 1) m v (put_mid s (length v - s) v zs) (m + 1)
  added_put e {a} {b} ee la lb lc h {zs} k = record {
    long = same_len_mid s (length v - s) v zs k.same;
    edged = edged_more (edged_none s n m v there) k h la lb lc;
    more = edges_more (edged_none s n m v there) k h ∙ ap (λ (x : Entry). edges_in n m (drop s v) ++ (x ∷ [])) ee ∙ sym (ap (λ (G : Named). edges_in n m (drop s v) ++ G) (one_number f E i true e));
    most = omega arith;
  }

pub added_more : {s n : ℕ} {f f' : ℕ → Bool} {E E' : ℕ → Entry} {i e m k r : ℕ} {v z y : List ℕ} → AddedBy s n f E i e m v z k → i ≤ e
    → AddedBy s n f' E' e (e + 1) k z y r → pick_events f' E' e 1 ≡ pick_events f E e 1 → AddedBy s n f E i (e + 1) m v y r
added_more {s} {n} {f} {f'} {E} {E'} {i} {e} {m} {v = v} a lo b alike = record {
  long = b.long ∙ a.long;
  edged = record {
    front = b.edged.front ∙ a.edged.front;
    nodes = λ d x u c. b.edged.nodes d x u c ∙ a.edged.nodes d x u c;
    ends = b.edged.ends;
    names = b.edged.names;
  };
  more =
      let n1 : e + 1 - e ≡ 1 = omega arith in
      let n2 : e + 1 - i ≡ suc (e - i) = omega arith in
      let n3 : i + (e - i) ≡ e = omega arith in
      let G = edges_in n m (drop s v) in
      let P = pick_events f E i (e - i) in
      b.more
      ∙ ap₂ ◌++◌ a.more (ap (λ (n : ℕ). pick_events f' E' e n) n1 ∙ alike)
      ∙ append_assoc G P (pick_events f E e 1)
      ∙ ap (λ (Q : Named). G ++ Q) (sym (ap (λ (n : ℕ). pick_events f E i n) n2 ∙ pick_snoc f E i (e - i) ∙ ap (λ (n : ℕ). P ++ pick_events f E n 1) n3));
  most = omega (arith, a.most, b.most);
}

-- ---- the copied edges
-- edge j of an area of e events
abbrev pub area_entry : ℕ → List ℕ → ℕ → Entry
area_entry e v j = ((get_or v (5 * e + j) 0, get_or v (9 * e + j) 0), get_or v (13 * e + j) 0)

pub area_table : (e m : ℕ) (v : List ℕ) → 17 * e ≤ length v → m ≤ 4 * e → area_edges e m v ≡ table (area_entry e v) 0 m
area_table e m v h l =
    triples_table m (drop (5 * e) v) (drop (9 * e) v) (drop (13 * e) v) (rw length-drop (omega arith)) (rw length-drop (omega arith)) (rw length-drop (omega arith))
    ∙ table_equal _ _ 0 m (λ j a b. ap₂ (λ (x : Edge) (y : ℕ). (x, y)) (ap₂ (λ (x y : ℕ). (x, y)) (get_or-drop (5 * e) v j 0) (get_or-drop (9 * e) v j 0)) (get_or-drop (13 * e) v j 0))

-- its three runs, in words that begin with it
pub area_runs : (e m : ℕ) (v : List ℕ) → 17 * e ≤ length v → m ≤ 4 * e → table (edge_at (5 * e) (4 * e) v) 0 m ≡ area_edges e m (take (17 * e) v)
area_runs e m v h l =
    let a = take (17 * e) v in
    table_equal (edge_at (5 * e) (4 * e) v) (area_entry e a) 0 m (λ j b c.
    let x : 5 * e + 4 * e + j ≡ 9 * e + j = omega arith in
    let y : 5 * e + 2 * (4 * e) + j ≡ 13 * e + j = omega arith in
    ap₂ (λ (x : Edge) (y : ℕ). (x, y))
    (ap₂ (λ (x y : ℕ). (x, y)) (sym (get_or-take (17 * e) v (5 * e + j) 0 (omega arith))) (ap (λ (k : ℕ). get_or v k 0) x ∙ sym (get_or-take (17 * e) v (9 * e + j) 0 (omega arith))))
    (ap (λ (k : ℕ). get_or v k 0) y ∙ sym (get_or-take (17 * e) v (13 * e + j) 0 (omega arith))))
    ∙ sym (area_table e m a (rw length-take (omega arith)) l)

-- ---- the loop that copies: j edges so far
pub record Copying (from q m s n : ℕ) (w z : List ℕ) (j : ℕ) : Type 0 where
  pub long : length z ≡ length w
  pub edged : Edged s n j w z
  pub same : edges_in n j (drop s z) ≡ table (edge_at from q w) 0 j

module _ {from q m s n j : ℕ} {w z : List ℕ} (e : EdgesReady from q m s n w) (k : Copying from q m s n w z j) (l : j < m) where
  reads : (i : ℕ) → i < from + 3 * q → get_or z i 0 ≡ get_or w i 0
  reads i u = front_get s i w z k.edged.front (omega (arith, e.front))

  entry_read : edge_at from q z j ≡ edge_at from q w j
  entry_read = ap₂ (λ (x : Edge) (y : ℕ). (x, y)) (ap₂ (λ (x y : ℕ). (x, y)) (reads (from + j) (omega (arith, e.few))) (reads (from + q + j) (omega (arith, e.few))))
      (reads (from + 2 * q + j) (omega (arith, e.few)))

  pub copying_ends : (get_or z (from + j) 0 < n) × (get_or z (from + q + j) 0 < n) × (get_or z (from + 2 * q + j) 0 < 65536)
  copying_ends =
      let r = e.nodes j l in (
        omega (arith, r.0, reads (from + j) (omega (arith, e.few))),
        omega (arith, r.1, reads (from + q + j) (omega (arith, e.few))),
        omega (arith, r.2, reads (from + 2 * q + j) (omega (arith, e.few))),
      )

  pub copying_more : (zs : List ℕ) → PutEdge n j (get_or z (from + j) 0) (get_or z (from + q + j) 0) (get_or z (from + 2 * q + j) 0) (take (length z - s) (drop s z)) zs
      → Copying from q m s n w (put_mid s (length z - s) z zs) (j + 1)
  copying_more zs p =
      let f : s ≤ length z = omega (arith, e.room, k.long) in
      record {
        long = same_len_mid s (length z - s) z zs p.same ∙ k.long;
        edged = edged_more k.edged p f copying_ends.0 copying_ends.1 copying_ends.2;
        same = edges_more k.edged p f ∙ ap₂ (λ (G : Named) (x : Entry). G ++ (x ∷ [])) k.same entry_read ∙ sym (table_more (edge_at from q w) j);
      }

pub copied : {from q m s n j : ℕ} {w z : List ℕ} → Copying from q m s n w z j → j ≡ m → Copied from q m s n w z
copied {from} {q} {m} {s} {n} {j} {w} {z} k x = record { edged = rw x at k.edged; same = rw x at k.same }
