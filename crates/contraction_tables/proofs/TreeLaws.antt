-- Laws of numbering the trees: the roots of the entries, entered one after the other, have the numbers that the trees have by first appearance.
-- Assumes nothing.
use Prim.Native.Nat.{◌*◌, ◌+◌, ◌-◌, ◌<◌, ◌≤◌, ℕ}
use mathlib.Core.List.{List, Memᴰ, [], ◌∷◌}
use mathlib.Core.Path.{◌∙◌, ◌≡◌, ap, refl, sym}
use lib.Dec.{eqb}
use lib.ListN.{get_or, length, set, take}
use lib.Seq.{get_or-take, length-take-le}
use native.Mathlib.Omega.{arith}
use Rattle.contraction_tables.specs.Transfer.{CanNumber, TreesNumbered, roots_of}
use Rattle.core_loading.proofs.LoadingLaws.{cleared_past, entered_none, entered_place}
use Rattle.core_loading.specs.Loading.{Entered, Entering, Past}
use Rattle.core_words.specs.Clearing.{Cleared}
use Rattle.core_words.specs.Fields.{ACTIVE, MARK, ROOT, node}
use Rattle.theory_graph.proofs.Lists.{table_in}
use Rattle.theory_graph.proofs.Pieces.{equal_nodes, group, group_append}
use Rattle.theory_graph.proofs.TableLaws.{table_append, table_map, table_more, written_all, written_more}
use Rattle.theory_graph.specs.Lists.{over, table}
use Rattle.theory_graph.specs.Pieces.{numbered}

-- the root of entry i's tree, and the number of that tree by first appearance
abbrev pub root_of : List ℕ → List ℕ → ℕ → ℕ
root_of active w i = node ROOT w (get_or active i 0)

abbrev pub number_of : ℕ → List ℕ → List ℕ → ℕ → ℕ
number_of k active w i = group eqb (roots_of k active w) (root_of active w i)

-- the roots of the first i entries are entered, d different ones, and their numbers are written; the words go from a to b, the table from p to q
pub record Numbering (n k : ℕ) (active a p : List ℕ) (i : ℕ) (b q : List ℕ) (d : ℕ) : Type 0 where
  pub some : i ≤ k
  pub same : length b ≡ length a
  pub past : Past (16 * n) a b
  pub still : node ROOT b ≡ node ROOT a
  pub entered : Entered n (roots_of i active a) d (node MARK b) (node ACTIVE b)
  pub filled : q ≡ over (table (number_of k active a) 0 i) p

pub numbering_none : {n : ℕ} (k : ℕ) (active a p : List ℕ) → ((v : ℕ) → v < n → node MARK a v ≡ 0) → Numbering n k active a p 0 a p 0
numbering_none k active a p z =
    record { some = omega arith; same = refl; past = λ i l. refl; still = refl; entered = entered_none (node MARK a) (node ACTIVE a) z; filled = refl }

module _ {n k i d : ℕ} {active a p b q : List ℕ} (c : CanNumber n k active p a) (g : Numbering n k active a p i b q d) where
  -- the root that is read for the next of the first k entries
  pub root_read : {r : ℕ} → i < length (take k active) → r ≡ node ROOT b (get_or (take k active) i 0) → (r ≡ root_of active a i) × (i < k)
  root_read m e =
      let l : i < k = omega (arith, length-take-le k active c.active_length) in
      (e ∙ ap (node ROOT b) (get_or-take k active i 0 l) ∙ ap (λ (f : ℕ → ℕ). f (get_or active i 0)) g.still, l)

  module _ (l : i < k) {r e : ℕ} {b₁ : List ℕ} (is : r ≡ root_of active a i) (h : Entering n d r b b₁ e) where
    entered_more : Entered n (roots_of (i + 1) active a) e (node MARK b₁) (node ACTIVE b₁)
    entered_more = rw (table_more (root_of active a) i, ← is) (h.more (roots_of i active a) g.entered)

    met : Memᴰ (root_of active a i) (roots_of (i + 1) active a)
    met = table_in (root_of active a) 0 (i + 1) i (omega arith) (omega arith)

    -- the number among the roots met so far is the number among all
    number_is : group eqb (roots_of (i + 1) active a) (root_of active a i) ≡ number_of k active a i
    number_is =
        let s : k ≡ i + 1 + (k - (i + 1)) = omega arith in
        sym (
        ap (λ (j : ℕ). group eqb (roots_of j active a) (root_of active a i)) s
        ∙ ap (λ (xs : List ℕ). group eqb xs (root_of active a i)) (table_append (root_of active a) 0 (i + 1) (k - (i + 1)))
        ∙ group_append equal_nodes (roots_of (i + 1) active a) (table (root_of active a) (0 + (i + 1)) (k - (i + 1))) (root_of active a i) met
        )

    pub mark_fits : (0 < node MARK b₁ r) × (node MARK b₁ r ≤ n) × (node MARK b₁ r - 1 ≡ number_of k active a i)
    mark_fits = let (x, y, z) = entered_place entered_more met in rw is (x, y, z ∙ number_is)

    pub numbering_more : {x : ℕ} → x ≡ node MARK b₁ r - 1 → Numbering n k active a p (i + 1) b₁ (set q i x) e
    numbering_more f = record {
      some = omega arith;
      same = h.same ∙ g.same;
      past = λ j m. h.past j m ∙ g.past j m;
      still = h.else ROOT (omega arith) (λ z. omega arith) (λ z. omega arith) ∙ g.still;
      entered = entered_more;
      filled = written_more (number_of k active a) i p g.filled (omega (arith, c.pieces_length)) (f ∙ mark_fits.2);
    }

pub trees_numbered : {n k i d : ℕ} {active a p b q : List ℕ} → Numbering n k active a p i b q d → i ≡ k → TreesNumbered n k active a b p q
unfolding numbered
trees_numbered {k = k} {active = active} {a = a} {p = p} g e = record {
  same = g.same;
  past = g.past;
  filled = written_all (number_of k active a) _ p g.filled k e ∙ ap (λ xs. over xs p) (sym (table_map (group eqb (roots_of k active a)) (root_of active a) 0 k));
}

-- ---- with the marks cleared before
module _ {n k : ℕ} {active p a b : List ℕ} (c : CanNumber n k active p a) (z : Cleared (MARK ∷ []) n n a b) where
  root_kept : node ROOT b ≡ node ROOT a
  root_kept = z.rest.nodes ROOT (omega arith) refl

  -- the first h entries
  pub can_number : {h : ℕ} → h ≤ k → CanNumber n h active p b
  can_number l = record {
    few = c.few;
    room = rw z.rest.same c.room;
    active_length = omega (arith, c.active_length);
    pieces_length = omega (arith, c.pieces_length);
    entries = λ i m. rw root_kept (c.entries i (omega arith));
  }

  pub cleared_numbered : {w q : List ℕ} → TreesNumbered n k active b w p q → TreesNumbered n k active a w p q
  cleared_numbered t = record {
    same = t.same ∙ z.rest.same;
    past = λ i l. t.past i l ∙ cleared_past z i l;
    filled = rw root_kept at t.filled;
  }
