-- The pieces of the load: the counts of the roads that events name cleared one after another, the roads loaded one after another, and which they are then.
-- Assumes nothing.
use Prim.Native.Nat.{◌*◌, ◌+◌, ◌-◌, ◌<◌, ◌≤◌, suc, zero, ℕ}
use mathlib.Core.Bool.{Bool, ◌&&◌, ◌||◌, cond, false, or-false, true}
use mathlib.Core.List.{List, [], ◌∷◌}
use mathlib.Core.Path.{◌∙◌, ◌≡◌, ap, ap₂, refl, subst, sym}
use lib.Dec.{eqb, ltb}
use lib.ListN.{drop, get_or, length, length-set, set, take}
use lib.Seq.{get_or-set_other, get_or-set_same}
use native.Mathlib.Omega.{arith}
use borrow.Author.Tests.{eqb-false, eqb-true, lt-ltb}
use borrow.Rule.Slice.PartMut.{put_mid}
use Rattle.core_loading.specs.Loading.{PutEdge}
use Rattle.replay_events.specs.Writing.{names_tag}
use Rattle.replay_start.specs.Start.{ClearReady, Cleared, LoadReady, fixed, named_by, segment, tags_from}
use Rattle.replay_step.proofs.EdgeLaws.{added_more, added_put}
use Rattle.replay_step.proofs.WordLaws.{front_get}
use Rattle.replay_step.specs.Load.{AddedBy}
use Rattle.theory_graph.proofs.Booleans.{on_bool}
use Rattle.theory_graph.specs.Graph.{Edge}
use Rattle.theory_graph.specs.Lists.{any, range}
use Rattle.theory_names.specs.Names.{Entry, Named}
use Rattle.theory_timeline.proofs.TagLaws.{any_add}
use Rattle.theory_timeline.specs.Events.{pick}
use Rattle.theory_timeline.specs.Tags.{key_of, pick_events}

-- ---- one event's key
module _ (from i : ℕ) (w : List ℕ) (s : ℕ) where
  named_one : named_by from i (i + 1) w s ≡ names_tag (tags_from from w) s i
  named_one = let z : i + 1 - i ≡ 1 = omega arith in ap (λ (k : ℕ). any (names_tag (tags_from from w) s) (range i k)) z ∙ or-false (names_tag (tags_from from w) s i)

pub clear_none : {from i counts : ℕ} {w : List ℕ} → tags_from from w i ≡ 0 → Cleared from i (i + 1) counts w w
clear_none {from} {i} {counts} {w} z = record {
  long = refl;
  front = λ d l. refl;
  left = λ r l. sym (ap (λ (b : Bool). cond b 0 (get_or w (counts + r) 0)) (named_one from i w r ∙ ap (λ (t : ℕ). ltb 0 t && eqb r (key_of t)) z));
}

pub clear_put : {from i counts : ℕ} {w : List ℕ} → ClearReady from (i + 1) counts w → ¬ (tags_from from w i ≡ 0)
    → Cleared from i (i + 1) counts w (set w (counts + key_of (tags_from from w i)) 0)
clear_put {from} {i} {counts} {w} q some = record {
  long = length-set w (counts + key_of T) 0;
  front = λ d l. get_or-set_other w (counts + key_of T) d 0 0 (λ z. omega arith);
  left = λ r l.
      let own : named_by from i (i + 1) w r ≡ eqb r (key_of T) = named_one from i w r ∙ ap (λ (b : Bool). b && eqb r (key_of T)) (lt-ltb 0 T (omega arith)) in
      on_bool (eqb r (key_of T))
      (λ t. ap (λ (k : ℕ). get_or (set w (counts + key_of T) 0) (counts + k) 0) (eqb-true r (key_of T) t)
      ∙ get_or-set_same w (counts + key_of T) 0 0 (q.keys i (omega arith) (omega arith))
      ∙ sym (ap (λ (b : Bool). cond b 0 (get_or w (counts + r) 0)) (own ∙ t)))
      (λ t. let e = eqb-false r (key_of T) t in
      get_or-set_other w (counts + key_of T) (counts + r) 0 0 (λ z. e (omega arith))
      ∙ sym (ap (λ (b : Bool). cond b 0 (get_or w (counts + r) 0)) (own ∙ t)));
}
  where
    T : ℕ
    T = tags_from from w i

-- ---- keys one after another
pub any_same : (f h : ℕ → Bool) (i n : ℕ) → ((j : ℕ) → i ≤ j → j < i + n → f j ≡ h j) → any f (range i n) ≡ any h (range i n)
any_same f h i zero e = refl
any_same f h i (suc n) e = ap₂ ◌||◌ (e i (omega arith) (omega arith)) (any_same f h (suc i) n (λ j a b. e j (omega arith) (omega arith)))

-- what events name does not change where their tags do not
pub named_same : (from i j : ℕ) (w z : List ℕ) → ((u : ℕ) → i ≤ u → u < j → tags_from from z u ≡ tags_from from w u) → (s : ℕ) → named_by from i j z s ≡ named_by from i j w s
named_same from i j w z e s = any_same (names_tag (tags_from from z) s) (names_tag (tags_from from w) s) i (j - i) λ u a b.
    ap (λ (t : ℕ). ltb 0 t && eqb s (key_of t)) (e u a (omega arith))

module _ {from t counts e : ℕ} {w z : List ℕ} (q : ClearReady from t counts w) (c : Cleared from 0 e counts w z) (l : e < t) where
  tags_kept : (j : ℕ) → j < t → tags_from from z j ≡ tags_from from w j
  tags_kept j u = c.front (from + 3 * j) (omega (arith, q.apart))

  pub clear_need : ClearReady from (e + 1) counts z
  clear_need = record {
    much = omega (arith, q.much);
    apart = omega (arith, q.apart);
    room = omega (arith, q.room, c.long);
    keys = λ j u s. let k = tags_kept j (omega arith) in
        subst (λ (t : ℕ). counts + key_of t < length z) (sym k) (omega (arith, c.long, q.keys j (omega arith) (omega arith)));
  }

  pub clearing_more : {y : List ℕ} → Cleared from e (e + 1) counts z y → Cleared from 0 (e + 1) counts w y
  clearing_more d = record {
    long = d.long ∙ c.long;
    front = λ k u. d.front k u ∙ c.front k u;
    left = λ r u.
        let f = names_tag (tags_from from w) r in
        let n1 : e + 1 - 0 ≡ e - 0 + 1 = omega arith in
        let n2 : 0 + (e - 0) ≡ e = omega arith in
        let n3 : 1 ≡ e + 1 - e = omega arith in
        let split : named_by from 0 (e + 1) w r ≡ (named_by from 0 e w r || named_by from e (e + 1) w r) =
        ap (λ (k : ℕ). any f (range 0 k)) n1 ∙ any_add f 0 (e - 0) 1 ∙ ap₂ (λ (j k : ℕ). named_by from 0 e w r || any f (range j k)) n2 n3 in
        d.left r (omega (arith, c.long)) ∙ ap₂ (λ (b : Bool) (v : ℕ). cond b 0 v) (named_same from e (e + 1) w z (λ j p k. tags_kept j (omega arith)) r) (c.left r u)
        ∙ both (named_by from 0 e w r) (named_by from e (e + 1) w r) (get_or w (counts + r) 0) ∙ sym (ap (λ (b : Bool). cond b 0 (get_or w (counts + r) 0)) split);
  }
    where
      both : (a b : Bool) (v : ℕ) → cond b 0 (cond a 0 v) ≡ cond (a || b) 0 v
      both true true v = refl
      both true false v = refl
      both false b v = refl

-- ---- one road
module _ {n s : ℕ} {a b : List ℕ} {counts j k : ℕ} {v : List ℕ} (q : LoadReady n s a b counts j (j + 1) k v) where
  pub load_put : ¬ (get_or v (counts + j) 0 ≡ 0) → (zs : List ℕ) → PutEdge n k (get_or a j 0) (get_or b j 0) j (take (length v - s) (drop s v)) zs
      → AddedBy s n (fixed counts v) (segment a b) j (j + 1) k v (put_mid s (length v - s) v zs) (k + 1)
  load_put h zs p =
      let (la, lb) = q.nodes j (omega (arith, q.inside)) in
      added_put (record { ends = q.ends; names = q.names }) (lt-ltb 0 (get_or v (counts + j) 0) (omega arith)) refl la lb (omega (arith, q.inside, q.much)) (omega (arith, q.room)) p

-- ---- roads one after another
module _ {n s : ℕ} {a b : List ℕ} {counts : ℕ} {v : List ℕ} (q : LoadReady n s a b counts 0 (length a) 0 v) where
  module _ {j k : ℕ} {z : List ℕ} (c : AddedBy s n (fixed counts v) (segment a b) 0 j 0 v z k) (l : j < length a) where
    -- the counts stand before the words of the graph, and stay
    pub loading_more : {y : List ℕ} {r : ℕ} → AddedBy s n (fixed counts z) (segment a b) j (j + 1) k z y r
        → AddedBy s n (fixed counts v) (segment a b) 0 (j + 1) 0 v y r
    loading_more d = added_more c (omega arith) d
        (ap (λ (x : ℕ). cond (ltb 0 x) (segment a b j ∷ []) []) (front_get s (counts + j) v z c.edged.front (omega (arith, q.apart))))

-- ---- which they are
-- of the numbers from i on, as many as there are edges, and of the list of these edges
pub pick_numbers : (f h : ℕ → Bool) (E : ℕ → Entry) (i : ℕ) (es : List Edge) → ((k : ℕ) → k < length es → (f (i + k) ≡ h (i + k)) × (E (i + k) ≡ (get_or es k (0, 0), i + k)))
    → pick_events f E i (length es) ≡ pick h i es
pick_numbers f h E i [] s = refl
pick_numbers f h E i (e ∷ es) s =
    let z : i ≡ i + 0 = omega arith in
    let next : (k : ℕ) → suc i + k ≡ i + suc k = λ k. omega arith in
    let (a, b) = s 0 (omega arith) in
    let r = pick_numbers f h E (suc i) es (λ k l. let (c, d) = s (suc k) (omega arith) in
    (ap f (next k) ∙ c ∙ ap h (sym (next k)), ap E (next k) ∙ d ∙ ap (λ (j : ℕ). (get_or es k (0, 0), j)) (sym (next k)))) in
    ap₂ (λ (c : Bool) (l : Named). cond c (E i ∷ l) l) (ap f z ∙ a ∙ ap h (sym z)) r
    ∙ ap (λ (x : Entry). cond (h i) (x ∷ pick h (suc i) es) (pick h (suc i) es)) (ap E z ∙ b ∙ ap (λ (j : ℕ). (e, j)) (sym z))
