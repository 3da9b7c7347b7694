-- Laws of the words of the roads: the ends of a segment as the tables have them; nothing is threaded; one more segment is threaded; one more is named; along
-- a thread; the whole.
-- Assumes nothing.
use Prim.Native.Nat.{◌*◌, ◌+◌, ◌-◌, ◌<◌, ◌≤◌, max, min, ℕ}
use mathlib.Core.Bool.{Bool, cond}
use mathlib.Core.List.{List}
use mathlib.Core.Path.{◌∙◌, ◌≡◌, ap, refl, sym}
use lib.Dec.{ltb}
use lib.ListN.{get_or, length, set}
use native.Mathlib.Omega.{arith}
use borrow.Author.Tests.{lt-ltb, ltb-false, ltb-true}
use Rattle.std.proofs.Common.{None, Option, Some}
use Rattle.std.specs.Option.{IfSome, unwrap_or}
use Rattle.core_words.specs.Fields.{update}
use Rattle.theory_graph.proofs.Booleans.{on_bool}
use Rattle.theory_graph.proofs.TableLaws.{pairs_at}
use Rattle.theory_graph.specs.Graph.{Edge}
use Rattle.theory_graph.specs.Lists.{pairs}
use Rattle.replay_roads.proofs.NamingLaws.{naming_found, naming_new, naming_none, naming_on, naming_same, threads_more, threads_none, threads_same}
use Rattle.replay_roads.proofs.RunLaws.{stored, stored_two}
use Rattle.replay_roads.specs.Naming.{FirstFrom, RoadWords, RoadsNamed, SegmentTables, high, low, segment_or_none}
use Rattle.replay_roads.specs.Runs.{Filled, run}

-- ---- the ends of segment s
module _ (a b : List ℕ) (s : ℕ) (k : s < length a) (l : s < length b) where
  pub low_at : low (pairs a b) s ≡ min (get_or a s 0) (get_or b s 0)
  unfolding low
  low_at = ap (λ (e : Edge). min e.0 e.1) (pairs_at a b s k l)

  pub high_at : high (pairs a b) s ≡ max (get_or a s 0) (get_or b s 0)
  unfolding high
  high_at = ap (λ (e : Edge). max e.0 e.1) (pairs_at a b s k l)

module _ {n : ℕ} {a b : List ℕ} (k : SegmentTables n a b) (s : ℕ) (l : s < length a) where
  b_fits : s < length b
  b_fits = omega (arith, k.b_long)

  low_fits : low (pairs a b) s < n
  low_fits = let (p, q) = k.ends s l in omega (arith, low_at a b s l b_fits)

  high_fits : high (pairs a b) s < n
  high_fits = let (p, q) = k.ends s l in omega (arith, high_at a b s l b_fits)

-- ---- threading
module _ {n q : ℕ} {a b w z : List ℕ} (k : SegmentTables n a b) (r : q + 2 * length a + 2 * n ≤ length w) (f : Filled (q + length a) (2 * n) (length a) w z) where
  -- heads and firsts are filled
  pub thread_start : RoadWords n a b q z (length a) 0 0
  thread_start = record {
    tables = k;
    room = omega (arith, f.long);
    threads = threads_none (λ v l. f.here v (omega arith));
    naming = naming_none (λ h l. let e : q + length a + n + h ≡ q + length a + (n + h) = omega arith in ap (λ (i : ℕ). get_or z i 0) e ∙ f.here (n + h) (omega arith));
  }

-- the link of s becomes the head of its lower end v, and s the head
module _ {n q s v : ℕ} {a b w : List ℕ} (g : RoadWords n a b q w (s + 1) 0 0) (l : s < length a) (ev : v ≡ low (pairs a b) s) where
  pub thread_fits : v < n
  thread_fits = rw ev (low_fits g.tables s l)

  pub thread_more : {x : ℕ} {w₁ z : List ℕ} → x ≡ get_or w (q + length a + v) 0 → w₁ ≡ set w (q + length a + 2 * n + s) x → z ≡ set w₁ (q + length a + v) s → RoadWords n a b q z s 0 0
  thread_more {x} {w₁} {z} ex e₁ e₂ =
      let r = g.room in
      let d = thread_fits in
      let p = stored_two (q + length a + 2 * n) s x (q + length a) v s w e₁ e₂ (omega arith) (omega arith) in
      record {
        tables = g.tables;
        room = omega (arith, p.long);
        threads = threads_same
            (λ u i. p.second u (λ e. omega arith) ∙ ap (λ (y : ℕ). update (run (q + length a) w) y s u) ev)
            (λ t i. p.first t (λ e. omega arith) ∙ ap (λ (y : ℕ). update (run (q + length a + 2 * n) w) s y t) (ex ∙ ap (λ (y : ℕ). get_or w (q + length a + y) 0) ev))
            (threads_more g.threads l (low_fits g.tables s l));
        naming = naming_same (omega arith) (high_fits g.tables) (λ t i. p.else q t (λ e. omega arith) (λ e. omega arith))
            (λ h i. p.else (q + length a + n) h (λ e. omega arith) (λ e. omega arith)) g.naming;
      }

-- ---- naming
module _ {n q v s h : ℕ} {a b w : List ℕ} (g : RoadWords n a b q w 0 v s) (l : s < length a) (ev : low (pairs a b) s ≡ v) (eh : h ≡ high (pairs a b) s) where
  pub name_fits : h < n
  name_fits = rw eh (high_fits g.tables s l)

  module _ {f : ℕ} (ef : f ≡ get_or w (q + length a + n + h) 0) where
    first_is : f ≡ run (q + length a + n) w (high (pairs a b) s)
    first_is = ef ∙ ap (λ (y : ℕ). get_or w (q + length a + n + y) 0) eh

    -- by the one that is kept
    pub name_found : {z : List ℕ} → f < length a → low (pairs a b) f ≡ v → z ≡ set w (q + s) f → RoadWords n a b q z 0 v (s + 1)
    name_found {z} k u e =
        let r = g.room in
        let p = stored q s f w e (omega arith) in
        record {
          tables = g.tables;
          room = omega (arith, p.long);
          threads = threads_same (λ t i. p.else (q + length a) t (λ e. omega arith)) (λ t i. p.else (q + length a + 2 * n) t (λ e. omega arith)) g.threads;
          naming = naming_same (omega arith) (high_fits g.tables)
              (λ t i. p.here t ∙ ap (λ (y : ℕ). update (run q w) s y t) first_is)
              (λ t i. p.else (q + length a + n) t (λ e. omega arith))
              (naming_found g.naming l ev (high_fits g.tables s l) (rw first_is at k) (rw first_is at u));
        }

    -- by itself
    pub name_new : {w₁ z : List ℕ} → (f < length a → low (pairs a b) f ≡ v → ⊥) → w₁ ≡ set w (q + s) s → z ≡ set w₁ (q + length a + n + h) s → RoadWords n a b q z 0 v (s + 1)
    name_new {w₁} {z} none e₁ e₂ =
        let r = g.room in
        let d = name_fits in
        let p = stored_two q s s (q + length a + n) h s w e₁ e₂ (omega arith) (omega arith) in
        record {
          tables = g.tables;
          room = omega (arith, p.long);
          threads = threads_same (λ t i. p.else (q + length a) t (λ e. omega arith) (λ e. omega arith))
              (λ t i. p.else (q + length a + 2 * n) t (λ e. omega arith) (λ e. omega arith)) g.threads;
          naming = naming_same (omega arith) (high_fits g.tables)
              (λ t i. p.first t (λ e. omega arith))
              (λ t i. p.second t (λ e. omega arith) ∙ ap (λ (y : ℕ). update (run (q + length a + n) w) y s t) eh)
              (naming_new g.naming l ev (high_fits g.tables s l) (rw first_is at none));
        }

-- ---- the segment that a word names
pub some_named : {m s x : ℕ} → segment_or_none m s ≡ Some x → (x ≡ s) × (s < m)
some_named {m} {s} {x} e = on_bool (ltb s m)
    (λ t. let g : Some s ≡ Some x = ap (λ (b : Bool). cond b (Some s) None) (sym t) ∙ e in (cc, ltb-true s m t))
    (λ t. let g : None ≡ Some x = ap (λ (b : Bool). cond b (Some s) None) (sym t) ∙ e in cc)

pub none_named : {m s : ℕ} → segment_or_none m s ≡ None → ¬ (s < m)
none_named {m} {s} e l = let g : Some s ≡ None = ap (λ (b : Bool). cond b (Some s) None) (sym (lt-ltb s m l)) ∙ e in cc

named_word : {m s : ℕ} → s ≤ m → unwrap_or (segment_or_none m s) m ≡ s
named_word {m} {s} l = on_bool (ltb s m) (λ t. rw t refl) (λ t. let e : s ≡ m = omega (arith, ltb-false s m t) in rw t (sym e))

-- ---- along a thread
-- in a loop: the segments of the thread before `next` are named, and `next` is the next of it
pub record Along (n : ℕ) (a b : List ℕ) (q : ℕ) (w : List ℕ) (v : ℕ) (next : Option ℕ) : Type 0 where
  pub words : RoadWords n a b q w 0 v (unwrap_or next (length a))
  pub at : IfSome next (λ s. (s < length a) × (low (pairs a b) s ≡ v))

along : {n q v k s : ℕ} {a b w : List ℕ} → RoadWords n a b q w 0 v k → FirstFrom (low (pairs a b)) v k (length a) s → Along n a b q w v (segment_or_none (length a) s)
along {n} {q} {v} {k} {s} {a} {b} {w} g f =
    let words : RoadWords n a b q w 0 v s = record { tables = g.tables; room = g.room; threads = g.threads; naming = naming_on g.naming f } in
    on_bool (ltb s (length a))
    (λ t. let l = ltb-true s (length a) t in rw t (record { words = words; at = (l, f.at l) }))
    (λ t. let e : s ≡ length a = omega (arith, f.most, ltb-false s (length a) t) in rw t (record { words = rw e at words; at = tt }))

along_at : {n q v s : ℕ} {a b w : List ℕ} {next : Option ℕ} → Along n a b q w v next → next ≡ Some s
    → RoadWords n a b q w 0 v s × (s < length a) × (low (pairs a b) s ≡ v)
along_at g i = let (l, at) = rw i at g.at in (rw i at g.words, l, at)

pub along_more : {n q v s : ℕ} {a b w z : List ℕ} {next after : Option ℕ} → Along n a b q w v next → next ≡ Some s → RoadWords n a b q z 0 v (s + 1)
    → after ≡ segment_or_none (length a) (get_or z (q + length a + 2 * n + s) 0)
    → Along n a b q z v after × (length a - unwrap_or after (length a) < length a - unwrap_or next (length a))
along_more {n} {q} {v} {s} {a} {b} {w} {z} {next} {after} g i h e =
    let (_, l, at) = along_at g i in
    let t = get_or z (q + length a + 2 * n + s) 0 in
    let f : FirstFrom (low (pairs a b)) v (s + 1) (length a) t = rw (← at) (h.threads.links s (omega arith) l) in
    let k : unwrap_or (segment_or_none (length a) t) (length a) ≡ t = named_word f.most in
    (rw e (along h f), rw (e, i, k) (omega (arith, f.past)))

-- ---- the whole
pub roads_named : {n q : ℕ} {a b w z : List ℕ} → length z ≡ length w → RoadWords n a b q z 0 n 0 → RoadsNamed a b q w z
roads_named e g = record { long = e; names = λ s l. g.naming.lower s l (low_fits g.tables s l) }
