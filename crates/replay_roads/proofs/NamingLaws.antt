-- Laws of threads and of naming, over plain functions. In order: the same road by the lower and the higher end; threads, one more segment at the front;
-- naming, one more segment, which is named by the one that is kept or by itself; on to the next of the thread, and to the next junction.
-- Assumes nothing.
use Prim.Native.Nat.{◌+◌, ◌<◌, ◌≤◌, ℕ}
use mathlib.Core.Bool.{true}
use mathlib.Core.List.{List}
use mathlib.Core.Path.{◌∙◌, ◌≡◌, ap, refl, sym}
use lib.Dec.{eqb, ltb}
use lib.ListN.{get_or}
use native.Mathlib.Omega.{arith}
use borrow.Author.Tests.{eqb-false, eqb-true, ltb-false, ltb-true}
use Rattle.core_words.proofs.FieldLaws.{update_at, update_other, update_same}
use Rattle.core_words.specs.Fields.{update}
use Rattle.theory_graph.proofs.Booleans.{on_bool}
use Rattle.theory_graph.specs.Graph.{Edge}
use Rattle.theory_timeline.proofs.RoadLaws.{ends_ordered, ends_refl, road_is, road_most, road_same, same_road_lem}
use Rattle.theory_timeline.specs.Roads.{road, same_road}
use Rattle.replay_roads.specs.Naming.{FirstFrom, Naming, Threads, high, low}

-- ---- by the lower and the higher end
module _ (segs : List Edge) (s t : ℕ) where
  same_ordered : same_road segs s t ≡ true → (low segs s ≡ low segs t) × (high segs s ≡ high segs t)
  unfolding low high
  same_ordered h = (ends_ordered (get_or segs s (0, 0)) (get_or segs t (0, 0))).0 h

  ordered_same : low segs s ≡ low segs t → high segs s ≡ high segs t → same_road segs s t ≡ true
  unfolding low high
  ordered_same p q = (ends_ordered (get_or segs s (0, 0)) (get_or segs t (0, 0))).1 (p, q)

-- ---- threads
-- no segment is threaded
pub threads_none : {end : ℕ → ℕ} {n m : ℕ} {head link : ℕ → ℕ} → ((v : ℕ) → v < n → head v ≡ m) → Threads end n m m head link
threads_none z = record {
  heads = λ v l. rw (z v l) (record { past = omega arith; most = omega arith; at = λ i. absurd (omega arith); gap = λ t i j. absurd (omega arith) });
  links = λ t i j. absurd (omega arith);
}

-- the same at each place that counts
pub threads_same : {end : ℕ → ℕ} {n m s : ℕ} {head link head' link' : ℕ → ℕ} → ((v : ℕ) → v < n → head' v ≡ head v) → ((t : ℕ) → t < m → link' t ≡ link t)
    → Threads end n m s head link → Threads end n m s head' link'
threads_same p q g = record { heads = λ v l. rw (p v l) (g.heads v l); links = λ t i l. rw (q t l) (g.links t i l) }

-- segment s is the first from s on with its end
first_here : (end : ℕ → ℕ) (v s m : ℕ) → s < m → end s ≡ v → FirstFrom end v s m s
first_here end v s m l e = record { past = omega arith; most = omega arith; at = λ _. e; gap = λ t i k. absurd (omega arith) }

-- and nothing changes at another end
first_more : (end : ℕ → ℕ) (v s m c : ℕ) → (end s ≡ v → ⊥) → FirstFrom end v (s + 1) m c → FirstFrom end v s m c
first_more end v s m c ne p = record {
  past = omega (arith, p.past);
  most = p.most;
  at = p.at;
  gap = λ t i k e. on_bool (eqb t s) (λ q. ne (ap end (sym (eqb-true t s q)) ∙ e)) (λ q. let z : ¬ (t ≡ s) = eqb-false t s q in p.gap t (omega arith) k e);
}

pub threads_more : {end : ℕ → ℕ} {n m s : ℕ} {head link : ℕ → ℕ} → Threads end n m (s + 1) head link → s < m → end s < n
    → Threads end n m s (update head (end s) s) (update link s (head (end s)))
threads_more {end} {n} {m} {s} {head} {link} g l b = record {
  heads = update_at (λ v y. v < n → FirstFrom end v s m y) head (end s) s
      (λ _. first_here end (end s) s m l refl)
      (λ v ne i. first_more end v s m (head v) (λ e. ne (sym e)) (g.heads v i));
  links = update_at (λ t y. s ≤ t → t < m → FirstFrom end (end t) (t + 1) m y) link s (head (end s))
      (λ _ _. g.heads (end s) b)
      (λ t ne i k. g.links t (omega arith) k);
}

-- ---- naming
-- nothing is kept
pub naming_none : {segs : List Edge} {n m : ℕ} {name first : ℕ → ℕ} → ((h : ℕ) → h < n → first h ≡ m) → Naming segs n m 0 0 name first
naming_none z = record {
  lower = λ t l i. absurd (omega arith);
  here = λ t l i. absurd (omega arith);
  kept = λ t l i. absurd (omega arith);
  fits = λ h l i. absurd (omega (arith, z h l));
}

-- the same at each place that counts
pub naming_same : {segs : List Edge} {n m v k : ℕ} {name first name' first' : ℕ → ℕ} → k ≤ m → ((t : ℕ) → t < m → high segs t < n)
    → ((t : ℕ) → t < m → name' t ≡ name t) → ((h : ℕ) → h < n → first' h ≡ first h) → Naming segs n m v k name first → Naming segs n m v k name' first'
naming_same {segs} {n} {m} {v} {k} {name} {first} {name'} {first'} l b p q g = record {
  lower = λ t i e. p t i ∙ g.lower t i e;
  here = λ t i e. p t (omega arith) ∙ g.here t i e;
  kept = λ t i e. q (high segs t) (b t (omega arith)) ∙ g.kept t i e;
  fits = λ h i. rw (q h i) (g.fits h i);
}

module _ {segs : List Edge} {n m v s : ℕ} {name first : ℕ → ℕ} (g : Naming segs n m v s name first) (l : s < m) (e : low segs s ≡ v) (b : high segs s < n) where
  module _ (k : first (high segs s) < m) (ev : low segs (first (high segs s)) ≡ v) where
    road_found : road segs s ≡ first (high segs s)
    road_found = let (p, q) = g.fits (high segs s) b k in same_road_lem segs s (first (high segs s)) (ordered_same segs s (first (high segs s)) (e ∙ sym ev) (sym p)) ∙ q

    -- named by the one that is kept
    pub naming_found : Naming segs n m v (s + 1) (update name s (first (high segs s))) first
    naming_found = record {
      lower = update_at (λ t y. t < m → low segs t < v → y ≡ road segs t) name s (first (high segs s)) (λ _ u. absurd (omega arith)) (λ t ne. g.lower t);
      here = update_at (λ t y. t < s + 1 → low segs t ≡ v → y ≡ road segs t) name s (first (high segs s)) (λ _ _. sym road_found) (λ t ne i. g.here t (omega arith));
      kept = λ t i h. on_bool (eqb t s)
          (λ q. let z = eqb-true t s q in rw z (sym road_found))
          (λ q. let ne : ¬ (t ≡ s) = eqb-false t s q in g.kept t (omega arith) h);
      fits = g.fits;
    }

  module _ (none : first (high segs s) < m → low segs (first (high segs s)) ≡ v → ⊥) where
    none_before : (t : ℕ) → t < s → same_road segs s t ≡ true → ⊥
    none_before t i h =
        let (p, q) = same_ordered segs s t h in
        let r : first (high segs s) ≡ road segs t = ap first q ∙ g.kept t i (sym p ∙ e) in
        none (omega (arith, road_most segs t)) (ap (low segs) r ∙ sym (same_ordered segs t (road segs t) (road_same segs t)).0 ∙ sym p ∙ e)

    road_new : road segs s ≡ s
    road_new = road_is segs s s (ends_refl (get_or segs s (0, 0))) (λ t i. on_bool (same_road segs s t) (λ h. absurd (none_before t i h)) (λ h. h))

    -- named by itself, and kept
    pub naming_new : Naming segs n m v (s + 1) (update name s s) (update first (high segs s) s)
    naming_new = record {
      lower = update_at (λ t y. t < m → low segs t < v → y ≡ road segs t) name s s (λ _ u. absurd (omega arith)) (λ t ne. g.lower t);
      here = update_at (λ t y. t < s + 1 → low segs t ≡ v → y ≡ road segs t) name s s (λ _ _. sym road_new) (λ t ne i. g.here t (omega arith));
      kept = λ t i h. on_bool (eqb t s)
          (λ q. let z = eqb-true t s q in rw z (update_same first (high segs s) s ∙ sym road_new))
          (λ q. let ne : ¬ (t ≡ s) = eqb-false t s q in
          update_other first (high segs s) s (high segs t) (λ z. none_before t (omega arith) (ordered_same segs s t (e ∙ sym h) (sym z))) ∙ g.kept t (omega arith) h);
      fits = update_at (λ h y. h < n → y < m → (high segs y ≡ h) × (road segs y ≡ y)) first (high segs s) s (λ _ _. (refl, road_new)) (λ h ne. g.fits h);
    }

-- ---- on
-- no segment from k up to c has the lower end v
pub naming_on : {segs : List Edge} {n m v k c : ℕ} {name first : ℕ → ℕ} → Naming segs n m v k name first → FirstFrom (low segs) v k m c → Naming segs n m v c name first
naming_on {segs} {n} {m} {v} {k} {c} {name} {first} g p = record {
  lower = g.lower;
  here = λ t l e. on_bool (ltb t k) (λ i. g.here t (ltb-true t k i) e) (λ i. absurd (p.gap t (ltb-false t k i) l e));
  kept = λ t l e. on_bool (ltb t k) (λ i. g.kept t (ltb-true t k i) e) (λ i. absurd (p.gap t (ltb-false t k i) l e));
  fits = g.fits;
}

-- the thread of v is at its end
pub naming_next : {segs : List Edge} {n m v k : ℕ} {name first : ℕ → ℕ} → Naming segs n m v k name first → m ≤ k → Naming segs n m (v + 1) 0 name first
naming_next {segs} {n} {m} {v} g z = record {
  lower = λ t l i. on_bool (ltb (low segs t) v)
      (λ q. g.lower t l (ltb-true (low segs t) v q))
      (λ q. let k = ltb-false (low segs t) v q in g.here t (omega arith) (omega arith));
  here = λ t l i. absurd (omega arith);
  kept = λ t l i. absurd (omega arith);
  fits = g.fits;
}
