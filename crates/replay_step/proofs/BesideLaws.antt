-- The events beside a part: whether one adds its key, its edge loaded, and events one after another.
-- Assumes nothing.
use Prim.Native.Nat.{◌*◌, ◌+◌, ◌-◌, ◌<◌, ◌≤◌, ℕ}
use mathlib.Core.Bool.{Bool, ◌&&◌, cond, false, true}
use mathlib.Core.List.{List}
use mathlib.Core.Path.{◌∙◌, ◌≡◌, ap, ap₂, sym}
use lib.Dec.{leb, ltb}
use lib.ListN.{drop, get_or, length, take}
use native.Mathlib.Omega.{arith}
use borrow.Author.Tests.{le-leb, le-ltb, lt-leb, lt-ltb, ltb-true}
use borrow.Rule.Slice.PartMut.{put_mid}
use Rattle.core_loading.specs.Loading.{PutEdge}
use Rattle.theory_graph.proofs.Booleans.{and_elim}
use Rattle.theory_graph.specs.Graph.{Edge}
use Rattle.theory_timeline.proofs.TagLaws.{pick_ext_events}
use Rattle.theory_timeline.specs.Tags.{adds, is_open_after, key_of, pick_events, was_open}
use Rattle.theory_timeline.specs.Windows as Windows
use Rattle.replay_step.proofs.EdgeLaws.{There, added_more, added_put}
use Rattle.replay_step.proofs.WordLaws.{front_get}
use Rattle.replay_step.specs.Area.{span}
use Rattle.replay_step.specs.Load.{AddReady, Added, adds_in, entry_in}
use Rattle.replay_step.specs.declared.Part.{Part}
use Rattle.replay_step.specs.declared.Window.{Window}

-- ---- whether an event adds its key
module _ (w c : Windows.Window) (e t x y : ℕ) where
  pub adds_query : t ≡ 0 → false ≡ adds w c e t x y
  unfolding adds
  adds_query z = sym (ap (λ (t : ℕ). ltb 0 t && cond (ltb e c.0) (leb (c.0 + c.1) x && is_open_after t) (leb y w.0 && was_open t)) z)

  module _ (some : ¬ (t ≡ 0)) where
    front : e < c.0 → adds w c e t x y ≡ (leb (c.0 + c.1) x && is_open_after t)
    unfolding adds
    front l = ap₂ (λ (a b : Bool). a && cond b (leb (c.0 + c.1) x && is_open_after t) (leb y w.0 && was_open t)) (lt-ltb 0 t (omega arith)) (lt-ltb e c.0 l)

    back : c.0 ≤ e → adds w c e t x y ≡ (leb y w.0 && was_open t)
    unfolding adds
    back l = ap₂ (λ (a b : Bool). a && cond b (leb (c.0 + c.1) x && is_open_after t) (leb y w.0 && was_open t)) (lt-ltb 0 t (omega arith)) (le-ltb e c.0 l)

    pub adds_front_named : e < c.0 → x < c.0 + c.1 → false ≡ adds w c e t x y
    adds_front_named l m = sym (front l ∙ ap (λ (b : Bool). b && is_open_after t) (lt-leb (c.0 + c.1) x m))

    pub adds_front : e < c.0 → c.0 + c.1 ≤ x → is_open_after t ≡ adds w c e t x y
    adds_front l m = sym (front l ∙ ap (λ (b : Bool). b && is_open_after t) (le-leb (c.0 + c.1) x m))

    pub adds_back_named : c.0 ≤ e → w.0 < y → false ≡ adds w c e t x y
    adds_back_named l m = sym (back l ∙ ap (λ (b : Bool). b && was_open t) (lt-leb y w.0 m))

    pub adds_back : c.0 ≤ e → y ≤ w.0 → was_open t ≡ adds w c e t x y
    adds_back l m = sym (back l ∙ ap (λ (b : Bool). b && was_open t) (le-leb y w.0 m))

pub adds_same : (w c : Windows.Window) (e : ℕ) {t t' x x' y y' : ℕ} → t ≡ t' → x ≡ x' → y ≡ y' → adds w c e t x y ≡ adds w c e t' x' y'
adds_same w c e {t' = t'} {x' = x'} {y = y} a b d = ap₂ (λ (t x : ℕ). adds w c e t x y) a b ∙ ap (adds w c e t' x') d

-- ---- one event
module _ {w : Window} {p : Part} {i m : ℕ} {v : List ℕ} (q : AddReady w p i (i + 1) m v) where
  there : There p.scratch w.nodes m v
  there = record { ends = q.ends; names = q.names }

  -- an event that adds its key has a tag
  pub adds_tag : adds_in w p v i ≡ true → 0 < get_or v (2 * w.events + 3 * i) 0
  unfolding adds
  adds_tag e = and_elim (ltb 0 (get_or v (2 * w.events + 3 * i) 0)) _ e (λ t _. ltb-true 0 (get_or v (2 * w.events + 3 * i) 0) t)

  pub add_put : adds_in w p v i ≡ true → (a b t : ℕ) → a ≡ get_or v (2 * i) 0 → b ≡ get_or v (2 * i + 1) 0 → t ≡ get_or v (2 * w.events + 3 * i) 0 → (zs : List ℕ)
      → PutEdge w.nodes m a b (key_of t) (take (length v - p.scratch) (drop p.scratch v)) zs
      → Added w p i (i + 1) m v (put_mid p.scratch (length v - p.scratch) v zs) (m + 1)
  add_put e a b t ea eb et zs k =
      added_put there e (ap₂ (λ (x : Edge) (y : ℕ). (x, y)) (ap₂ (λ (x y : ℕ). (x, y)) ea eb) (ap key_of et)) (omega (arith, q.nodes (2 * i) (omega (arith, q.inside))))
      (omega (arith, q.nodes (2 * i + 1) (omega (arith, q.inside)))) (rw et (q.keys i (omega (arith, q.inside)))) (omega (arith, q.room)) k

-- the front of the words decides which events add their keys, and their edges
pub beside_same : (w : Window) (p : Part) (v z : List ℕ) → ((d : ℕ) → d < 5 * w.events → get_or z d 0 ≡ get_or v d 0) → (i k : ℕ) → i + k ≤ w.events
    → pick_events (adds_in w p z) (entry_in w.events z) i k ≡ pick_events (adds_in w p v) (entry_in w.events v) i k
beside_same w p v z h i k l = pick_ext_events (adds_in w p z) (adds_in w p v) (entry_in w.events z) (entry_in w.events v) i k λ d a b. (
  adds_same (span w) (p.at, p.events) (w.at + d) (h (2 * w.events + 3 * d) (omega arith)) (h (2 * w.events + 3 * d + 1) (omega arith)) (h (2 * w.events + 3 * d + 2) (omega arith)),
  ap₂ (λ (x : Edge) (y : ℕ). (x, y)) (ap₂ (λ (a b : ℕ). (a, b)) (h (2 * d) (omega arith)) (h (2 * d + 1) (omega arith))) (ap key_of (h (2 * w.events + 3 * d) (omega arith))),
)

-- ---- events one after another
module _ {w : Window} {p : Part} {i j m : ℕ} {v : List ℕ} (q : AddReady w p i j m v) where
  module _ {e k : ℕ} {z : List ℕ} (a : Added w p i e m v z k) (lo : i ≤ e) (l : e < j) where
    front_is : (d : ℕ) → d < 5 * w.events → get_or z d 0 ≡ get_or v d 0
    front_is d u = front_get p.scratch d v z a.edged.front (omega (arith, q.front))

    pub adding_more : {y : List ℕ} {r : ℕ} → Added w p e (e + 1) k z y r → Added w p i (e + 1) m v y r
    adding_more b = added_more a lo b (beside_same w p v z front_is e 1 (omega (arith, q.inside)))
