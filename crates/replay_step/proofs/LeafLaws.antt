-- A window of one event: what the words of its event say, which stand in the first k words.
-- Assumes nothing.
use Prim.Native.Nat.{◌+◌, ◌<◌, ◌≤◌, ℕ}
use mathlib.Core.Bool.{false, not, true}
use mathlib.Core.List.{List, map}
use mathlib.Core.Path.{◌∙◌, ◌≡◌, ap, sym}
use lib.ListN.{drop, get_or, take}
use lib.Seq.{get_or-drop, get_or-take}
use native.Mathlib.Omega.{arith}
use borrow.Author.Tests.{ltb-true}
use Rattle.theory_graph.proofs.Booleans.{on_bool}
use Rattle.theory_timeline.proofs.Acceptance.{sound_changes}
use Rattle.theory_timeline.proofs.EventLaws.{asks_changes}
use Rattle.theory_timeline.proofs.TagLaws.{tag_says, word_change, word_none, words_at}
use Rattle.theory_timeline.specs.Steps.{Sound}
use Rattle.theory_timeline.specs.Tags.{ends_at, event_words, tag, word}
use Rattle.theory_timeline.specs.Windows.{Timeline, active, asks_at, event, size}
use Rattle.replay_step.proofs.LoadLaws.{event_nodes}
use Rattle.replay_step.specs.Area.{EventsIn, span}
use Rattle.replay_step.specs.declared.Window.{Window}

module _ (w : Window) (one : w.events ≡ 1) (k : ℕ) (v : List ℕ) (low : 5 ≤ k) (g : Timeline) (sound : Sound g) (i : w.at < size g) (σ : ℕ → ℕ) (a : EventsIn g (span w) σ (take k v)) where
  -- the tag of its event
  first_word : get_or v 2 0 ≡ word g 0 w.at
  first_word =
      let z : w.at + 0 ≡ w.at = omega arith in
      let W = a.words in
      let x : take 3 (drop 2 (take k v)) ≡ event_words g w.at 1 = rw one at W in
      sym (get_or-take k v 2 0 (omega arith)) ∙ sym (get_or-take 3 (drop 2 (take k v)) 0 0 (omega arith) ∙ get_or-drop 2 (take k v) 0 0)
      ∙ ap (λ l. get_or l 0 0) x ∙ words_at g w.at 1 0 0 (omega arith) (omega arith) ∙ ap (word g 0) z

  pub leaf_changes : ¬ (get_or v 2 0 ≡ 0) → asks_at g w.at ≡ false
  leaf_changes h = on_bool (asks_at g w.at)
      (λ q. absurd (h (first_word ∙ word_none g w.at 0 (asks_changes g.junctions (event g w.at) q))))
      (λ q. q)

  pub leaf_asks : get_or v 2 0 ≡ 0 → asks_at g w.at ≡ true
  leaf_asks z = on_bool (asks_at g w.at) (λ q. q) (λ q.
      let t = ltb-true 0 (tag g w.at) (tag_says g w.at).change in
      let c = sound_changes g sound w.at (omega arith) ∙ ap not q in
      absurd (omega (arith, first_word, (word_change g w.at c).0)))

  -- its two nodes
  pub leaf_nodes : (get_or v 0 0 ≡ σ (ends_at g w.at).0) × (get_or v 1 0 ≡ σ (ends_at g w.at).1)
  leaf_nodes =
      let z : w.at + 0 ≡ w.at = omega arith in
      let P = a.places in
      let x : take 2 (take k v) ≡ map σ (active g (w.at, 1)) = rw one at P in
      let (e, f) = event_nodes g σ w.at 1 0 (omega arith) (omega arith) in
      let read : (d : ℕ) → d < 2 → get_or v d 0 ≡ get_or (map σ (active g (w.at, 1))) d 0 =
      λ d h. sym (get_or-take k v d 0 (omega arith)) ∙ sym (get_or-take 2 (take k v) d 0 h) ∙ ap (λ (u : List ℕ). get_or u d 0) x in (
        read 0 (omega arith) ∙ e ∙ ap (λ (k : ℕ). σ (ends_at g k).0) z,
        read 1 (omega arith) ∙ f ∙ ap (λ (k : ℕ). σ (ends_at g k).1) z,
      )
