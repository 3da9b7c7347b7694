-- What a window promises: what is written of its events, and the nodes of the graphs of it and of all windows below it.
-- In order: either replay; the replay's own.
-- Assumes nothing: these are definitions, and a law that they have.
use Rattle.std.specs.Prelude.{◌*◌, ◌+◌, ◌-◌, ◌≤◌, ℕ, List, map, ◌≡◌}
use Rattle.std.proofs.Common.{◌∙◌, ap₂, arith, refl, sym}
use Rattle.std.proofs.lemmas.List.Edits.{sets}
use Rattle.theory_graph.specs.Lists.{sum, table}
use Rattle.theory_timeline.specs.DemandThree.{Allowed}
use Rattle.theory_timeline.specs.Replay.{byte, name_at}
use Rattle.theory_timeline.specs.Steps.{Sound}
use Rattle.theory_timeline.specs.Windows.{Timeline, first_part, size, small, windows_from}
use Rattle.replay_step.proofs.AreaCounts.{area_small}
use Rattle.replay_step.proofs.ShareLaws.{shares, sum_two}
use Rattle.replay_step.proofs.WordLaws.{sets_parts}
use Rattle.replay_step.specs.Area.{SmallArea, WindowReadyOf}
use Rattle.replay_step.specs.Reduction.{words_of}
use Rattle.replay_step.specs.declared.Window.{Window}

-- ---- either replay
-- What is written of events, in tables that are a T: `Long e` says that they have an entry for each event before the e-th, `Same` that they are the same tables with
-- other entries, and `Wrote g p at n before after kept` that the replies of the n events from `at` on are written, and that kept counts the nodes of their window
-- and of all below it by the share p. Of no events nothing is written; the
-- two parts of a window with an area B make up its replies.
pub record WritesParts {T : Type 0} (B : Timeline → Window → List ℕ → Type 0) (Long : ℕ → T → Type 0) (Same : T → T → Type 0)
    (Wrote : Timeline → ℕ → ℕ → ℕ → T → T → ℕ → Type 0) : Type 0 where
  pub shorter : (d e : ℕ) (t : T) → d ≤ e → Long e t → Long d t
  pub as_long : (e : ℕ) (t u : T) → Same t u → Long e t → Long e u
  pub still : (t u v : T) → Same t u → Same u v → Same t v
  pub nothing : (g : Timeline) (p : ℕ) (t : T) → Same t t × Wrote g p 0 0 t t 0
  pub both : (g : Timeline) → Sound g → (p : ℕ) → Allowed p → (w : Window) (v : List ℕ) → 2 ≤ w.events → B g w v → (c : ℕ) → c ≡ first_part p w.events
      → (before mid after : T) (b k : ℕ) → Wrote g p w.at c before mid b → Wrote g p (w.at + c) (w.events - c) mid after k
      → Wrote g p w.at w.events before after (w.nodes + b + k)

-- a window whose area is at the front of the words, and tables that are long enough for its events
abbrev pub WindowReady : {T : Type 0} → (Timeline → Window → List ℕ → Type 0) → (words window : ℕ) → (ℕ → T → Type 0) → Window → ℕ → T → List ℕ → Type 0
WindowReady B words window Long w p t work = WindowReadyOf B (words_of words) (words_of window) w p work × Long (w.at + w.events) t

-- the replies of a window are written, whose area is the words v
pub record WindowDone {T : Type 0} (B : Timeline → Window → List ℕ → Type 0) (Same : T → T → Type 0) (Wrote : Timeline → ℕ → ℕ → ℕ → T → T → ℕ → Type 0)
    (w : Window) (p : ℕ) (v : List ℕ) (before after : T) (kept : ℕ) : Type 0 where
  pub few : kept + 16384 ≤ 32768 * w.events
  pub same : Same before after
  pub replied : (g : Timeline) → Sound g → w.at + w.events ≤ size g → B g w v → Wrote g p w.at w.events before after kept

-- ---- the replay's own
-- the two tables that the windows write, as they are before or afterwards
pub record Written : Type 0 where
  pub answers : List ℕ
  pub names : List ℕ

abbrev pub written : List ℕ → List ℕ → Written
written answers names = record { answers = answers; names = names }

-- the bytes and the names of n events from `at` on are written; kept counts their window and all windows below it
pub record Replied (g : Timeline) (at n p : ℕ) (before after : Written) (k : ℕ) : Type 0 where
  pub answers : after.answers ≡ sets before.answers at (table (byte g) at n)
  pub names : after.names ≡ sets before.names at (table (name_at g) at n)
  pub kept : k ≡ sum (map (λ w. (small g w).nodes) (windows_from p n at n))

-- those of no events
pub replied_none : (g : Timeline) (p : ℕ) (t : Written) → Replied g 0 0 p t t 0
unfolding windows_from
replied_none g p t = record { answers = refl; names = refl; kept = refl }

-- those of a window are those of its two parts
pub replied_both : (g : Timeline) (p : ℕ) → Allowed p → (w : Window) (v : List ℕ) → 2 ≤ w.events → SmallArea g w v → (c : ℕ) → c ≡ first_part p w.events
    → (before mid after : Written) (b k : ℕ) → Replied g w.at c p before mid b → Replied g (w.at + c) (w.events - c) p mid after k
    → Replied g w.at w.events p before after (w.nodes + b + k)
replied_both g p s w v two a c e before mid after b k u x =
    let h = shares p w.events two s in
    let l : c ≤ w.events = omega (arith, e, h.less) in
    record {
      answers = sets_parts (byte g) w.at w.events c l before.answers u.answers x.answers;
      names = sets_parts (name_at g) w.at w.events c l before.names u.names x.names;
      kept = ap₂ (λ (a b : ℕ). a + b) (ap₂ (λ (a b : ℕ). a + b) (area_small a (omega arith)) u.kept) x.kept
          ∙ sym (sum_two p s (λ w. (small g w).nodes) w.at w.events c two e);
    }
