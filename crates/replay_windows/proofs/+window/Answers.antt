-- The moments of a window that is cut: the split, a step and a window for the first part, a step and a window for the second.
use native.Mathlib.Omega.{arith}
use Rattle.replay_windows.proofs.PartLaws.{done_one, done_two, first_long, first_ready, first_step, lent_fits, second_long, second_ready, second_step}
use Rattle.replay_windows.proofs.+window.Goals as goal

pub returns-then-n-eq1 : goal.returns-then-n-eq1
returns-then-n-eq1 g t c =
    done_one g.met.D.By.Reduction.reduces c.requires.0 c.if-n-eq1.true c.one.ensures.still c.one.ensures.replied

pub step-a-requires : goal.step-a-requires
step-a-requires g t c =
    first_step g.met.D.By.Reduction.reduces c.requires.0 c.WORDS.ensures c.if-n-eq1.false c.first_part-c.ensures

pub window-b-requires : goal.window-b-requires
window-b-requires g t c κs within =
    let o = g.met.D.By.Reduction.reduces in
    let r = c.requires.0 in
    let (a, b) = first_ready o r c.WORDS.ensures c.if-n-eq1.false c.first_part-c.ensures c.step-a.ensures c.step-a.auto.work in
    let l = first_long o r c.WORDS.ensures c.if-n-eq1.false c.first_part-c.ensures c.step-a.ensures c.step-a.auto.work in
    (omega (arith, a, c.decreases), (within.0, (within.1, (b, g.met.D.Replies.parts.shorter _ _ _ l c.requires.1))))

pub step-d-requires : goal.step-d-requires
step-d-requires g t c =
    second_step g.met.D.By.Reduction.reduces c.requires.0 c.WORDS.ensures c.if-n-eq1.false c.first_part-c.ensures c.step-a.ensures c.step-a.auto.work
    c.window-b.new.work (omega arith)

pub offset_bounds-work-q-2 : goal.offset_bounds-work-q-2
offset_bounds-work-q-2 g t c = omega (arith, lent_fits g.met.D.By.Reduction.reduces c.requires.0 c.WORDS.ensures)

pub slice_bounds-window-count-2 : goal.slice_bounds-window-count-2
slice_bounds-window-count-2 g t c = omega (arith, lent_fits g.met.D.By.Reduction.reduces c.requires.0 c.WORDS.ensures)

pub slice_bounds-window-start-2 : goal.slice_bounds-window-start-2
slice_bounds-window-start-2 g t c = omega (arith, lent_fits g.met.D.By.Reduction.reduces c.requires.0 c.WORDS.ensures)

pub window-e-requires : goal.window-e-requires
window-e-requires g t c κs within =
    let o = g.met.D.By.Reduction.reduces in
    let r = c.requires.0 in
    let m = g.met.D.Replies.parts in
    let (a, b) = second_ready o r c.WORDS.ensures c.if-n-eq1.false c.first_part-c.ensures c.step-a.ensures c.step-a.auto.work c.window-b.new.work c.step-d.ensures (omega arith) in
    let l = second_long o r c.WORDS.ensures c.if-n-eq1.false c.first_part-c.ensures c.step-a.ensures c.step-a.auto.work c.window-b.new.work c.step-d.ensures (omega arith) in
    (omega (arith, a, c.decreases), (within.0, (within.1, (b, m.as_long _ _ _ c.window-b.ensures.same (m.shorter _ _ _ l c.requires.1)))))

pub returns : goal.returns
returns g t c =
    done_two g.met.D.By.Reduction.reduces c.requires.0 c.WORDS.ensures c.if-n-eq1.false c.first_part-c.ensures c.step-a.ensures c.step-a.auto.work
    c.window-b.new.work c.step-d.ensures (omega arith) g.met.D.Replies.parts c.window-b.ensures c.window-e.ensures

-- kept is small enough for its two sums
pub overflow_add-result : goal.overflow_add-result
overflow_add-result g t c = omega (arith, (returns g t c).few, c.requires.0.much)

pub overflow_add-result-2 : goal.overflow_add-result-2
overflow_add-result-2 g t c = omega (arith, (returns g t c).few, c.requires.0.much)
