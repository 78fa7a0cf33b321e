use Rattle.std.proofs.Common.{◌≤◌, ◌+◌, arith, length, sym}
use Rattle.s360_debug.proofs.Runs.{Answered-skip, Answered-more, Answered-cut, Answered-bound}
use Rattle.s360_debug.proofs.run.answer_script.Goals as goal

pub overflow_add-count : goal.overflow_add-count
overflow_add-count g c =
    let bound : c.loop-line.count + length c.loop-line.lines ≤ length c.args.script.now + 1
    = Answered-bound _ _ _ _ _ _ _ c.loop-line.invariant
    in omega (arith, bound, c.requires)

pub loop-line-preserved-then-not-skips : goal.loop-line-preserved-then-not-skips
loop-line-preserved-then-not-skips g c =
    Answered-more _ _ _ _ _ _ _ _ c.in-Some.line.now _ (rw c.in-Some.ensures at c.loop-line.invariant) (sym c.if-not-skips.ensures)
    (rw (c.as_bytes.ensures, c.in_ok-text.ensures.text) at c.in_ok-write_whole.ensures.ok) c.in_ok-text.ensures.state

pub loop-line-preserved : goal.loop-line-preserved
loop-line-preserved g c =
    Answered-skip _ _ _ _ _ _ c.in-Some.line.now _ (rw c.in-Some.ensures at c.loop-line.invariant) (sym c.if-not-skips.ensures)

pub returns-in_err-write_whole-clause-write : goal.returns-in_err-write_whole-clause-write
returns-in_err-write_whole-clause-write g c = λ e.
    Answered-cut _ _ _ _ _ _ _ _ c.in-Some.line.now _ (rw c.in-Some.ensures at c.loop-line.invariant) (sym c.if-not-skips.ensures)
    (rw (c.as_bytes.ensures, c.in_ok-text.ensures.text) at c.in_err-write_whole.ensures.part) c.in_ok-text.ensures.state
