use Rattle.std.proofs.Common.{length}
use Rattle.s360_debug.specs.Debugger.{new_debugger}
use Rattle.s360_debug.specs.Lines.{lines_of}
use Rattle.s360_debug.proofs.Runs.{Answered}
use Rattle.s360_debug.proofs.run.answer_script.Given as goal

abbrev pub invariant-loop-line : goal.invariant-loop-line
invariant-loop-line g l =
    Answered (g.W.Write.contents l.initial.writer) (g.W.Write.contents l.writer)
    (new_debugger l.initial.session) (record { session = l.session; breaks = l.breaks }) (lines_of l.script) l.lines l.count

abbrev pub decreases-loop-line : goal.decreases-loop-line
decreases-loop-line g l = length l.lines
