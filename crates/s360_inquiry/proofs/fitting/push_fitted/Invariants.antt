use Rattle.std.proofs.Common.{◌≡◌, ◌++◌, drop, length}
use Rattle.s360_inquiry.specs.Fitting.{fitted}
use Rattle.s360_inquiry.proofs.fitting.push_fitted.Given as goal

abbrev pub invariant-loop-index : goal.invariant-loop-index
invariant-loop-index l =
    l.line ++ fitted (length l.line) (drop l.index l.items) ≡ l.initial.line ++ fitted (length l.initial.line) l.items
