use Rattle.std.proofs.Common.{◌≡◌, drop}
use Rattle.s360_condition.specs.Evaluation.{run, value_of}
use Rattle.s360_condition.proofs.expression.Expression.evaluate.Given as goal

abbrev pub invariant-loop-placed : goal.invariant-loop-placed
invariant-loop-placed g l =
    run (g.T.Readable.target_of l.target) (drop l.placed-index l.placed-items) l.pc l.stack ≡ value_of (g.T.Readable.target_of l.target) l.placed-items
