use Rattle.s360_fixed.specs.Operands.{storage_operand}
use Rattle.s360_fixed.proofs.OperandLemmas.{combination_outcome-used}
use Rattle.s360_fixed.proofs.planner.put_combined_at.Goals as goal

pub returns-in-Ok : goal.returns-in-Ok
returns-in-Ok g c =
    rw (combination_outcome-used c.args.combination c.args.view.now c.args.r1 c.in-Ok.second (storage_operand c.args.view.now.core c.args.second c.args.address) c.in-Ok.ensures.none c.in-Ok.ensures.value)
    c.put_combined.ensures
