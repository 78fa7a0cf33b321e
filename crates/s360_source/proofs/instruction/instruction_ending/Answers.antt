use Rattle.std.proofs.Common.{◌∙◌, ap}
use Rattle.s360_logic.specs.Instruction.{instruction}
use Rattle.s360_machine.specs.Machine.{seen}
use Rattle.s360_source.proofs.InstructionLemmas.{ending-is, ending-refused}
use Rattle.s360_source.proofs.instruction.instruction_ending.Goals as goal

pub returns-in_ok-planned-in-Ok : goal.returns-in_ok-planned-in-Ok
returns-in_ok-planned-in-Ok c =
    ending-is (seen c.args.machine.now.whole) _ (c.in_ok-planned-in-Ok.ensures.plans.ends ∙ ap (λ m. (instruction m).outcome.ended) c.in-Ok.ensures.ok)

pub returns-in-Err : goal.returns-in-Err
returns-in-Err c = ending-refused (seen c.args.machine.now.whole) _ c.in-Err.ensures.err
