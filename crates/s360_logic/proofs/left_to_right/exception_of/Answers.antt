use Rattle.std.proofs.Common.{◌∙◌, ap}
use Rattle.s360_store.specs.declared.protection.Checked.{Checked}
use Rattle.s360_fixed.specs.Operands.{conditions_of}
use Rattle.s360_fixed.specs.ProgramCodes.{program_code}
use Rattle.s360_logic.proofs.StepLemmas.{none-clear}
use Rattle.s360_logic.proofs.left_to_right.exception_of.Goals as goal

pub returns-clause-clear : goal.returns-clause-clear
returns-clause-clear c = none-clear _ c.args.operand c.args.functions (c.of_access.ensures ∙ ap (λ (met : Checked). program_code (conditions_of met)) c.and.ensures)
