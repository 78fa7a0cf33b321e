use Rattle.std.proofs.Common.{inl, inr}
use Rattle.std.proofs.lemmas.Result.{IfErr-weaker}
use Rattle.s360_setup.proofs.CommandLineLemmas.{IfErr-passed_on}
use Rattle.s360_setup.specs.Failures.{IsAnsweringFailure}
use Rattle.s360dbg.specs.Failures.{IsRunFailure}
use Rattle.s360dbg.proofs.program.run.Goals as goal

pub returns-in_err-machine-clause-failure : goal.returns-in_err-machine-clause-failure
returns-in_err-machine-clause-failure c =
    IfErr-passed_on _ c.in_err-machine.field-0.0 IsRunFailure c.from_residual.ensures.1 (inl c.in_err-machine.ensures.failure)

pub returns-clause-failure : goal.returns-clause-failure
returns-clause-failure c = IfErr-weaker _ IsAnsweringFailure IsRunFailure (λ _. inr) c.answer_script.ensures.failure
