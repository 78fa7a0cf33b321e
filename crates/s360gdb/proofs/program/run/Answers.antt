use Rattle.std.proofs.Common.{inl, inr}
use Rattle.std.proofs.lemmas.Result.{IfErr-weaker}
use Rattle.s360_setup.proofs.CommandLineLemmas.{IfErr-passed_on}
use Rattle.s360gdb.specs.Failures.{IsRunFailure, IsServingAfterFailure}
use Rattle.s360gdb.proofs.Failing.{is_run_failure}
use Rattle.s360gdb.proofs.program.run.Goals as goal

pub returns-in_err-machine-clause-failure : goal.returns-in_err-machine-clause-failure
returns-in_err-machine-clause-failure c =
    IfErr-passed_on _ c.in_err-machine.field-0.0 IsRunFailure c.from_residual.ensures.1 (inl c.in_err-machine.ensures.failure)

pub returns-in_err-open-in-Some-clause-failure : goal.returns-in_err-open-in-Some-clause-failure
returns-in_err-open-in-Some-clause-failure c =
    IfErr-passed_on _ c.in_err-open-in-Some.field-0.0 IsRunFailure c.from_residual-in_err-open-in-Some.ensures.1 (inr (inl (inl c.in_err-open-in-Some.ensures)))

pub returns-in-None-clause-failure : goal.returns-in-None-clause-failure
returns-in-None-clause-failure c = IfErr-weaker _ IsServingAfterFailure IsRunFailure is_run_failure c.serve_on_output-in-None.ensures.failure

pub returns-in_ok-open-in-Some-clause-failure : goal.returns-in_ok-open-in-Some-clause-failure
returns-in_ok-open-in-Some-clause-failure c = IfErr-weaker _ IsServingAfterFailure IsRunFailure is_run_failure c.serve_on_output.ensures.failure
