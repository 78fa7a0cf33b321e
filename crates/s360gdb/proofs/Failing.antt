-- What the program ends with is what one of its parts does.
use Rattle.std.proofs.Common.{◌≡◌, inl, inr, subst, sym, Result, Ok, Err, IfErr}
use Rattle.s360_setup.specs.declared.failure.Failure.{Failure}
use Rattle.s360gdb.specs.Failures.{IsRunFailure, IsServingAfterFailure, IsServingFailure}

pub is_run_failure : (failure : Failure) → IsServingAfterFailure failure → IsRunFailure failure
is_run_failure failure (inl of_script) = inr (inl (inr of_script))
is_run_failure failure (inr of_serving) = inr (inr of_serving)

pub after_script : {A : Type 0} (r : Result A Failure) (failure : Failure) → r ≡ Err failure → IsServingFailure failure → IfErr r IsServingAfterFailure
after_script (Ok x) failure is h = tt
after_script (Err f) failure is h = let same : f ≡ failure = cc in inr (subst (λ x. IsServingFailure x) (sym same) h)
