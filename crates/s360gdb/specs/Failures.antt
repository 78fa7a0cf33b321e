-- The failures that the program ends with once its command line is read (own profile).
use Rattle.std.specs.Prelude.{◌≡◌, ◌⊎◌}
use Rattle.s360_setup.specs.declared.failure.Stream.TheVariants.{Connection}
use Rattle.s360_setup.specs.declared.failure.Fault.TheVariants.{ReadFailed, WriteFailed}
use Rattle.s360_setup.specs.declared.failure.Failure.{Failure}
use Rattle.s360_setup.specs.declared.failure.Failure.TheVariants.{Memory, Stream}
use Rattle.s360_setup.specs.Failures.{IsSetUpFailure, IsAnsweringFailure, IsScriptFailure}

-- those that serving gdb ends with
abbrev pub IsServingFailure : Failure → Type 0
IsServingFailure failure = (failure ≡ Stream Connection ReadFailed) ⊎ ((failure ≡ Stream Connection WriteFailed) ⊎ (failure ≡ Memory))

-- those that carrying out a script and serving gdb after it ends with
abbrev pub IsServingAfterFailure : Failure → Type 0
IsServingAfterFailure failure = IsScriptFailure failure ⊎ IsServingFailure failure

-- those of the whole program
abbrev pub IsRunFailure : Failure → Type 0
IsRunFailure failure = IsSetUpFailure failure ⊎ (IsAnsweringFailure failure ⊎ IsServingFailure failure)
