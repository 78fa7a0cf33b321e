-- The failures that the program ends with once its command line is read (own profile).
use Rattle.std.specs.Prelude.{◌⊎◌}
use Rattle.s360_setup.specs.declared.failure.Failure.{Failure}
use Rattle.s360_setup.specs.Failures.{IsSetUpFailure, IsAnsweringFailure}

abbrev pub IsRunFailure : Failure → Type 0
IsRunFailure failure = IsSetUpFailure failure ⊎ IsAnsweringFailure failure
