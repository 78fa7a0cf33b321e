-- Command lines whose meaning is known, which the definitions have to give.
use Rattle.std.proofs.Common.{◌≡◌, refl, true, false, List, [], ◌∷◌, Some, None, codes}
use Rattle.clap.specs.Faults.{fault_of}
use Rattle.clap.specs.Walk.{Text}
use Rattle.clap.specs.declared.error.kind.ErrorKind.TheVariants.{ArgumentConflict, TooManyValues}
use Rattle.clap.proofs.OnLiterals.{clap_on_literals}
use Rattle.s360_setup.specs.CommandLine.{command_line, given, has_flag}
use Rattle.s360_setup.specs.declared.program.Program.TheVariants.{Debugger}

-- s360dbg --protect0 --tape1 a b
abbrev protected_and_named : List Text
protected_and_named = codes "s360dbg" ∷ codes "--protect0" ∷ codes "--tape1" ∷ codes "a" ∷ codes "b" ∷ []

pub gives_what_it_names : (fault_of (command_line Debugger) protected_and_named ≡ []) × (given Debugger (codes "tape0") protected_and_named ≡ None)
    × (given Debugger (codes "tape1") protected_and_named ≡ Some (codes "a")) × (given Debugger (codes "script") protected_and_named ≡ Some (codes "b"))
unfolding command_line given clap_on_literals
gives_what_it_names = (refl, refl, refl, refl)

pub protects_what_it_names : (has_flag Debugger (codes "protect0") protected_and_named ≡ true) × (has_flag Debugger (codes "protect1") protected_and_named ≡ false)
unfolding command_line has_flag clap_on_literals
protects_what_it_names = (refl, refl)

-- s360dbg -- --protect0
pub a_script_may_have_the_name : (has_flag Debugger (codes "protect0") (codes "s360dbg" ∷ codes "--" ∷ codes "--protect0" ∷ []) ≡ false)
    × (given Debugger (codes "script") (codes "s360dbg" ∷ codes "--" ∷ codes "--protect0" ∷ []) ≡ Some (codes "--protect0"))
unfolding command_line given has_flag clap_on_literals
a_script_may_have_the_name = (refl, refl)

-- s360dbg --protect1 --protect1, s360dbg --tape0 a --tape0=b and s360dbg --protect0=yes
pub faults_of_options : (fault_of (command_line Debugger) (codes "s360dbg" ∷ codes "--protect1" ∷ codes "--protect1" ∷ []) ≡ ArgumentConflict ∷ [])
    × (fault_of (command_line Debugger) (codes "s360dbg" ∷ codes "--tape0" ∷ codes "a" ∷ codes "--tape0=b" ∷ []) ≡ ArgumentConflict ∷ [])
    × (fault_of (command_line Debugger) (codes "s360dbg" ∷ codes "--protect0=yes" ∷ []) ≡ TooManyValues ∷ [])
unfolding command_line clap_on_literals
faults_of_options = (refl, refl, refl)
