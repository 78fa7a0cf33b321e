-- The five classes of interruptions, and the permanent storage locations of their old and new PSWs
-- (GA22-6821, "Interruptions", and "System Structure", permanent storage assignment). Addresses are decimal.
use Rattle.std.specs.Prelude.{ℕ}
use Rattle.s360_psw.specs.declared.class.Class.{Class}
use Rattle.s360_psw.specs.declared.class.Class.TheVariants.{External, Supervisor, Program, MachineCheck, InputOutput}

-- where an interruption stores the PSW
abbrev pub old_location_of : Class → ℕ
old_location_of External = 24
old_location_of Supervisor = 32
old_location_of Program = 40
old_location_of MachineCheck = 48
old_location_of InputOutput = 56

-- where it takes the next one from
abbrev pub new_location_of : Class → ℕ
new_location_of External = 88
new_location_of Supervisor = 96
new_location_of Program = 104
new_location_of MachineCheck = 112
new_location_of InputOutput = 120
