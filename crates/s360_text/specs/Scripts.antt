-- Why a script is not carried out to its end (own profile).
use Rattle.s360_text.specs.declared.reading.ReadFault.{ReadFault}
use Rattle.s360_text.specs.declared.reading.ReadFault.TheVariants as read
use Rattle.s360_text.specs.declared.script_fault.ScriptFault.{ScriptFault}
use Rattle.s360_text.specs.declared.script_fault.ScriptFault.TheVariants as script

-- what a fault of reading a script is
abbrev pub fault_of_read : ReadFault → ScriptFault
fault_of_read read.Failed = script.Read
fault_of_read read.TooLong = script.TooLong
fault_of_read read.Memory = script.Memory
