-- The commands that every device has (GA22-6821, "Input/Output Operations", commands).
use Rattle.std.specs.Prelude.{ℕ, nat_eq, if◌then◌else◌}
use Rattle.s360_device.specs.declared.command_code.CommandCode.{CommandCode}
use Rattle.s360_device.specs.declared.command_code.CommandCode.TheVariants.{NoOperation, Sense, Own}

-- 03 is no-operation and 04 is sense; every other code is the device's own
abbrev pub command_of : ℕ → CommandCode
command_of code = if nat_eq code 0x03 then NoOperation else (if nat_eq code 0x04 then Sense else Own code)
