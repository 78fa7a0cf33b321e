-- What a command asks for (own profile).
use Rattle.std.specs.Prelude.{Option, Some, None}
use Rattle.s360_machine.specs.declared.event.Event.{Event}
use Rattle.s360_machine.specs.declared.event.Event.TheVariants.{Cpu, Channel as channel, Tick as tick, Key as key_event, Patch as patch}
use Rattle.s360_language.specs.declared.command.Command.{Command}
use Rattle.s360_language.specs.declared.command.Command.TheVariants.{Step, Channel, Tick, Key, Patch}

-- the one event that a command offers, if it offers one
abbrev pub event_of : Command → Option Event
event_of Step = Some Cpu
event_of (Channel unit) = Some (channel unit)
event_of Tick = Some tick
event_of (Key k) = Some (key_event k)
event_of (Patch p) = Some (patch p)
event_of c = None
