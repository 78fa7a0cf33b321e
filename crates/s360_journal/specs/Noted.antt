-- An event as it was recorded (kept).
use Rattle.std.specs.Prelude.{Option, Some, None, option_map}
use Rattle.s360_word.specs.declared.unit.Unit.{Unit as UnitAddress}
use Rattle.s360_machine.specs.declared.event.Event.{Event}
use Rattle.s360_machine.specs.declared.event.Event.TheVariants.{Cpu, Channel, Tick, Key}
use Rattle.s360_machine.specs.declared.operator.Key.TheVariants.{Load}
use Rattle.s360_journal.specs.declared.noted.Noted.{Noted}
use Rattle.s360_journal.specs.declared.noted.Noted.TheVariants.{Cpu as cpu, Channel as channel, Tick as tick, Load as load, Other as other}
use Rattle.s360_journal.specs.declared.noted.Tag.{Tag}
use Rattle.s360_journal.specs.declared.noted.Tag.TheVariants.{Cpu as cpu_tag, Channel as channel_tag, Tick as tick_tag, Load as load_tag, Other as other_tag}

abbrev pub event_noted : Noted → Event
event_noted cpu = Cpu
event_noted (channel u) = Channel u
event_noted tick = Tick
event_noted (load u) = Key (Load u)
event_noted (other e) = e.now

-- the event of a tag, with the unit and the whole event that are the nearest apart
abbrev pub event_of_tag : Option Tag → Option UnitAddress → Option Event → Option Event
event_of_tag (Some cpu_tag) u e = Some Cpu
event_of_tag (Some tick_tag) u e = Some Tick
event_of_tag (Some channel_tag) u e = option_map (λ v. Channel v) u
event_of_tag (Some load_tag) u e = option_map (λ v. Key (Load v)) u
event_of_tag (Some other_tag) u e = e
event_of_tag None u e = None
