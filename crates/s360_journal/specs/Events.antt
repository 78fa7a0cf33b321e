-- Events in a byte each, with what some of them carry in lists apart (kept). In all three lists the one that is nearest to the present
-- comes first.
use Rattle.std.specs.Prelude.{◌≡◌, true, List, [], ◌∷◌, reverse}
use Rattle.s360_word.specs.declared.unit.Unit.{Unit as UnitAddress}
use Rattle.s360_machine.specs.declared.event.Event.{Event}
use Rattle.s360_machine.specs.declared.event.Event.TheVariants.{Cpu, Channel, Tick, Key}
use Rattle.s360_machine.specs.declared.operator.Key.TheVariants.{Load}
use Rattle.s360_journal.specs.declared.noted.Tag.{Tag}
use Rattle.s360_journal.specs.declared.noted.Tag.TheVariants.{Cpu as cpu, Channel as channel, Tick as tick, Load as load, Other as other}
use Rattle.s360_journal.specs.Parts.{Parts, spare_of}
use Rattle.s360_journal.specs.Timelines.{Timeline, stands_apart}

-- the events, of which channel events and loads have their units apart, and others stand apart whole
abbrev pub events_of : List Tag → List UnitAddress → List Event → List Event
events_of (cpu ∷ ts) us es = Cpu ∷ events_of ts us es
events_of (tick ∷ ts) us es = Tick ∷ events_of ts us es
events_of (channel ∷ ts) (u ∷ us) es = Channel u ∷ events_of ts us es
events_of (load ∷ ts) (u ∷ us) es = Key (Load u) ∷ events_of ts us es
events_of (other ∷ ts) us (e ∷ es) = e ∷ events_of ts us es
events_of ts us es = []

-- the lists have just what the events carry
abbrev pub AreEvents : List Tag → List UnitAddress → List Event → Type 0
AreEvents [] us es = (us ≡ []) × (es ≡ [])
AreEvents (cpu ∷ ts) us es = AreEvents ts us es
AreEvents (tick ∷ ts) us es = AreEvents ts us es
AreEvents (channel ∷ ts) (u ∷ us) es = AreEvents ts us es
AreEvents (load ∷ ts) (u ∷ us) es = AreEvents ts us es
AreEvents (other ∷ ts) us (e ∷ es) = (stands_apart e ≡ true) × AreEvents ts us es
AreEvents ts us es = ⊥

-- what is seen of lists of which the past stands
abbrev pub timeline_of : Parts Tag → Parts UnitAddress → Parts Event → Timeline
timeline_of tags units others = record {
  standing = reverse (events_of tags.past units.past others.past);
  rest = events_of tags.next units.next others.next;
  spare = record { events = spare_of tags; units = spare_of units; others = spare_of others };
}
