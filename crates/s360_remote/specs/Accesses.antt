-- The bytes that an event reads or stores, for watches that wait for that (gdb manual, "Setting Watchpoints"). What an event reads is what decides
-- it and what it makes values of, as its footprint has these.
use Rattle.std.specs.Prelude.{ℕ, Bool, false, not, ◌&&◌, ◌||◌, ◌+◌, nat_le, nat_lt, List, ◌++◌, length, flat_map, Option}
use Rattle.std.specs.List.{filter, find, fold, list_any, range_with_len}
use Rattle.s360_packet.specs.declared.request.Watchpoint.{Watchpoint}
use Rattle.s360_packet.specs.declared.request.Watchpoint.TheVariants.{Write, Read, Access}
use Rattle.s360_model.specs.Psw.{instruction_address_of}
use Rattle.s360_store.specs.Places.{same_place}
use Rattle.s360_store.specs.declared.place.Place.{Place}
use Rattle.s360_store.specs.declared.place.Place.TheVariants.{Byte}
use Rattle.s360_machine.specs.declared.event.Event.{Event}
use Rattle.s360_machine.specs.declared.event.Event.TheVariants.{Cpu}
use Rattle.s360_machine.specs.Machine.{Machine}
use Rattle.s360_journal.specs.Recorded.{Recorded, session_of}
use Rattle.s360_journal.specs.Standing.{Standing, machine_of}
use Rattle.s360_footprint.specs.EventRows.{deciders, sources}
use Rattle.s360_inquiry.specs.Changes.{event_next}
use Rattle.s360_inquiry.specs.Happenings.{fetched_bytes}
use Rattle.s360_inquiry.specs.Stores.{stored_by}
use Rattle.s360_remote.specs.declared.points.Met.{Met}
use Rattle.s360_remote.specs.Points.{Watched, bytes_altered, with_byte}

-- the places that an event reads, and those that it stores into
pub record Accesses : Type 0 where
  pub read : List Place
  pub stored : List Place

-- a byte of the instruction at an address
abbrev pub is_within : Machine → ℕ → Place → Bool
is_within m first (Byte at) =
    nat_lt first (length m.core.storage.bytes) && (nat_le first at && nat_lt at (first + length (fetched_bytes m.core.storage first)))
is_within m first other = false

-- to fetch an instruction is no reading
abbrev pub is_fetched : Machine → Event → Place → Bool
is_fetched m Cpu p = is_within m (instruction_address_of m.core.psw) p
is_fetched m other p = false

abbrev pub places_read : Machine → Event → List Place
places_read m e = filter (λ p. not (is_fetched m e p)) (deciders m e ++ flat_map (sources m e) (stored_by m e))

unfoldable pub accesses_of : Machine → Event → Accesses
accesses_of m e = record { read = places_read m e; stored = stored_by m e }

-- of the next event of a record
abbrev pub accesses_next : Recorded → Accesses
accesses_next r = accesses_of (machine_of (session_of r)) (event_next r)

-- a byte is accessed as a watch waits for
abbrev pub has_place : List Place → ℕ → Bool
has_place places at = list_any (λ p. same_place p (Byte at)) places

abbrev pub is_accessed : Accesses → Watchpoint → ℕ → Bool
is_accessed x Write at = false
is_accessed x Read at = has_place x.read at
is_accessed x Access at = has_place x.read at || has_place x.stored at

abbrev pub byte_accessed : Accesses → Watchpoint → List ℕ → Option ℕ
byte_accessed x watchpoint bytes = find (λ at. is_accessed x watchpoint at) bytes

abbrev pub with_accessed : Accesses → List Met → Watched → List Met
with_accessed x told w = with_byte told w (byte_accessed x w.watchpoint (range_with_len w.at w.count))

-- the watched bytes that gdb is told of: those that the last change altered, and then those that it read or stored
abbrev pub bytes_met : Accesses → Standing → List Watched → List Met
bytes_met x s watches = fold (λ told w. with_accessed x told w) (bytes_altered s watches) watches
