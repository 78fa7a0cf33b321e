-- The word of a unit's program as a walk has it, and what is found of a channel event by it (ours).
use Rattle.std.specs.Prelude.{ℕ, ◌≡◌, ◌+◌, ◌-◌, Bool, false, not, ◌&&◌, nat_eq, nat_le, if◌then◌else◌, Option, Some, None, is_some, List, [], ◌∷◌, ◌++◌}
use Rattle.std.specs.Prelude.{length, flat_map}
use Rattle.s360_model.specs.Storage.{Storage}
use Rattle.s360_store.specs.declared.place.Place.{Place}
use Rattle.s360_store.specs.declared.place.Place.TheVariants.{Psw, Run}
use Rattle.s360_store.specs.declared.protection.{Access.Access, Checked.Checked}
use Rattle.s360_store.specs.Spans.{byte_places}
use Rattle.s360_device.specs.declared.device.Begin.{Begin}
use Rattle.s360_channel.specs.declared.{configured_unit.ConfiguredUnit.ConfiguredUnit, csw.Csw.Csw, fetching.Fetched.Fetched}
use Rattle.s360_channel.specs.declared.{program.Program.Program, unit_state.UnitState.UnitState}
use Rattle.s360_channel.specs.{ConfiguredUnits.control_of, Differences.state_place}
use Rattle.s360_channel.specs.Execution.{DeviceView, Execution, WordAtHand, access_of, channel_execution, input_transfer}
use Rattle.s360_channel.specs.Execution.{Run as StoredRun}
use Rattle.s360_machine.specs.Differences.{media_place}
use Rattle.s360_machine.specs.Loading.{has_loaded}
use Rattle.s360_machine.specs.Machine.{Machine}
use Rattle.s360_footprint.specs.ChannelReadings.{Fetching, begun_met, begun_read, input_bytes, lowest_of, next_ccw_read, output_of, word_met, word_read}
use Rattle.s360_footprint.specs.ChannelRows.{device_seen, zeros}
use Rattle.s360_footprint.specs.OperandReadings.{bytes_read, profile_of}
use Rattle.s360_footprint.specs.Readings.{Reading, places_read, run}
use Rattle.s360_footprint.specs.Values.{device_of}
use Rattle.s360_source.specs.declared.channel_moves.{Extent.Extent, Movement.Movement}
use Rattle.s360_source.specs.declared.channel_word.{ChannelWord.ChannelWord, Moved.Moved}
use Rattle.s360_source.specs.declared.question.Question.{Question}
use Rattle.s360_source.specs.Parts.{places_of_part}
use Rattle.s360_source.specs.Walks.{with_bytes, with_decided, with_store}

-- the bytes that a word of an input would store, or one of an output fetch
abbrev pub input_movement : WordAtHand → ℕ → Movement
input_movement w total =
    let bytes : List ℕ = input_bytes w total
    in record { kind = Access.Store; lowest = lowest_of w bytes; count = length bytes; goes_on = (input_transfer w.ccw (total - w.moved)).goes_on }

abbrev pub output_movement : WordAtHand → ℕ → Movement
output_movement w limit =
    record { kind = Access.Fetch; lowest = Some w.ccw.address; count = (output_of w limit).count; goes_on = (output_of w limit).goes_on }

-- so many bytes where they are in storage of a size, and else none
abbrev pub extent_in : ℕ → Option ℕ → ℕ → Extent
extent_in size None count = record { address = 0; count = 0 }
extent_in size (Some address) count =
    if not (nat_eq count 0) && nat_le (address + count) size then record { address = address; count = count } else record { address = 0; count = 0 }

-- unless a check is met; and then none of the bytes moves, and no command ends
abbrev pub if_clear : Checked → Extent → Option Extent
if_clear Checked.Clear x = Some x
if_clear met x = None

abbrev pub moving_of : Storage → ℕ → Movement → Option Extent
moving_of s key y = if_clear (access_of s key y.kind y.count y.lowest) (extent_in (length s.bytes) y.lowest y.count)

abbrev pub IsMoving : Option Extent → Movement → Extent → Bool → Type 0
IsMoving (Some moving) y x ends = (x ≡ moving) × (ends ≡ not y.goes_on)
IsMoving None y x ends = (x ≡ record { address = 0; count = 0 }) × (ends ≡ false)

-- the extent of the bytes that are stored
abbrev pub IsExtentOf : Option StoredRun → Extent → Type 0
IsExtentOf None x = x.count ≡ 0
IsExtentOf (Some r) x = (x.address ≡ r.at) × (x.count ≡ length r.bytes)

-- what a word does with bytes, by the readings of what they meet and of what is executed then, which is told with zeros for what an output fetches
pub record IsMoved (m : Machine) (met : Reading Checked) (executed : Fetching → Checked → Reading Execution) (x : Moved) : Type 0 where
  pub keys : places_of_part x.keys ≡ places_read met m
  pub fetched : places_of_part x.fetched ≡ places_read (executed bytes_read (run met m)) m
  pub stored : IsExtentOf (run (executed zeros (run met m)) m).stores x.stored
  pub ends : x.ends ≡ is_some (run (executed zeros (run met m)) m).ending

-- by how its device begins its command; and where it was found so
abbrev pub IsMovedBy : Machine → WordAtHand → Begin → Moved → Type 0
IsMovedBy m w begin x = IsMoved m (begun_met (profile_of m.core) w begin) (λ fetch met. begun_read fetch w met begin) x

abbrev pub IsMovedAt : Machine → DeviceView → Program → Fetched → Moved → Type 0
IsMovedAt m d program f x = IsMoved m (word_met (profile_of m.core) d program f) (λ fetch met. word_read fetch d program f met) x

-- the status with which a program has ended
abbrev pub status_of : UnitState → Option Csw
status_of (UnitState.Waiting csw) = Some csw
status_of other = None

-- what the word of a unit does over a device, and whether it ends loading
pub record IsExecuted (d : DeviceView) (u : ConfiguredUnit) (program : Program) (m : Machine) (x : Moved) (ends : Bool) : Type 0 where
  pub moved : IsMovedAt m d program (run (next_ccw_read (profile_of m.core) program) m) x
  pub loads : (p : Program) (s : UnitState) → status_of s ≡ status_of (channel_execution d m.core.storage program).state
      → ends ≡ has_loaded m.control.run_state u (UnitState.Active p) s

pub record IsChannelWord (program : Program) (m : Machine) (x : ChannelWord) : Type 0 where
  pub active : (control_of m.units x.unit).state ≡ UnitState.Active program
  pub words : places_of_part x.word ++ places_of_part x.target ≡ places_read (next_ccw_read (profile_of m.core) program) m
  pub executed : IsExecuted (device_seen x.unit (device_of x.unit m.media)) x.unit program m x.moved x.loads

-- what it makes is made of how the unit stands, the device and the bytes that an output fetches
abbrev pub word_sources : ChannelWord → List Place
word_sources x = state_place x.unit ∷ (media_place x.unit ∷ places_of_part x.moved.fetched)

-- its stores: bytes, the device after a command that ends, and how the unit stands, for which the words are looked at again
abbrev pub device_stores : Question → ChannelWord → List Place → List Place
device_stores question x found = if x.moved.ends then with_store question (media_place x.unit) (media_place x.unit ∷ word_sources x) found else found

abbrev pub word_stores : Question → ChannelWord → List Place → List Place
word_stores question x found =
    with_store question (state_place x.unit) (state_place x.unit ∷ (places_of_part x.word ++ (places_of_part x.target ++ word_sources x)))
    (device_stores question x (with_bytes question x.moved.stored.address x.moved.stored.count (word_sources x) found))

-- with what is looked at for it; and then the run state and, where loading ends, the address of the unit
abbrev pub word_deciders : ChannelWord → List Place
word_deciders x =
    places_of_part x.word
    ++ (places_of_part x.target
    ++ (media_place x.unit ∷ (places_of_part x.moved.keys ++ (state_place x.unit ∷ (media_place x.unit ∷ [])))))

abbrev pub word_walk : Question → ChannelWord → List Place → List Place
word_walk question x found =
    with_bytes question 2 (if x.loads then 2 else 0) []
    (with_decided question (Run ∷ []) (word_stores question x (with_decided question (word_deciders x) found)))

-- the end of loading: what it reads is followed back through the word
abbrev pub followed_back : ChannelWord → List Place → List Place
followed_back x ps = flat_map (λ p. word_walk (Question.Sources p) x (p ∷ [])) ps

abbrev pub loading_walk : Question → ChannelWord → List Place → List Place
loading_walk question x found =
    with_store question (state_place x.unit) (followed_back x (state_place x.unit ∷ []))
    (with_store question Run [] (with_store question Psw (followed_back x (byte_places 0 8)) found))

abbrev pub channel_walk : Question → ChannelWord → List Place → List Place
channel_walk question x found = if x.loads then loading_walk question x (word_walk question x found) else word_walk question x found
