-- An input/output instruction: what the channels look at, and what they store.
use Rattle.std.proofs.Common.{ℕ, ◌≡◌, ◌∙◌, ◌++◌, ◌||◌, Bool, true, false, cond, Option, Some, None, List, [], ◌∷◌, refl, ap, sym}
use Rattle.std.specs.Prelude.{is_some}
use Rattle.s360_model.specs.Storage.{word_at}
use Rattle.s360_word.specs.declared.unit.Unit.{Unit as UnitAddress}
use Rattle.s360_store.specs.declared.place.Place.{Place}
use Rattle.s360_store.specs.{Spans.byte_places, declared.place.Place.TheVariants.Psw}
use Rattle.s360_fixed.specs.declared.ended.IoOperation.{IoOperation}
use Rattle.s360_channel.specs.declared.{caw.Caw.Caw, configured_unit.ConfiguredUnit.ConfiguredUnit, io_instructions.IoResult.IoResult}
use Rattle.s360_channel.specs.declared.{program.Program.Program, unit_control.UnitControl.UnitControl}
use Rattle.s360_channel.specs.IoInstructions.{becomes, caw_location, started, with_code, with_status}
use Rattle.s360_channel.specs.Units.{idle_unit, is_active, is_waiting}
use Rattle.s360_channel.specs.Words.{asks_attention, caw_of, is_whole_caw, meets_program_check, no_channel_status, no_unit_status}
use Rattle.s360_channel.specs.declared.configured_unit.ConfiguredUnit.TheVariants.{Reader, Punch, Printer, Console, Tape0, Tape1}
use Rattle.s360_channel.specs.{ConfiguredUnits.active_beside, ConfiguredUnits.control_of, Programs.program_at}
use Rattle.s360_machine.specs.{InputOutput.io_result, Machine.Machine}
use Rattle.s360_footprint.specs.IoRows.{coded_psw, csw_stores, io_result_read, io_row, io_stores, of_unit, start_read, start_with_read, unit_and_address_word}
use Rattle.s360_footprint.specs.IoRows.{unit_stores}
use Rattle.s360_footprint.specs.Readings.{Reading, bind, done, places_read}
use Rattle.s360_footprint.specs.{ChannelReadings.next_ccw_read, InstructionRows.InstructionEnd, OperandReadings.number_read, OperandReadings.profile_of}
use Rattle.s360_footprint.specs.{Rows.Row}
use Rattle.s360_footprint.proofs.{OperandLemmas.number-is, ReadingLemmas.places-bind}
use Rattle.s360_source.specs.declared.question.Question.{Question}
use Rattle.s360_source.specs.EventWalks.{is_unavailable, units_named}
use Rattle.s360_source.specs.Walks.{walked, with_decided, with_store, with_stores_of}
use Rattle.s360_source.proofs.WalkLemmas.{decided_both, decided_none, stores-both, walked-bind}
use Rattle.s360_footprint.proofs.IoRowLemmas.{result-is}
use Rattle.s360_source.proofs.ReadingPlaces.{mapped}

-- an instruction of a unit
of-unit-places : (result : ConfiguredUnit → UnitControl → Option ConfiguredUnit → Reading IoResult) (u : ConfiguredUnit) (m : Machine)
    → places_read (of_unit result (Some u)) m ≡ units_named (Some u) ++ places_read (result u (control_of m.units u) (active_beside m.units u)) m
of-unit-places result Reader m = refl
of-unit-places result Punch m = refl
of-unit-places result Printer m = refl
of-unit-places result Console m = refl
of-unit-places result Tape0 m = refl
of-unit-places result Tape1 m = refl

unit-decided : (q : Question) (result : ConfiguredUnit → UnitControl → Option ConfiguredUnit → Reading IoResult) (u : ConfiguredUnit) (m : Machine)
    (ps found now after : List Place) → places_read (result u (control_of m.units u) (active_beside m.units u)) m ≡ ps
    → now ≡ with_decided q (units_named (Some u)) found → after ≡ with_decided q ps now
    → after ≡ with_decided q (places_read (of_unit result (Some u)) m) found
unit-decided q result u m ps found now after e h k =
    k ∙ ap (with_decided q ps) h ∙ decided_both q (units_named (Some u)) ps found
    ∙ ap (λ xs. with_decided q xs found) (sym (of-unit-places result u m ∙ ap (λ xs. units_named (Some u) ++ xs) e))

-- START I/O
pub first-places : (u : ConfiguredUnit) (caw : Caw) (m : Machine) (z : Bool) → z ≡ is_whole_caw caw
    → places_read (start_with_read (profile_of m.core) u caw) m
    ≡ cond z (places_read (next_ccw_read (profile_of m.core) (program_at caw.key caw.address)) m) []
first-places u caw m z e = by (is_whole_caw caw) ∙ ap (λ x. cond x (places_read (next_ccw_read (profile_of m.core) program) m) []) (sym e) where
  program : Program
  program = program_at caw.key caw.address

  by : (w : Bool)
      → places_read (cond w (bind (next_ccw_read (profile_of m.core) program) (λ f. done (started u program f)))
      (done (with_status no_unit_status meets_program_check None))) m
      ≡ cond w (places_read (next_ccw_read (profile_of m.core) program) m) []
  by true = mapped (next_ccw_read (profile_of m.core) program) (started u program) m
  by false = refl

program-places : (u : ConfiguredUnit) (m : Machine) (words : List Place)
    → words ≡ places_read (start_with_read (profile_of m.core) u (caw_of (word_at m.core.storage.bytes caw_location))) m
    → places_read (bind (number_read caw_location 4) (λ word. start_with_read (profile_of m.core) u (caw_of word))) m ≡ byte_places caw_location 4 ++ words
program-places u m words e =
    let further : ℕ → Reading IoResult = λ word. start_with_read (profile_of m.core) u (caw_of word)
    in places-bind (number_read caw_location 4) further m
    ∙ ap (λ word. byte_places caw_location 4 ++ places_read (further word) m) (number-is caw_location 4 m)
    ∙ ap (λ ps. byte_places caw_location 4 ++ ps) (sym e)

pub start-decided : (q : Question) (u : ConfiguredUnit) (m : Machine) (words found now after : List Place)
    → false ≡ is_unavailable (active_beside m.units u) (control_of m.units u)
    → words ≡ places_read (start_with_read (profile_of m.core) u (caw_of (word_at m.core.storage.bytes caw_location))) m
    → now ≡ with_decided q (units_named (Some u)) found → after ≡ with_decided q (byte_places caw_location 4 ++ words) now
    → after ≡ with_decided q (places_read (of_unit (λ u c other. start_read (profile_of m.core) (is_some other) u c) (Some u)) m) found
start-decided q u m words found now after e w h k =
    unit-decided q (λ u c other. start_read (profile_of m.core) (is_some other) u c) u m (byte_places caw_location 4 ++ words) found now after
    (by (is_active control.state) (is_waiting control.state) (is_some (active_beside m.units u)) control.attention e) h k where
      control : UnitControl
      control = control_of m.units u

      by : (a w o t : Bool) → false ≡ a || (w || (o || t))
          → places_read (cond (a || (w || o)) (done (with_code 2))
          (cond t (done (with_status (record asks_attention { busy = true }) no_channel_status (becomes u idle_unit)))
          (bind (number_read caw_location 4) (λ word. start_with_read (profile_of m.core) u (caw_of word))))) m
          ≡ byte_places caw_location 4 ++ words
      by false false false false e = program-places u m words w
      by true w o t e = absurd (cc)
      by false true o t e = absurd (cc)
      by false false true t e = absurd (cc)
      by false false false true e = absurd (cc)

-- what is stored
io-stored : (q : Question) (m : Machine) (unit : UnitAddress) (next : ℕ) (r : IoResult) (found : List Place)
    → with_stores_of q m (unit_stores r.unit) (with_store q Psw (Psw ∷ []) (with_stores_of q m (csw_stores r.stores (unit_and_address_word unit)) found))
    ≡ with_stores_of q m (io_stores unit next r) found
io-stored q m unit next r found =
    sym (stores-both q m (csw_stores r.stores (unit_and_address_word unit))
    (record { place = Psw; value = coded_psw next r.condition } ∷ unit_stores r.unit) found)

pub io-walked : (q : Question) (operation : IoOperation) (unit : UnitAddress) (e : InstructionEnd) (m : Machine) (r : IoResult)
    (found now csw psw after : List Place) → r ≡ io_result operation unit m
    → now ≡ with_decided q (places_read (io_result_read (profile_of m.core) operation unit) m) found
    → csw ≡ with_stores_of q m (csw_stores r.stores (unit_and_address_word unit)) now → psw ≡ with_store q Psw (Psw ∷ []) csw
    → after ≡ with_stores_of q m (unit_stores r.unit) psw → after ≡ walked q (io_row (profile_of m.core) operation unit e) m found
io-walked q operation unit e m r found now csw psw after is h c p k =
    let further : IoResult → Row InstructionEnd = λ r. done (record { ended = e; stores = io_stores unit e.next_address r })
    in let decided : List Place = with_decided q (places_read (io_result_read (profile_of m.core) operation unit) m) found
    in k ∙ ap (with_stores_of q m (unit_stores r.unit)) (p ∙ ap (with_store q Psw (Psw ∷ [])) c)
    ∙ io-stored q m unit e.next_address r now
    ∙ ap (with_stores_of q m (io_stores unit e.next_address r)) (h ∙ sym (decided_none q decided))
    ∙ ap (λ x. walked q (further x) m decided) (is ∙ sym (result-is operation unit m))
    ∙ sym (walked-bind q (io_result_read (profile_of m.core) operation unit) further m found)
