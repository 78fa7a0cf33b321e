-- What a word of a unit's program does, as the code has it, is what its readings read.
use Rattle.std.proofs.Common.{ℕ, ◌+◌, ◌≡◌, ◌∙◌, ◌++◌, ◌&&◌, not, Bool, true, false, cond, nat_le, Option, Some, None, List, [], refl, sym, ap, length}
use Rattle.std.proofs.Common.{◌-◌, nat_eq, subst, take, replicate}
use Rattle.std.specs.Prelude.{is_some}
use Rattle.std.proofs.lemmas.Bool.{eqb-true, le-leb}
use Rattle.s360_model.specs.Storage.{doubleword_at}
use Rattle.s360_word.specs.declared.unit.Unit.{Unit as UnitAddress}
use Rattle.s360_store.specs.declared.place.Place.{Place}
use Rattle.s360_store.specs.declared.protection.{Access.Access, Checked.Checked}
use Rattle.s360_store.specs.{Protection.access, Spans.byte_places}
use Rattle.s360_device.specs.declared.device_with.DeviceWith.{DeviceWith}
use Rattle.s360_device.specs.Rows.{Table}
use Rattle.s360_device.specs.declared.device.Begin.{Begin}
use Rattle.s360_tape.specs.WholeTape.{WholeTape}
use Rattle.s360_channel.specs.declared.{ccw.Ccw.Ccw, configured_unit.ConfiguredUnit.ConfiguredUnit, program.Program.Program, program.Progress.Progress}
use Rattle.s360_channel.specs.declared.{fetching.Fetched.Fetched, transfer.Transfer.Transfer}
use Rattle.s360_channel.specs.ConfiguredUnits.{address_of_unit, unit_at}
use Rattle.s360_channel.specs.Programs.{ccw_at, executed_at, goes_on_with_record, is_first, is_loading, loading_word}
use Rattle.s360_channel.specs.Words.{ccw_of, is_doubleword_address, is_transfer}
use Rattle.s360_channel.specs.Execution.{WordAtHand, access_of, after_transfer, command_ends, conclusion_of, goes_on_after, input_transfer, run_of}
use Rattle.s360_machine.specs.ChannelEvents.{view_of}
use Rattle.s360_machine.specs.Machine.{Machine, Media, WholeMedia}
use Rattle.s360_machine.specs.Media.{tape_of}
use Rattle.s360_footprint.specs.ChannelReadings.{ccw_read, led_to_by, next_ccw_read, word_or_target, begun_met, begun_read, bytes_met, input_bytes, lowest_of}
use Rattle.s360_footprint.specs.ChannelReadings.{output_of, output_with}
use Rattle.s360_footprint.specs.ChannelRows.{device_seen, zeros}
use Rattle.s360_footprint.specs.OperandReadings.{number_read, profile_of, access_read, bytes_read, guards}
use Rattle.s360_footprint.specs.Readings.{bind, done, places_read, run}
use Rattle.s360_footprint.specs.Values.{device_of}
use Rattle.s360_footprint.proofs.OperandLemmas.{number-is, access-is, clear-inside}
use Rattle.s360_footprint.proofs.ReadingLemmas.{places-bind, run-bind}
use Rattle.s360_source.proofs.ReadingPlaces.{bytes-places, mapped, access-places}
use Rattle.s360_source.specs.declared.channel_moves.{Extent.Extent, Movement.Movement}
use Rattle.s360_source.specs.declared.{channel_word.Moved.Moved, part.Part.Part}
use Rattle.s360_source.specs.Channels.{IsExtentOf, IsMovedBy, IsMoving, extent_in, if_clear, input_movement, moving_of, output_movement}
use Rattle.s360_source.specs.Parts.{key_places, places_of_part}

-- a word that stands at an address
ccw-is : (address : ℕ) (m : Machine) → run (ccw_read (profile_of m.core) address) m ≡ ccw_at m.core.storage address
ccw-is address m = by (is_doubleword_address address && nat_le (address + 8) (length m.core.storage.bytes)) where
  by : (z : Bool) → run (cond z (bind (number_read address 8) (λ d. done (Some (ccw_of d)))) (done None)) m
      ≡ cond z (Some (ccw_of (doubleword_at m.core.storage.bytes address))) None
  by true = run-bind (number_read address 8) (λ d. done (Some (ccw_of d))) m ∙ ap (λ d. Some (ccw_of d)) (number-is address 8 m)
  by false = refl

-- the word with which a program goes on, and where it leads to
abbrev pub led_on_to : Machine → Progress → Option Ccw → List Place
led_on_to m progress None = []
led_on_to m progress (Some c) = cond (is_transfer c && not (is_first progress)) (places_read (ccw_read (profile_of m.core) c.address) m) []

target-places : (m : Machine) (progress : Progress) (address : ℕ) (o : Option Ccw)
    → places_read (word_or_target (profile_of m.core) progress address o) m ≡ led_on_to m progress o
target-places m progress address None = refl
target-places m progress address (Some c) = by (is_transfer c && not (is_first progress)) where
  by : (z : Bool) → places_read (cond z (bind (ccw_read (profile_of m.core) c.address) (λ target. done (led_to_by progress address c target)))
      (done (executed_at (goes_on_with_record progress) address c))) m
      ≡ cond z (places_read (ccw_read (profile_of m.core) c.address) m) []
  by true = mapped (ccw_read (profile_of m.core) c.address) (λ target. led_to_by progress address c target) m
  by false = refl

pub both-words : (program : Program) (m : Machine) (o : Option Ccw) (word target : List Place) → is_loading program.progress ≡ false
    → o ≡ ccw_at m.core.storage program.address → word ≡ places_read (ccw_read (profile_of m.core) program.address) m
    → target ≡ led_on_to m program.progress o → word ++ target ≡ places_read (next_ccw_read (profile_of m.core) program) m
both-words program m o word target e found w t =
    let at : ℕ = program.address
    in ap (λ ps. ps ++ target) w
    ∙ ap (λ ps. places_read (ccw_read (profile_of m.core) at) m ++ ps)
    (t ∙ ap (led_on_to m program.progress) (found ∙ sym (ccw-is at m))
    ∙ sym (target-places m program.progress at (run (ccw_read (profile_of m.core) at) m)))
    ∙ sym (places-bind (ccw_read (profile_of m.core) at) (word_or_target (profile_of m.core) program.progress at) m)
    ∙ sym (ap (λ b. places_read (cond b (done (Fetched.Whole 0 (ccw_of loading_word)))
    (bind (ccw_read (profile_of m.core) at) (word_or_target (profile_of m.core) program.progress at))) m) e)

-- the device of a unit
pub device-seen : {M : Type 0} (t : Table M) (d e : DeviceWith M) (u v : ConfiguredUnit) (m : Media) → u ≡ v → d ≡ e
    → view_of t e ≡ device_seen v (device_of v m) → view_of t d ≡ device_seen u (device_of u m)
device-seen t d e u v m is same at = ap (view_of t) same ∙ at ∙ ap (λ x. device_seen x (device_of x m)) (sym is)

pub tape-is : (w : WholeMedia) (x y : WholeTape) (u v : ConfiguredUnit) (a : UnitAddress) → a ≡ record { 0 = address_of_unit u } → u ≡ v
    → Some x ≡ tape_of w (unit_at a.0) → tape_of w (unit_at (address_of_unit v)) ≡ Some y → x ≡ y
tape-is w x y u v a e is h t =
    let same : Some x ≡ Some y
    = h ∙ ap (λ (b : UnitAddress). tape_of w (unit_at b.0)) e ∙ ap (λ k. tape_of w (unit_at (address_of_unit k))) is ∙ t
    in cc

-- what bytes meet, and the keys that are looked at
bytes-met : (key : ℕ) (kind : Access) (count : ℕ) (o : Option ℕ) (m : Machine)
    → run (bytes_met (profile_of m.core) key kind count o) m ≡ access_of m.core.storage key kind count o
bytes-met key kind count None m = refl
bytes-met key kind count (Some address) m = by (nat_eq count 0) where
  by : (z : Bool) → run (cond z (done Checked.Clear) (access_read (profile_of m.core) address count kind key)) m
      ≡ cond z Checked.Clear (access m.core.storage address count kind key)
  by true = refl
  by false = access-is address count kind key m

abbrev extent-if : ℕ → ℕ → Bool → Extent
extent-if address count z = cond z (record { address = address; count = count }) (record { address = 0; count = 0 })

pub keys-met : (key : ℕ) (kind : Access) (count : ℕ) (o : Option ℕ) (m : Machine) (x : Extent) (z : Bool)
    → z ≡ (guards (profile_of m.core) kind && not (nat_eq key 0)) → x ≡ extent_in (length m.core.storage.bytes) o count
    → cond z (key_places x.address x.count) [] ≡ places_read (bytes_met (profile_of m.core) key kind count o) m
keys-met key kind count None m x z e is = ap (λ (y : Extent). cond z (key_places y.address y.count) []) is ∙ none z where
  none : (z : Bool) → cond z (key_places 0 0) [] ≡ []
  none true = refl
  none false = refl
keys-met key kind count (Some address) m x z e is =
    let inside : Bool = nat_le (address + count) (length m.core.storage.bytes)
    in ap (λ (y : Extent). cond z (key_places y.address y.count) []) is
    ∙ by (nat_eq count 0) inside z
    ∙ ap (λ b. cond (nat_eq count 0) [] (cond (inside && b) (key_places address count) [])) e
    ∙ reads (nat_eq count 0) where
      by : (none inside z : Bool)
          → cond z (key_places (extent-if address count (not none && inside)).address (extent-if address count (not none && inside)).count) []
          ≡ cond none [] (cond (inside && z) (key_places address count) [])
      by true inside true = refl
      by true inside false = refl
      by false true true = refl
      by false true false = refl
      by false false true = refl
      by false false false = refl

      reads : (none : Bool)
          → cond none [] (cond (nat_le (address + count) (length m.core.storage.bytes) && (guards (profile_of m.core) kind && not (nat_eq key 0)))
          (key_places address count) [])
          ≡ places_read (cond none (done Checked.Clear) (access_read (profile_of m.core) address count kind key)) m
      reads true = refl
      reads false = sym (access-places address count kind key m)

-- bytes that meet nothing are in storage
extent-is : (m : Machine) (key : ℕ) (kind : Access) (count address : ℕ) → access_of m.core.storage key kind count (Some address) ≡ Checked.Clear
    → extent_in (length m.core.storage.bytes) (Some address) count ≡ extent-if address count (not (nat_eq count 0))
extent-is m key kind count address clear = by (nat_eq count 0) clear where
  by : (z : Bool) → cond z Checked.Clear (access m.core.storage address count kind key) ≡ Checked.Clear
      → extent-if address count (not z && nat_le (address + count) (length m.core.storage.bytes)) ≡ extent-if address count (not z)
  by true h = refl
  by false h = ap (extent-if address count) (le-leb _ _ (clear-inside m.core address count kind key h))

extent-stored : (m : Machine) (key : ℕ) (lowest : Option ℕ) (bytes : List ℕ) → access_of m.core.storage key Access.Store (length bytes) lowest ≡ Checked.Clear
    → IsExtentOf (run_of lowest bytes) (extent_in (length m.core.storage.bytes) lowest (length bytes))
extent-stored m key None bytes clear = refl
extent-stored m key (Some address) bytes clear =
    subst (λ (x : Extent). IsExtentOf (run_of (Some address) bytes) x) (sym (extent-is m key Access.Store (length bytes) address clear))
    (by (nat_eq (length bytes) 0)) where
      by : (z : Bool) → IsExtentOf (cond z None (Some (record { at = address; bytes = bytes }))) (extent-if address (length bytes) (not z))
      by true = refl
      by false = (refl, refl)

abbrev bytes_of : Extent → Part
bytes_of x = Part.Bytes x.address x.count

extent-fetched : (m : Machine) (key : ℕ) (count address : ℕ) → access_of m.core.storage key Access.Fetch count (Some address) ≡ Checked.Clear
    → places_of_part (bytes_of (extent_in (length m.core.storage.bytes) (Some address) count)) ≡ places_read (bytes_read address count) m
extent-fetched m key count address clear =
    ap (λ (x : Extent). places_of_part (bytes_of x)) (extent-is m key Access.Fetch count address clear)
    ∙ by (nat_eq count 0) refl ∙ sym (bytes-places address count m) where
      by : (z : Bool) → nat_eq count 0 ≡ z → places_of_part (bytes_of (extent-if address count (not z))) ≡ byte_places address count
      by true e = sym (ap (byte_places address) (eqb-true count 0 e))
      by false e = refl

-- what follows a transfer
ends-after : (w : WordAtHand) (t : Transfer) (progress : Progress) (output : List ℕ) → not t.goes_on ≡ is_some (after_transfer w t progress output).ending
ends-after w t progress output = by t.goes_on where
  by : (z : Bool) → not z ≡ is_some (cond z (record { stores = None; state = goes_on_after w.program w.at progress; ending = None })
      (command_ends w (conclusion_of w t) output)).ending
  by true = refl
  by false = refl

stores-after : (w : WordAtHand) (t : Transfer) (progress : Progress) (output : List ℕ)
    → IsExtentOf (after_transfer w t progress output).stores (record { address = 0; count = 0 })
stores-after w t progress output = by t.goes_on where
  by : (z : Bool) → IsExtentOf (cond z (record { stores = None; state = goes_on_after w.program w.at progress; ending = None })
      (command_ends w (conclusion_of w t) output)).stores (record { address = 0; count = 0 })
  by true = refl
  by false = refl

-- a word that moves bytes, by what they meet
abbrev IsDone : Machine → WordAtHand → Begin → Checked → Moved → Type 0
IsDone m w begin met x =
    (places_of_part x.fetched ≡ places_read (begun_read bytes_read w met begin) m)
    × (IsExtentOf (run (begun_read zeros w met begin) m).stores x.stored × (x.ends ≡ is_some (run (begun_read zeros w met begin) m).ending))

abbrev met_by : Machine → WordAtHand → Movement → Checked
met_by m w y = access_of m.core.storage w.program.key y.kind y.count y.lowest

abbrev extent_by : Machine → Movement → Extent
extent_by m y = extent_in (length m.core.storage.bytes) y.lowest y.count

abbrev none : Extent
none = record { address = 0; count = 0 }

input-done : (m : Machine) (w : WordAtHand) (total : ℕ) (keys : Part) (x : Extent) (ends : Bool) (met : Checked) → met_by m w (input_movement w total) ≡ met
    → IsMoving (if_clear met (extent_by m (input_movement w total))) (input_movement w total) x ends
    → IsDone m w (Begin.Input total) met (record { keys = keys; fetched = Part.Bytes 0 0; stored = x; ends = ends })
input-done m w total keys x ends Checked.Clear e h =
    let bytes : List ℕ = input_bytes w total
    in let t : Transfer = input_transfer w.ccw (total - w.moved)
    in (
      refl,
      (
        subst (λ (k : Extent). IsExtentOf (run_of (lowest_of w bytes) bytes) k) (sym h.0) (extent-stored m w.program.key (lowest_of w bytes) bytes e),
        h.1 ∙ ends-after w t (Progress.InputChained w.command (w.moved + t.count)) [],
      ),
    )
input-done m w total keys x ends Checked.Addressing e h = (refl, (ap (λ (k : Extent). k.count) h.0, h.1))
input-done m w total keys x ends Checked.Protection e h = (refl, (ap (λ (k : Extent). k.count) h.0, h.1))

output-done : (m : Machine) (w : WordAtHand) (limit : ℕ) (keys : Part) (x : Extent) (ends : Bool) (met : Checked) → met_by m w (output_movement w limit) ≡ met
    → IsMoving (if_clear met (extent_by m (output_movement w limit))) (output_movement w limit) x ends
    → IsDone m w (Begin.Output limit) met (record { keys = keys; fetched = bytes_of x; stored = none; ends = ends })
output-done m w limit keys x ends Checked.Clear e h =
    let t : Transfer = output_of w limit
    in let output : List ℕ = take limit (w.gathered ++ replicate t.count 0)
    in let progress : Progress = Progress.OutputChained w.command output
    in (
      ap (λ (k : Extent). places_of_part (bytes_of k)) h.0 ∙ extent-fetched m w.program.key t.count w.ccw.address e
          ∙ sym (mapped (bytes_read w.ccw.address t.count) (output_with w limit t) m),
      (stores-after w t progress output, h.1 ∙ ends-after w t progress output),
    )
output-done m w limit keys x ends Checked.Addressing e h = (ap (λ (k : Extent). places_of_part (bytes_of k)) h.0, (refl, h.1))
output-done m w limit keys x ends Checked.Protection e h = (ap (λ (k : Extent). places_of_part (bytes_of k)) h.0, (refl, h.1))

-- as the code has them
as-moved : (m : Machine) (w : WordAtHand) (begin : Begin) (y : Movement) (x : Moved)
    → begun_met (profile_of m.core) w begin ≡ bytes_met (profile_of m.core) w.program.key y.kind y.count y.lowest
    → places_of_part x.keys ≡ places_read (bytes_met (profile_of m.core) w.program.key y.kind y.count y.lowest) m → IsDone m w begin (met_by m w y) x
    → IsMovedBy m w begin x
as-moved m w begin y x is keys h =
    let met : run (begun_met (profile_of m.core) w begin) m ≡ met_by m w y
    = ap (λ r. run r m) is ∙ bytes-met w.program.key y.kind y.count y.lowest m
    in let all : IsDone m w begin (run (begun_met (profile_of m.core) w begin) m) x = subst (λ k. IsDone m w begin k x) (sym met) h
    in record { keys = keys ∙ ap (λ r. places_read r m) (sym is); fetched = all.0; stored = all.1.0; ends = all.1.1 }

abbrev HasKeys : Machine → WordAtHand → Movement → Part → Type 0
HasKeys m w y keys = places_of_part keys ≡ places_read (bytes_met (profile_of m.core) w.program.key y.kind y.count y.lowest) m

pub input-moved : (m : Machine) (w : WordAtHand) (begin : Begin) (total : ℕ) (y : Movement) (keys n : Part) (x : Extent) (ends : Bool)
    → begin ≡ Begin.Input total → y ≡ input_movement w total → HasKeys m w y keys → IsMoving (moving_of m.core.storage w.program.key y) y x ends
    → n ≡ Part.Bytes 0 0 → IsMovedBy m w begin (record { keys = keys; fetched = n; stored = x; ends = ends })
input-moved m w begin total y keys n x ends b is keys_are h nothing =
    let made : Movement = input_movement w total
    in let moved : Part → Moved = λ k. record { keys = keys; fetched = k; stored = x; ends = ends }
    in subst (λ (k : Part). IsMovedBy m w begin (moved k)) (sym nothing)
    (subst (λ (k : Begin). IsMovedBy m w k (moved (Part.Bytes 0 0))) (sym b)
    (as-moved m w (Begin.Input total) made (moved (Part.Bytes 0 0)) refl (subst (λ (k : Movement). HasKeys m w k keys) is keys_are)
    (input-done m w total keys x ends (met_by m w made) refl
    (subst (λ (k : Movement). IsMoving (moving_of m.core.storage w.program.key k) k x ends) is h))))

pub output-moved : (m : Machine) (w : WordAtHand) (begin : Begin) (limit : ℕ) (y : Movement) (keys : Part) (x n : Extent) (ends : Bool)
    → begin ≡ Begin.Output limit → y ≡ output_movement w limit → HasKeys m w y keys → IsMoving (moving_of m.core.storage w.program.key y) y x ends
    → n ≡ none → IsMovedBy m w begin (record { keys = keys; fetched = Part.Bytes x.address x.count; stored = n; ends = ends })
output-moved m w begin limit y keys x n ends b is keys_are h nothing =
    let made : Movement = output_movement w limit
    in let moved : Extent → Moved = λ k. record { keys = keys; fetched = bytes_of x; stored = k; ends = ends }
    in subst (λ (k : Extent). IsMovedBy m w begin (moved k)) (sym nothing)
    (subst (λ (k : Begin). IsMovedBy m w k (moved none)) (sym b)
    (as-moved m w (Begin.Output limit) made (moved none) refl (subst (λ (k : Movement). HasKeys m w k keys) is keys_are)
    (output-done m w limit keys x ends (met_by m w made) refl
    (subst (λ (k : Movement). IsMoving (moving_of m.core.storage w.program.key k) k x ends) is h))))
