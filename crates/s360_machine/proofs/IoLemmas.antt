-- What an event alters of the devices.
use Rattle.std.proofs.Common.{◌≡◌, ℕ, Bool, true, false, List, [], ◌∷◌, map, refl, sym, ap, ◌∙◌, Decides, Option, Some, None, option_map}
use Rattle.s360_model.specs.Exchanges.{CanIfAny, after_if_any, back_if_any, need_if_any}
use Rattle.s360_device.specs.declared.card.PunchedCard.{PunchedCard}
use Rattle.s360_device.specs.declared.device_with.DeviceChange.{DeviceChange}
use Rattle.s360_device.specs.declared.device_with.DeviceWith.{DeviceWith}
use Rattle.s360_device.specs.declared.motion.Motion.{Motion}
use Rattle.s360_device.specs.declared.reader_change.ReaderChange.{ReaderChange}
use Rattle.s360_device.specs.DeviceChanges.{CanSwapDevice, device_after_swap, device_change_after_swap, device_needs, seen_device}
use Rattle.s360_device.specs.Differences.{DecidesEquality, same_punch, same_reader}
use Rattle.s360_device.specs.Kinds.{Kind, MakesMedia}
use Rattle.s360_device.specs.Punch.{Punch, punch_kind}
use Rattle.s360_device.specs.Reader.{Reader, with_end_key}
use Rattle.s360_device.specs.ReaderChanges.{reader_kind}
use Rattle.s360_device.proofs.DifferenceLemmas.{same_punch-Decides, same_reader-Decides}
use Rattle.s360_print.specs.declared.console_change.ConsoleChange.{ConsoleChange}
use Rattle.s360_print.specs.declared.printer_change.PrinterChange.{PrinterChange}
use Rattle.s360_print.specs.Console.{Console, with_line}
use Rattle.s360_print.specs.ConsoleChanges.{console_kind}
use Rattle.s360_print.specs.Differences.{same_console, same_printer}
use Rattle.s360_print.specs.Printer.{Printer}
use Rattle.s360_print.specs.PrinterChanges.{printer_kind}
use Rattle.s360_print.proofs.DifferenceLemmas.{same_console-Decides, same_printer-Decides}
use Rattle.s360_tape.specs.declared.tape_change.TapeChange.{TapeChange}
use Rattle.s360_tape.specs.Differences.{same_tape}
use Rattle.s360_tape.specs.Tape.{Tape}
use Rattle.s360_tape.specs.WholeTape.{tape_kind}
use Rattle.s360_tape.proofs.DifferenceLemmas.{same_tape-Decides}
use Rattle.s360_channel.specs.declared.configured_unit.ConfiguredUnit.{ConfiguredUnit}
use Rattle.s360_channel.specs.declared.configured_unit.ConfiguredUnit.TheVariants.{Reader as reader_unit, Punch as punch_unit, Printer as printer_unit, Console as console_unit, Tape0 as tape0_unit, Tape1 as tape1_unit}
use Rattle.s360_channel.proofs.UnitChangeLemmas.{just, only}
use Rattle.s360_machine.specs.declared.media.MediaChange.{MediaChange}
use Rattle.s360_machine.specs.declared.media.MediaChange.TheVariants.{Reader as of_reader, Punch as of_punch, Printer as of_printer, Console as of_console, Tape0 as of_tape0, Tape1 as of_tape1}
use Rattle.s360_machine.specs.Differences.{altered_devices, media_place, same_device}
use Rattle.s360_machine.specs.IoChanges.{CanSwapMedia, media_after_swap, media_change_after_swap, media_needs, unit_of_change}
use Rattle.s360_machine.specs.Machine.{Media, WholeMedia, seen_media}
use Rattle.s360_machine.specs.Planned.{IsMediaChangeTo}

-- the unit, where there is a change of its device
abbrev pub just_if : {C : Type 0} → ConfiguredUnit → Option C → List ConfiguredUnit
just_if u None = []
just_if u (Some x) = u ∷ []

-- a change of a device that may be there makes what is seen of it another, is there just where the two differ by a test,
-- and wants no room to be taken back
pub record IsDeviceStep {S M C : Type 0} (k : Kind S M C) (same : DeviceWith M → DeviceWith M → Bool) (d : DeviceWith S) (e : DeviceWith M) (x : Option (DeviceChange C)) : Type 0 where
  pub can : CanIfAny (CanSwapDevice k) d x
  pub makes : seen_device k (after_if_any (device_after_swap k) d x) ≡ e
  pub lists : (u : ConfiguredUnit) → just_if u x ≡ just u (same (seen_device k d) e)
  pub no_room : need_if_any (device_needs k) (back_if_any (device_change_after_swap k) d x) ≡ 0

-- a test that decides whether two are equal
different : {D : Type 0} (b : Bool) (d e : D) → Decides b (d ≡ e) → (d ≡ e → ⊥) → b ≡ false
different true d e h n = absurd (n (h.0 refl))
different false d e h n = refl

pub device-stays : {S M C : Type 0} (k : Kind S M C) (same : DeviceWith M → DeviceWith M → Bool) → DecidesEquality same → (d : DeviceWith S) → IsDeviceStep k same d (seen_device k d) None
device-stays k same decides d = record { can = tt; makes = refl; lists = λ u. rw ((decides (seen_device k d) (seen_device k d)).1 refl) refl; no_room = refl }

pub device-becomes : {S M C : Type 0} (k : Kind S M C) (same : DeviceWith M → DeviceWith M → Bool) → DecidesEquality same → (d : DeviceWith S) (e : DeviceWith M) (x : DeviceChange C)
    → CanSwapDevice k d x → seen_device k (device_after_swap k d x) ≡ e → device_needs k (device_change_after_swap k d x) ≡ 0 → (seen_device k d ≡ e → ⊥) → IsDeviceStep k same d e (Some x)
device-becomes k same decides d e x h is b n = record {
  can = h;
  makes = is;
  lists = λ u. rw (different (same (seen_device k d) e) (seen_device k d) e (decides (seen_device k d) e) n) refl;
  no_room = b;
}

-- what the operator does to the media of a device, whose sense bytes stay
pub operator-step : {S M C : Type 0} (k : Kind S M C) (same : DeviceWith M → DeviceWith M → Bool) → DecidesEquality same → (d : DeviceWith S) (n : M) (x : C)
    → MakesMedia k d.media n (Some x) → IsDeviceStep k same d (record { sense = d.sense; media = n }) (Some (record { sense = d.sense; media = Some x }))
operator-step {M = M} k same decides d n x h = device-becomes k same decides d (record { sense = d.sense; media = n }) (record { sense = d.sense; media = Some x })
    h.can (ap (λ (m : M). record { sense = d.sense; media = m }) h.makes) h.back (λ e. h.alters (ap (λ (f : DeviceWith M). f.media) e))

-- where a change of a device is one of the devices, which differ in that device alone
media-step : {S M C : Type 0} (k : Kind S M C) (same : DeviceWith M → DeviceWith M → Bool) (u : ConfiguredUnit) (of : DeviceChange C → MediaChange) (with_device : DeviceWith M → Media)
    (m : WholeMedia) (d : DeviceWith S) (e : DeviceWith M) (x : Option (DeviceChange C))
    → seen_media m ≡ with_device (seen_device k d)
    → ((c : DeviceChange C) → CanSwapDevice k d c → CanSwapMedia m (of c))
    → ((c : DeviceChange C) → seen_media (media_after_swap m (of c)) ≡ with_device (seen_device k (device_after_swap k d c)))
    → ((c : DeviceChange C) → media_needs (media_change_after_swap m (of c)) ≡ device_needs k (device_change_after_swap k d c))
    → ((c : DeviceChange C) → unit_of_change (of c) ≡ u)
    → altered_devices (seen_media m) (with_device e) ≡ just u (same (seen_device k d) e)
    → IsDeviceStep k same d e x → IsMediaChangeTo m (option_map of x) (with_device e)
media-step k same u of with_device m d e None stays can makes needs unit altered h = record {
  can = tt;
  makes = stays ∙ ap with_device h.makes;
  lists = ap (λ (ws : List ConfiguredUnit). map (λ w. media_place w) ws) (h.lists u ∙ sym altered);
  back = refl;
}
media-step k same u of with_device m d e (Some c) stays can makes needs unit altered h = record {
  can = can c h.can;
  makes = makes c ∙ ap with_device h.makes;
  lists = ap (λ (w : ConfiguredUnit). media_place w ∷ []) (unit c) ∙ ap (λ (ws : List ConfiguredUnit). map (λ w. media_place w) ws) (h.lists u ∙ sym altered);
  back = needs c ∙ h.no_room;
}

-- a device that stays is the same
alike : (m : Media) (u : ConfiguredUnit) → same_device m m u ≡ true
alike m reader_unit = (same_reader-Decides m.reader m.reader).1 refl
alike m punch_unit = (same_punch-Decides m.punch m.punch).1 refl
alike m printer_unit = (same_printer-Decides m.printer m.printer).1 refl
alike m console_unit = (same_console-Decides m.console m.console).1 refl
alike m tape0_unit = (same_tape-Decides m.tape0 m.tape0).1 refl
alike m tape1_unit = (same_tape-Decides m.tape1 m.tape1).1 refl

-- each device alone
reader-altered : (m : Media) (d : Reader) → altered_devices m (record m { reader = d }) ≡ just reader_unit (same_reader m.reader d)
reader-altered m d = rw (alike m punch_unit, alike m printer_unit, alike m console_unit, alike m tape0_unit, alike m tape1_unit) (only reader_unit (same_reader m.reader d))

pub IsMediaChangeTo-reader : (m : WholeMedia) (e : Reader) (x : Option (DeviceChange ReaderChange)) → IsDeviceStep reader_kind same_reader m.reader e x → IsMediaChangeTo m (option_map (λ c. of_reader c) x) (record (seen_media m) { reader = e })
IsMediaChangeTo-reader m e x h = media-step reader_kind same_reader reader_unit (λ c. of_reader c) (λ d. record (seen_media m) { reader = d }) m m.reader e x refl (λ c can. can) (λ c. refl) (λ c. refl) (λ c. refl) (reader-altered (seen_media m) e) h

punch-altered : (m : Media) (d : Punch) → altered_devices m (record m { punch = d }) ≡ just punch_unit (same_punch m.punch d)
punch-altered m d = rw (alike m reader_unit, alike m printer_unit, alike m console_unit, alike m tape0_unit, alike m tape1_unit) (only punch_unit (same_punch m.punch d))

pub IsMediaChangeTo-punch : (m : WholeMedia) (e : Punch) (x : Option (DeviceChange (Motion PunchedCard))) → IsDeviceStep punch_kind same_punch m.punch e x → IsMediaChangeTo m (option_map (λ c. of_punch c) x) (record (seen_media m) { punch = e })
IsMediaChangeTo-punch m e x h = media-step punch_kind same_punch punch_unit (λ c. of_punch c) (λ d. record (seen_media m) { punch = d }) m m.punch e x refl (λ c can. can) (λ c. refl) (λ c. refl) (λ c. refl) (punch-altered (seen_media m) e) h

printer-altered : (m : Media) (d : Printer) → altered_devices m (record m { printer = d }) ≡ just printer_unit (same_printer m.printer d)
printer-altered m d = rw (alike m reader_unit, alike m punch_unit, alike m console_unit, alike m tape0_unit, alike m tape1_unit) (only printer_unit (same_printer m.printer d))

pub IsMediaChangeTo-printer : (m : WholeMedia) (e : Printer) (x : Option (DeviceChange PrinterChange)) → IsDeviceStep printer_kind same_printer m.printer e x → IsMediaChangeTo m (option_map (λ c. of_printer c) x) (record (seen_media m) { printer = e })
IsMediaChangeTo-printer m e x h = media-step printer_kind same_printer printer_unit (λ c. of_printer c) (λ d. record (seen_media m) { printer = d }) m m.printer e x refl (λ c can. can) (λ c. refl) (λ c. refl) (λ c. refl) (printer-altered (seen_media m) e) h

console-altered : (m : Media) (d : Console) → altered_devices m (record m { console = d }) ≡ just console_unit (same_console m.console d)
console-altered m d = rw (alike m reader_unit, alike m punch_unit, alike m printer_unit, alike m tape0_unit, alike m tape1_unit) (only console_unit (same_console m.console d))

pub IsMediaChangeTo-console : (m : WholeMedia) (e : Console) (x : Option (DeviceChange ConsoleChange)) → IsDeviceStep console_kind same_console m.console e x → IsMediaChangeTo m (option_map (λ c. of_console c) x) (record (seen_media m) { console = e })
IsMediaChangeTo-console m e x h = media-step console_kind same_console console_unit (λ c. of_console c) (λ d. record (seen_media m) { console = d }) m m.console e x refl (λ c can. can) (λ c. refl) (λ c. refl) (λ c. refl) (console-altered (seen_media m) e) h

tape0-altered : (m : Media) (d : Tape) → altered_devices m (record m { tape0 = d }) ≡ just tape0_unit (same_tape m.tape0 d)
tape0-altered m d = rw (alike m reader_unit, alike m punch_unit, alike m printer_unit, alike m console_unit, alike m tape1_unit) (only tape0_unit (same_tape m.tape0 d))

pub IsMediaChangeTo-tape0 : (m : WholeMedia) (e : Tape) (x : Option (DeviceChange TapeChange)) → IsDeviceStep tape_kind same_tape m.tape0 e x → IsMediaChangeTo m (option_map (λ c. of_tape0 c) x) (record (seen_media m) { tape0 = e })
IsMediaChangeTo-tape0 m e x h = media-step tape_kind same_tape tape0_unit (λ c. of_tape0 c) (λ d. record (seen_media m) { tape0 = d }) m m.tape0 e x refl (λ c can. can) (λ c. refl) (λ c. refl) (λ c. refl) (tape0-altered (seen_media m) e) h

tape1-altered : (m : Media) (d : Tape) → altered_devices m (record m { tape1 = d }) ≡ just tape1_unit (same_tape m.tape1 d)
tape1-altered m d = rw (alike m reader_unit, alike m punch_unit, alike m printer_unit, alike m console_unit, alike m tape0_unit) (only tape1_unit (same_tape m.tape1 d))

pub IsMediaChangeTo-tape1 : (m : WholeMedia) (e : Tape) (x : Option (DeviceChange TapeChange)) → IsDeviceStep tape_kind same_tape m.tape1 e x → IsMediaChangeTo m (option_map (λ c. of_tape1 c) x) (record (seen_media m) { tape1 = e })
IsMediaChangeTo-tape1 m e x h = media-step tape_kind same_tape tape1_unit (λ c. of_tape1 c) (λ d. record (seen_media m) { tape1 = d }) m m.tape1 e x refl (λ c can. can) (λ c. refl) (λ c. refl) (λ c. refl) (tape1-altered (seen_media m) e) h

pub media-stay : (m : WholeMedia) → IsMediaChangeTo m None (seen_media m)
media-stay m = IsMediaChangeTo-reader m m.reader None (device-stays reader_kind same_reader same_reader-Decides m.reader)

-- the end-of-file key
pub end-key-stays : (m : WholeMedia) → m.reader.media.end_of_file ≡ true → IsMediaChangeTo m None (record (seen_media m) { reader = with_end_key m.reader })
end-key-stays m h = rw (← h) (media-stay m)

not-pressed : (r : Reader) → r.media.end_of_file ≡ false → r ≡ with_end_key r → ⊥
not-pressed r h e = let k : r.media.end_of_file ≡ true = ap (λ (s : Reader). s.media.end_of_file) e in absurd (cc)

pub end-key-pressed : (m : WholeMedia) (x : DeviceChange ReaderChange) → m.reader.media.end_of_file ≡ false → CanSwapDevice reader_kind m.reader x
    → device_after_swap reader_kind m.reader x ≡ with_end_key m.reader → device_needs reader_kind (device_change_after_swap reader_kind m.reader x) ≡ 0
    → IsMediaChangeTo m (Some (of_reader x)) (record (seen_media m) { reader = with_end_key m.reader })
end-key-pressed m x h can e back = IsMediaChangeTo-reader m (with_end_key m.reader) (Some x) (device-becomes reader_kind same_reader same_reader-Decides m.reader (with_end_key m.reader) x can e back (not-pressed m.reader h))

-- a line that is entered
pub line-entered : (m : WholeMedia) (line : List ℕ) (x : ConsoleChange) → MakesMedia console_kind m.console.media (with_line m.console.media line) (Some x)
    → IsMediaChangeTo m (Some (of_console (record { sense = m.console.sense; media = Some x }))) (record (seen_media m) { console = record m.console { media = with_line m.console.media line } })
line-entered m line x h = IsMediaChangeTo-console m (record m.console { media = with_line m.console.media line }) (Some (record { sense = m.console.sense; media = Some x }))
    (operator-step console_kind same_console same_console-Decides m.console (with_line m.console.media line) x h)
