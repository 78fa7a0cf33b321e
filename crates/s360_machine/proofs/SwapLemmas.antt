-- An exchange of a change done twice restores the whole machine and the change.
use Rattle.std.proofs.Common.{◌≡◌, ap, ◌∙◌, refl, subst, sym, List, [], ◌∷◌, Option, Some, None}
use Rattle.s360_model.specs.Exchanges.{back_if_any}
use Rattle.s360_model.specs.ExchangeLaws.{CanIfAny-again, after_if_any-twice, back_if_any-twice}
use Rattle.s360_device.specs.DeviceLaws.{CanSwapDevice-again, device_after_swap-twice, device_change_after_swap-twice}
use Rattle.s360_device.specs.MotionLaws.{motion_restores_both}
use Rattle.s360_device.specs.Punch.{punch_kind, punch_table}
use Rattle.s360_device.specs.ReaderChanges.{reader_kind}
use Rattle.s360_device.specs.ReaderLaws.{reader_change_restores_both}
use Rattle.s360_print.specs.ConsoleChanges.{console_kind}
use Rattle.s360_print.specs.ConsoleLaws.{console_change_restores_both}
use Rattle.s360_print.specs.PrinterChanges.{printer_kind}
use Rattle.s360_print.specs.PrinterLaws.{printer_change_restores_both}
use Rattle.s360_tape.specs.TapeLaws.{tape_change_restores_both}
use Rattle.s360_tape.specs.WholeTape.{tape_kind}
use Rattle.s360_model.specs.Core.{Core}
use Rattle.s360_store.specs.declared.place.Cell.{Cell}
use Rattle.s360_store.specs.Cells.{after_exchange, cells_after_exchange, AllFit}
use Rattle.s360_store.proofs.ExchangeLemmas.{after_exchange-twice, cells_after_exchange-twice, AreCellsOf-again, places_of_cells-cells_after_exchange}
use Rattle.s360_channel.specs.UnitChanges.{CanSwapUnits, unit_change_after_swap, units_after_swap}
use Rattle.s360_channel.proofs.UnitChangeLemmas.{CanSwapUnits-again, places_of_units-back, unit_change_after_swap-twice, units_after_swap-twice}
use Rattle.s360_machine.specs.declared.media.MediaChange.{MediaChange}
use Rattle.s360_machine.specs.declared.media.MediaChange.TheVariants.{Reader, Punch, Printer, Console, Tape0, Tape1}
use Rattle.s360_machine.specs.Differences.{media_place}
use Rattle.s360_machine.specs.IoChanges.{CanSwapMedia, media_after_swap, media_change_after_swap, places_of_media, unit_of_change}
use Rattle.s360_machine.specs.declared.beside.Beside.{Beside}
use Rattle.s360_machine.specs.Changes.{change_of}
use Rattle.s360_machine.specs.Machine.{Whole, WholeMedia}
use Rattle.s360_machine.specs.Change.{Change, CanSwap, after_swap, change_after_swap, places_of_change}
use Rattle.s360_machine.proofs.ControlLemmas.{control_after_exchange-twice, control_cells_after_exchange-twice, HasEachControlOnce-after, places_of_control-after}

-- the devices
CanSwapMedia-again : (m : WholeMedia) (x : MediaChange) → CanSwapMedia m x → CanSwapMedia (media_after_swap m x) (media_change_after_swap m x)
CanSwapMedia-again m (Reader x) h = CanSwapDevice-again reader_kind reader_change_restores_both m.reader x h
CanSwapMedia-again m (Punch x) h = CanSwapDevice-again punch_kind (motion_restores_both punch_table) m.punch x h
CanSwapMedia-again m (Printer x) h = CanSwapDevice-again printer_kind printer_change_restores_both m.printer x h
CanSwapMedia-again m (Console x) h = CanSwapDevice-again console_kind console_change_restores_both m.console x h
CanSwapMedia-again m (Tape0 x) h = CanSwapDevice-again tape_kind tape_change_restores_both m.tape0 x h
CanSwapMedia-again m (Tape1 x) h = CanSwapDevice-again tape_kind tape_change_restores_both m.tape1 x h

media_after_swap-twice : (m : WholeMedia) (x : MediaChange) → CanSwapMedia m x → media_after_swap (media_after_swap m x) (media_change_after_swap m x) ≡ m
media_after_swap-twice m (Reader x) h = ap (λ k. record m { reader = k }) (device_after_swap-twice reader_kind reader_change_restores_both m.reader x h)
media_after_swap-twice m (Punch x) h = ap (λ k. record m { punch = k }) (device_after_swap-twice punch_kind (motion_restores_both punch_table) m.punch x h)
media_after_swap-twice m (Printer x) h = ap (λ k. record m { printer = k }) (device_after_swap-twice printer_kind printer_change_restores_both m.printer x h)
media_after_swap-twice m (Console x) h = ap (λ k. record m { console = k }) (device_after_swap-twice console_kind console_change_restores_both m.console x h)
media_after_swap-twice m (Tape0 x) h = ap (λ k. record m { tape0 = k }) (device_after_swap-twice tape_kind tape_change_restores_both m.tape0 x h)
media_after_swap-twice m (Tape1 x) h = ap (λ k. record m { tape1 = k }) (device_after_swap-twice tape_kind tape_change_restores_both m.tape1 x h)

media_change_after_swap-twice : (m : WholeMedia) (x : MediaChange) → CanSwapMedia m x → media_change_after_swap (media_after_swap m x) (media_change_after_swap m x) ≡ x
media_change_after_swap-twice m (Reader x) h = ap (λ y. Reader y) (device_change_after_swap-twice reader_kind reader_change_restores_both m.reader x h)
media_change_after_swap-twice m (Punch x) h = ap (λ y. Punch y) (device_change_after_swap-twice punch_kind (motion_restores_both punch_table) m.punch x h)
media_change_after_swap-twice m (Printer x) h = ap (λ y. Printer y) (device_change_after_swap-twice printer_kind printer_change_restores_both m.printer x h)
media_change_after_swap-twice m (Console x) h = ap (λ y. Console y) (device_change_after_swap-twice console_kind console_change_restores_both m.console x h)
media_change_after_swap-twice m (Tape0 x) h = ap (λ y. Tape0 y) (device_change_after_swap-twice tape_kind tape_change_restores_both m.tape0 x h)
media_change_after_swap-twice m (Tape1 x) h = ap (λ y. Tape1 y) (device_change_after_swap-twice tape_kind tape_change_restores_both m.tape1 x h)

-- an exchange keeps the place
unit_of_change-back : (m : WholeMedia) (x : MediaChange) → unit_of_change (media_change_after_swap m x) ≡ unit_of_change x
unit_of_change-back m (Reader x) = refl
unit_of_change-back m (Punch x) = refl
unit_of_change-back m (Printer x) = refl
unit_of_change-back m (Console x) = refl
unit_of_change-back m (Tape0 x) = refl
unit_of_change-back m (Tape1 x) = refl

places_of_media-back : (m : WholeMedia) (x : Option MediaChange) → places_of_media (back_if_any media_change_after_swap m x) ≡ places_of_media x
places_of_media-back m None = refl
places_of_media-back m (Some x) = ap (λ u. media_place u ∷ []) (unit_of_change-back m x)

-- the whole
pub CanSwap-again : (w : Whole) (x : Change) → CanSwap w x → AllFit (after_swap w x).core.storage.fetch_protection (cells_after_exchange w.core x.cells) → CanSwap (after_swap w x) (change_after_swap w x)
CanSwap-again w x h f = (
  AreCellsOf-again w.core x.cells h.0 f,
  HasEachControlOnce-after w.control x.control h.1,
  CanIfAny-again CanSwapUnits units_after_swap unit_change_after_swap CanSwapUnits-again w.units x.units h.2,
  CanIfAny-again CanSwapMedia media_after_swap media_change_after_swap CanSwapMedia-again w.media x.media h.3,
)

-- both exchanges
abbrev whole_twice : Whole → Change → Whole
whole_twice w x = after_swap (after_swap w x) (change_after_swap w x)

pub after_swap-twice : (w : Whole) (x : Change) → CanSwap w x → whole_twice w x ≡ w
after_swap-twice w x h =
    ap (λ k. record (whole_twice w x) { core = k }) (after_exchange-twice w.core x.cells h.0)
    ∙ ap (λ k. record (whole_twice w x) { core = w.core; control = k }) (control_after_exchange-twice w.control x.control h.1)
    ∙ ap (λ k. record w { units = k; media = (whole_twice w x).media }) (after_if_any-twice CanSwapUnits units_after_swap unit_change_after_swap units_after_swap-twice w.units x.units h.2)
    ∙ ap (λ k. record w { media = k }) (after_if_any-twice CanSwapMedia media_after_swap media_change_after_swap media_after_swap-twice w.media x.media h.3)

abbrev change_twice : Whole → Change → Change
change_twice w x = change_after_swap (after_swap w x) (change_after_swap w x)

pub change_after_swap-twice : (w : Whole) (x : Change) → CanSwap w x → change_twice w x ≡ x
change_after_swap-twice w x h =
    ap (λ k. record (change_twice w x) { cells = k }) (cells_after_exchange-twice w.core x.cells h.0)
    ∙ ap (λ k. record (change_twice w x) { cells = x.cells; control = k }) (control_cells_after_exchange-twice w.control x.control h.1)
    ∙ ap (λ k. record x { units = k; media = (change_twice w x).media }) (back_if_any-twice CanSwapUnits units_after_swap unit_change_after_swap unit_change_after_swap-twice w.units x.units h.2)
    ∙ ap (λ k. record x { media = k }) (back_if_any-twice CanSwapMedia media_after_swap media_change_after_swap media_change_after_swap-twice w.media x.media h.3)

-- what an exchange leaves may be exchanged again, which restores all
pub record IsSwap (w : Whole) (x : Change) (v : Whole) (y : Change) : Type 0 where
  pub again : CanSwap v y
  pub whole : after_swap v y ≡ w
  pub change : change_after_swap v y ≡ x

pub IsSwap-from : (w : Whole) (x : Change) (v : Whole) (y : Change) → CanSwap w x → v ≡ after_swap w x → y ≡ change_after_swap w x
    → AllFit v.core.storage.fetch_protection y.cells → IsSwap w x v y
IsSwap-from w x v y h ev ey f = record {
  again = rw (ev, ey) (CanSwap-again w x h (rw (ey, ev) at f));
  whole = rw (ev, ey) (after_swap-twice w x h);
  change = rw (ev, ey) (change_after_swap-twice w x h);
}

-- the core and what is beside it may be exchanged one after the other
pub IsSwap-parts : (w v : Whole) (cs ds : List Cell) (b d : Beside) (core : Core) → core ≡ after_exchange w.core cs → v ≡ after_swap (record w { core = core }) (change_of [] b) → ds ≡ cells_after_exchange w.core cs
    → change_of [] d ≡ change_after_swap (record w { core = core }) (change_of [] b) → CanSwap w (change_of cs b) → AllFit core.storage.fetch_protection ds → IsSwap w (change_of cs b) v (change_of ds d)
IsSwap-parts w v cs ds b d core ec ev es ed can fit =
    let machine : v ≡ after_swap w (change_of cs b) = ev ∙ ap (λ (k : Core). after_swap (record w { core = k }) (change_of [] b)) ec
    in let change : change_of ds d ≡ change_after_swap w (change_of cs b)
    = ap (λ (x : Change). record x { cells = ds }) ed ∙ ap (λ (l : List Cell). record (change_after_swap w (change_of cs b)) { cells = l }) es
    in let same : v.core ≡ core = ap (λ (x : Whole). x.core) ev
    in IsSwap-from w (change_of cs b) v (change_of ds d) can machine change (subst (λ (k : Core). AllFit k.storage.fetch_protection ds) (sym same) fit)

-- an exchange keeps the places
pub places_of_change-after_swap : (w : Whole) (x : Change) → places_of_change (change_after_swap w x) ≡ places_of_change x
places_of_change-after_swap w x =
    rw (
      places_of_cells-cells_after_exchange w.core x.cells,
      places_of_control-after w.control x.control,
      places_of_units-back w.units x.units,
      places_of_media-back w.media x.media,
    ) refl

-- changes and wholes with the same parts
pub same-change : (x y : Change) → x.cells ≡ y.cells → x.control ≡ y.control → x.units ≡ y.units → x.media ≡ y.media → x ≡ y
same-change x y a b c d =
    ap (λ k. record x { cells = k }) a
    ∙ ap (λ k. record x { cells = y.cells; control = k }) b
    ∙ ap (λ k. record y { units = k; media = x.media }) c
    ∙ ap (λ k. record y { media = k }) d
