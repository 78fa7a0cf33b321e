-- Changes of the whole machine.
use Rattle.std.proofs.Common.{◌≡◌, List, [], arith, refl, subst, true, Option, Some, None}
use Rattle.s360_model.specs.Core.{Core}
use Rattle.s360_model.specs.Exchanges.{need_if_any}
use Rattle.s360_store.specs.declared.place.Cell.{Cell}
use Rattle.s360_store.specs.Differences.{IsCoreChangeTo}
use Rattle.s360_store.specs.CoreChanges.{CoreChange, IsCoreChange, after_core_change, cells_of_change}
use Rattle.s360_store.proofs.CoreChangeLemmas.{IsCoreChangeTo-made}
use Rattle.s360_channel.specs.declared.unit_change.UnitChange.{UnitChange}
use Rattle.s360_channel.specs.UnitChanges.{IsUnitsChangeTo}
use Rattle.s360_machine.specs.declared.beside.Beside.{Beside}
use Rattle.s360_machine.specs.Changes.{change_of}
use Rattle.s360_machine.specs.declared.media.MediaChange.{MediaChange}
use Rattle.s360_machine.specs.Change.{Change, NeedsNoRoom, change_after_swap}
use Rattle.s360_machine.specs.ControlCells.{ControlCell, control_cells}
use Rattle.s360_machine.specs.IoChanges.{media_needs}
use Rattle.s360_channel.proofs.UnitChangeLemmas.{units-stay}
use Rattle.s360_machine.specs.Beside.{IsNothing}
use Rattle.s360_machine.specs.Differences.{same_external, same_run_state}
use Rattle.s360_machine.specs.Machine.{Control, Machine, Whole, seen}
use Rattle.s360_machine.proofs.DifferenceLemmas.{same_external-Decides, same_run_state-Decides}
use Rattle.s360_machine.proofs.IoLemmas.{media-stay}
use Rattle.s360_machine.specs.Planned.{IsChangeTo, IsControlChangeTo, IsMediaChangeTo, LeavesOthers, PutsMachine}
use Rattle.s360_machine.specs.Step.{after_patch}
use Rattle.s360_machine.specs.declared.event.Patch.{Patch}
use Rattle.s360_machine.specs.declared.event.Patch.TheVariants.{Bytes, Register, StorageKey, FetchBit, Psw}

-- a change that needs room for nothing needs no room
needs-nothing : (x : Change) (media : Option MediaChange) → x.media ≡ media → need_if_any media_needs media ≡ 0 → NeedsNoRoom x
needs-nothing x None e h = λ s. rw e tt
needs-nothing x (Some y) e h = λ s. rw e (omega (arith, h))

-- what makes the parts of a machine makes that machine
pub IsChangeTo-parts : (w : Whole) (cs : List Cell) (xs : List ControlCell) (us : Option UnitChange) (ms : Option MediaChange) (n : Machine)
    → IsCoreChangeTo w.core cs n.core → IsControlChangeTo w.control xs n.control → IsUnitsChangeTo w.units us n.units → IsMediaChangeTo w.media ms n.media
    → IsChangeTo w (record { cells = cs; control = xs; units = us; media = ms }) n
IsChangeTo-parts w cs xs us ms n h k u m = record {
  can = (h.cells, k.once, u.can, m.can);
  makes = rw (h.makes, k.makes, u.makes, m.makes) refl;
  lists = rw (h.lists, k.lists, u.lists, m.lists) refl;
  back = needs-nothing (change_after_swap w (record { cells = cs; control = xs; units = us; media = ms })) _ refl m.back;
}

-- what alters nothing leaves each part
control-stays : (c : Control) → IsControlChangeTo c [] c
control-stays c =
    let run : same_run_state c.run_state c.run_state ≡ true = (same_run_state-Decides c.run_state c.run_state).1 refl
    in let external : same_external c.external c.external ≡ true = (same_external-Decides c.external c.external).1 refl
    in record { once = tt; makes = refl; lists = rw (run, external) refl }

pub leaves-nothing : (b : Beside) → IsNothing b → (w : Whole) → LeavesOthers w b
leaves-nothing b h w = record { control = rw h.control (control-stays w.control); units = rw h.units (units-stay w.units); media = rw h.media (media-stay w.media) }

-- what puts and what is beside the core make of a machine
pub IsChangeTo-puts : (w : Whole) (x : CoreChange) (b : Beside) (n : Machine) → PutsMachine w (λ m. after_core_change m x) (λ m. IsCoreChange m x) b n → IsChangeTo w (change_of (cells_of_change x) b) n
IsChangeTo-puts w x b n p =
    let core : IsCoreChangeTo w.core (cells_of_change x) n.core = subst (λ k. IsCoreChangeTo w.core (cells_of_change x) k) p.core (IsCoreChangeTo-made w.core x p.allowed)
    in IsChangeTo-parts w (cells_of_change x) (control_cells b.control) b.units b.media n core p.others.control p.others.units p.others.media

-- a patch leaves all beside the core
pub PutsMachine-patch : (w : Whole) (made : Core → Core) (may : Core → Type 0) (b : Beside) (p : Patch) → made w.core ≡ (after_patch (seen w) p).core → may w.core → LeavesOthers w b
    → PutsMachine w made may b (after_patch (seen w) p)
PutsMachine-patch w made may b (Bytes at bytes) c a l = record { core = c; allowed = a; others = record { control = l.control; units = l.units; media = l.media } }
PutsMachine-patch w made may b (Register n word) c a l = record { core = c; allowed = a; others = record { control = l.control; units = l.units; media = l.media } }
PutsMachine-patch w made may b (StorageKey at k) c a l = record { core = c; allowed = a; others = record { control = l.control; units = l.units; media = l.media } }
PutsMachine-patch w made may b (FetchBit at bit) c a l = record { core = c; allowed = a; others = record { control = l.control; units = l.units; media = l.media } }
PutsMachine-patch w made may b (Psw psw) c a l = record { core = c; allowed = a; others = record { control = l.control; units = l.units; media = l.media } }
