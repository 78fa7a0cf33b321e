-- The printed names of places, events, refusals, run states and external conditions (own profile).
use Rattle.std.specs.Prelude.{ℕ, ◌*◌, Bool, true, false, List, ◌++◌, codes}
use Rattle.s360_model.specs.Text.{hex_text}
use Rattle.s360_model.specs.Storage.{block_size}
use Rattle.s360_text.specs.Counts.{counted}
use Rattle.s360_store.specs.declared.place.Place.{Place}
use Rattle.s360_store.specs.declared.place.Place.TheVariants.{Psw, Register, Byte, Key, Run, External, UnitState, UnitMedia}
use Rattle.s360_machine.specs.declared.event_kind.EventKind.{EventKind}
use Rattle.s360_machine.specs.declared.event_kind.EventKind.TheVariants.{Cpu, Channel, Tick, Key as key_event, Patch as patch}
use Rattle.s360_machine.specs.declared.event_kind.KeyKind.{KeyKind}
use Rattle.s360_machine.specs.declared.event_kind.KeyKind.TheVariants.{Start, Stop, Reset, Interrupt, EndOfFile, Request, Enter, Load}
use Rattle.s360_machine.specs.declared.event_kind.PatchKind.{PatchKind}
use Rattle.s360_machine.specs.declared.event_kind.PatchKind.TheVariants.{Bytes, Register as register, StorageKey, FetchBit, Psw as psw}
use Rattle.s360_machine.specs.declared.external.ExternalConditions.{ExternalConditions}
use Rattle.s360_machine.specs.declared.refusal.Refusal.{Refusal}
use Rattle.s360_machine.specs.declared.refusal.Refusal.TheVariants.{Memory, OutsideStorage, NoSuchUnit, LineTooLong, PatchTooLong, JournalFull}
use Rattle.s360_machine.specs.declared.run_state.RunState.{RunState}
use Rattle.s360_machine.specs.declared.run_state.RunState.TheVariants.{Operating, Stopped, Loading}
use Rattle.s360_machine.specs.Refusals.{number_of_refusal}

-- a key by its block's first address
abbrev pub place_name : Place → List ℕ
place_name Psw = codes "p"
place_name (Register n) = codes "r" ++ hex_text 1 n
place_name (Byte a) = codes "s" ++ hex_text 6 a
place_name (Key b) = codes "k" ++ hex_text 6 (b * block_size)
place_name Run = codes "run"
place_name External = codes "ext"
place_name (UnitState u) = codes "u" ++ hex_text 3 u.0
place_name (UnitMedia u) = codes "d" ++ hex_text 3 u.0

abbrev pub key_name : KeyKind → List ℕ
key_name Start = codes "key start"
key_name Stop = codes "key stop"
key_name Reset = codes "key reset"
key_name Interrupt = codes "key interrupt"
key_name EndOfFile = codes "key eof"
key_name Request = codes "key request"
key_name Enter = codes "enter"
key_name (Load unit) = codes "load " ++ hex_text 3 unit.0

abbrev pub patch_name : PatchKind → List ℕ
patch_name Bytes = codes "patch s"
patch_name register = codes "patch r"
patch_name StorageKey = codes "patch k"
patch_name FetchBit = codes "patch f"
patch_name psw = codes "patch p"

abbrev pub event_name : EventKind → List ℕ
event_name Cpu = codes "cpu"
event_name (Channel unit) = codes "channel " ++ hex_text 3 unit.0
event_name Tick = codes "tick"
event_name (key_event k) = key_name k
event_name (patch p) = patch_name p

abbrev pub refusal_name : Refusal → List ℕ
refusal_name Memory = codes "memory"
refusal_name OutsideStorage = codes "outside storage"
refusal_name NoSuchUnit = codes "no such unit"
refusal_name LineTooLong = codes "line too long"
refusal_name PatchTooLong = codes "patch too long"
refusal_name JournalFull = codes "journal full"

-- what a refusal answers: its number and its name
abbrev pub refused_text : Refusal → List ℕ
refused_text r = counted (codes "refused ") (number_of_refusal r) ++ codes " " ++ refusal_name r ++ codes "\n"

-- after a blank
abbrev pub run_state_name : RunState → List ℕ
run_state_name Operating = codes " operating"
run_state_name Stopped = codes " stopped"
run_state_name (Loading unit) = codes " loading " ++ hex_text 3 unit.0

-- the conditions of the timer and of the interrupt key, after a blank
abbrev pub conditions_name : Bool → Bool → List ℕ
conditions_name false false = codes " none"
conditions_name true false = codes " timer"
conditions_name false true = codes " key"
conditions_name true true = codes " timer key"

abbrev pub external_name : ExternalConditions → List ℕ
external_name e = conditions_name e.timer e.key
