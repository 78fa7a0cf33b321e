-- Rows that alter registers, the condition code and the instruction address, each by a reading of its own; and rows that are refused (GA22-6821, "System
-- Structure", program status word, and "Interruptions", program interruption).
use Rattle.std.specs.Prelude.{ℕ, Bool, false, if◌then◌else◌, Option, None, Some, List, [], ◌∷◌, ◌++◌, map}
use Rattle.s360_model.specs.{Psw.fixed_point_overflow_mask_of, Psw.with_instruction_address}
use Rattle.s360_store.specs.declared.place.Place.TheVariants.{Psw, Register}
use Rattle.s360_psw.specs.declared.instruction_length.InstructionLength.{InstructionLength}
use Rattle.s360_fixed.specs.declared.{ended.Ended.Ended, program_code.ProgramCode.ProgramCode}
use Rattle.s360_fixed.specs.declared.program_code.ProgramCode.TheVariants.{FixedPointOverflow}
use Rattle.s360_fixed.specs.Alterations.{Alteration, psw_with}
use Rattle.s360_fixed.specs.View.{Outcome, View}
use Rattle.s360_machine.specs.Machine.{Machine}
use Rattle.s360_footprint.specs.Readings.{Reading, bind, done, read, run}
use Rattle.s360_footprint.specs.Rows.{Made, Row, Store, with_stores}

-- how an event ends, and the machine afterwards: by what it does, by its row, and by the outcome of an instruction, which alters the core alone
pub record Happened (Ending : Type 0) : Type 0 where
  pub ended : Ending
  pub machine : Machine

abbrev pub happened_by : {Ending : Type 0} → Made Ending → Machine → Happened Ending
happened_by made m = record { ended = made.ended; machine = with_stores m m made.stores }

abbrev pub happened : {Ending : Type 0} → Row Ending → Machine → Happened Ending
happened row m = happened_by (run row m) m

abbrev pub with_outcome : Machine → Outcome → Happened Ended
with_outcome m outcome = record { ended = outcome.ended; machine = record m { core = outcome.core } }

-- what an instruction works on that was fetched
abbrev pub view_in : Machine → ℕ → InstructionLength → View
view_in m next length = record { core = m.core; next_address = next; instruction_length = length }

-- an instruction that is refused stores nothing
abbrev pub refused : ProgramCode → Row Ended
refused code = done (record { ended = Ended.Program code; stores = [] })

abbrev pub unless_refused : Option ProgramCode → Row Ended → Row Ended
unless_refused None row = row
unless_refused (Some code) row = refused code

-- what is altered, as readings: registers by their numbers; a condition code, if one is set; whether there is an overflow; and the address at which the
-- program goes on
pub record Altering : Type 0 where
  pub registers : List (ℕ × Reading ℕ)
  pub code : Reading (Option ℕ)
  pub overflow : Reading Bool
  pub address : Reading ℕ

-- what that is in a machine
abbrev pub word_in : Machine → ℕ × Reading ℕ → ℕ × ℕ
word_in m word = (word.0, run word.1 m)

abbrev pub altered_in : Altering → Machine → Alteration
altered_in a m = record {
  registers = map (word_in m) a.registers;
  setting = record { code = run a.code m; overflow = run a.overflow m };
  address = run a.address m;
}

-- the stores of registers
abbrev pub register_stores : List (ℕ × Reading ℕ) → List Store
register_stores [] = []
register_stores (word ∷ words) = record { place = Register word.0; value = word.1 } ∷ register_stores words

-- the PSW with a condition code and an instruction address
abbrev pub psw_altered : Reading (Option ℕ) → Reading ℕ → Reading ℕ
psw_altered code address =
    read Psw (λ psw. bind code (λ c. bind address (λ next. done (with_instruction_address (psw_with c psw) next))))

abbrev pub psw_store : Reading (Option ℕ) → Reading ℕ → List Store
psw_store code address = record { place = Psw; value = psw_altered code address } ∷ []

-- an overflow is looked at where its mask is one
abbrev pub overflow_ending : Bool → Ended
overflow_ending overflow = if overflow then Ended.Program FixedPointOverflow else Ended.Done

abbrev pub ended_altering : Reading Bool → Reading Ended
ended_altering overflow =
    read Psw (λ psw. if fixed_point_overflow_mask_of psw then bind overflow (λ o. done (overflow_ending o)) else done Ended.Done)

abbrev pub altering_row : Altering → Row Ended
altering_row a =
    bind (ended_altering a.overflow)
    (λ ended. done (record { ended = ended; stores = register_stores a.registers ++ psw_store a.code a.address }))

-- the condition code stays, there is no overflow, and the program goes on at an address
abbrev pub registers_altered : List (ℕ × Reading ℕ) → ℕ → Altering
registers_altered words next = record { registers = words; code = done None; overflow = done false; address = done next }

-- an instruction is completed with stores, sets no condition code, and the program goes on with the next
abbrev pub completed_row : List Store → ℕ → Row Ended
completed_row stores next = done (record { ended = Ended.Done; stores = stores ++ psw_store (done None) (done next) })
