-- What an instruction alters that is completed: general registers, the condition code and the instruction address (GA22-6821, "System Structure", program
-- status word, and "Fixed-Point Arithmetic", condition code and program interruptions).
use Rattle.std.specs.Prelude.{ℕ, ◌+◌, false, ◌&&◌, nat_eq, if◌then◌else◌, Option, None, Some, List, [], ◌∷◌, slice_set}
use Rattle.s360_model.specs.{Core.Core, Psw.fixed_point_overflow_mask_of, Psw.with_condition_code, Psw.with_instruction_address}
use Rattle.s360_fixed.specs.declared.{ended.Ended.Ended, program_code.ProgramCode.TheVariants.FixedPointOverflow, setting.CodeSetting.CodeSetting}
use Rattle.s360_fixed.specs.View.{Outcome}

-- the condition code stays, is set, or is set by a signed result, of which code 3 is an overflow
abbrev pub unchanged : CodeSetting
unchanged = record { code = None; overflow = false }

abbrev pub set_to : ℕ → CodeSetting
set_to code = record { code = Some code; overflow = false }

abbrev pub set_by_signed : ℕ → CodeSetting
set_by_signed code = record { code = Some code; overflow = nat_eq code 3 }

-- what is altered
pub record Alteration : Type 0 where
  -- registers, by number, and the words that they become
  pub registers : List (ℕ × ℕ)
  -- what becomes of the condition code
  pub setting : CodeSetting
  -- the address of the instruction with which the program goes on
  pub address : ℕ

-- no register; one; one and the register after it
abbrev pub no_register : CodeSetting → ℕ → Alteration
no_register setting address = record { registers = []; setting = setting; address = address }

abbrev pub one_register : ℕ → ℕ → CodeSetting → ℕ → Alteration
one_register r word setting address = record { registers = (r, word) ∷ []; setting = setting; address = address }

abbrev pub register_pair : ℕ → ℕ × ℕ → CodeSetting → ℕ → Alteration
register_pair r words setting address = record { registers = (r, words.0) ∷ ((r + 1, words.1) ∷ []); setting = setting; address = address }

-- registers, of which some become these words
abbrev pub with_words : List (ℕ × ℕ) → List ℕ → List ℕ
with_words [] registers = registers
with_words (w ∷ others) registers = with_words others (slice_set registers w.0 w.1)

abbrev pub core_with_words : List (ℕ × ℕ) → Core → Core
core_with_words words m = record m { registers = with_words words m.registers }

-- the PSW with a condition code, if one is set
abbrev pub psw_with : Option ℕ → ℕ → ℕ
psw_with None psw = psw
psw_with (Some code) psw = with_condition_code psw code

-- the core with what is altered
abbrev pub core_with_alteration : Alteration → Core → Core
core_with_alteration a m = record m {
  psw = with_instruction_address (psw_with a.setting.code m.psw) a.address;
  registers = with_words a.registers m.registers;
}

-- an overflow interrupts with code 8, where its mask is one, after the instruction is completed
abbrev pub ended_by : CodeSetting → ℕ → Ended
ended_by setting psw = if setting.overflow && fixed_point_overflow_mask_of psw then Ended.Program FixedPointOverflow else Ended.Done

abbrev pub after_alteration : Core → Alteration → Outcome
after_alteration m a = record { ended = ended_by a.setting m.psw; core = core_with_alteration a m }
