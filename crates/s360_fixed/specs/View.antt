-- What an instruction that was fetched works on: the core as it finds it, the address of the next instruction, and its own length.
use Rattle.std.specs.Prelude.{ℕ, slice_index}
use Rattle.s360_model.specs.Core.{Core}
use Rattle.s360_psw.specs.declared.instruction_length.InstructionLength.{InstructionLength}
use Rattle.s360_fixed.specs.declared.ended.Ended.{Ended}

pub record View : Type 0 where
  pub core : Core
  pub next_address : ℕ
  pub instruction_length : InstructionLength

-- the word in a register
abbrev pub register_of : View → ℕ → ℕ
register_of v r = slice_index v.core.registers r

-- how an instruction ends, with the core that goes with it
pub record Outcome : Type 0 where
  pub ended : Ended
  pub core : Core
