-- The instructions of bytes, one after another.
use Rattle.std.proofs.Common.{◌≡◌, ℕ, zero, suc, ◌<◌, ◌≤◌, ◌+◌, ◌++◌, ◌∷◌, [], List, Ok, Err, length, drop, slice_index, slice_range, arith, refl, ap, ◌∙◌, sym, append_assoc, add-one, drop-drop, length-drop}
use Rattle.std.proofs.Math.Seq.{drop-cons, take-length}
use Rattle.s360_condition.specs.Reading.{Reading, before, instruction_at, instructions_in}
use Rattle.s360_condition.specs.declared.instruction.Instruction.{Instruction}
use Rattle.s360_condition.specs.declared.instruction.Placed.{Placed}

abbrev read : List Placed → Reading
read instructions = Ok instructions

-- what was read before, and then a reading
abbrev pub onto : List Placed → Reading → Reading
onto done (Ok more) = Ok (done ++ more)
onto done (Err f) = Err f

-- some instructions of an expression were read, and the bytes from an offset on are left
pub record IsReadUpTo (bytes : List ℕ) (at : ℕ) (done : List Placed) : Type 0 where
  pub within : at ≤ length bytes
  pub rest : onto done (instructions_in (drop at bytes) at 0) ≡ instructions_in bytes 0 0

pub behind_operand : (bytes : List ℕ) (at operand : ℕ) → operand ≤ length bytes → instructions_in bytes at operand ≡ instructions_in (drop operand bytes) (at + operand) 0
behind_operand [] at zero h = refl
behind_operand [] at (suc operand) h = absurd (omega arith)
behind_operand (byte ∷ bytes) at zero h = let same : at + 0 ≡ at = omega arith in rw same refl
behind_operand (byte ∷ bytes) at (suc operand) h =
    let same : at + 1 + operand ≡ at + suc operand = omega arith
    in rw (← same) (behind_operand bytes (at + 1) operand (omega arith))

onto_before : (done : List Placed) (first : Placed) (reading : Reading) → onto done (before first reading) ≡ onto (done ++ first ∷ []) reading
onto_before done first (Ok more) = ap (λ (l : List Placed). read l) (sym (append_assoc done (first ∷ []) more))
onto_before done first (Err f) = refl

-- the instruction at an offset is read
pub read_more : (bytes : List ℕ) (at operand : ℕ) (done more : List Placed) (instruction : Instruction)
    → at < length bytes → IsReadUpTo bytes at done
    → Ok (instruction, operand) ≡ instruction_at at (slice_index bytes at) (slice_range bytes (at + 1) (length bytes))
    → operand ≤ length (slice_range bytes (at + 1) (length bytes)) → more ≡ done ++ record { at = at; instruction = instruction } ∷ []
    → IsReadUpTo bytes (at + (1 + operand)) more
read_more bytes at operand done more instruction inside is found short grown =
    let first : Placed = record { at = at; instruction = instruction }
    in let rest : ℕ → Reading = λ n. instructions_in (drop n bytes) n 0
    in let behind : slice_range bytes (at + 1) (length bytes) ≡ drop (at + 1) bytes
    = rw (← (length-drop (at + 1) bytes)) (take-length (drop (at + 1) bytes))
    in let here : drop at bytes ≡ slice_index bytes at ∷ drop (at + 1) bytes = rw add-one (drop-cons bytes at 0 inside)
    in let offset : at + 1 + operand ≡ at + (1 + operand) = omega arith
    in let next : drop operand (drop (at + 1) bytes) ≡ drop (at + (1 + operand)) bytes = drop-drop operand (at + 1) bytes ∙ ap (λ n. drop n bytes) offset
    in let fits : operand ≤ length (drop (at + 1) bytes) = rw behind at short
    in let one : rest at ≡ before first (rest (at + (1 + operand)))
    = rw (here, ← (rw behind at found), behind_operand (drop (at + 1) bytes) (at + 1) operand fits, next, offset) refl
    in record {
      within = omega (arith, length-drop (at + 1) bytes);
      rest = rw grown (sym (onto_before done first (rest (at + (1 + operand)))) ∙ ap (onto done) (sym one) ∙ is.rest);
    }
