-- The rows that branch (GA22-6821, "Branching"). The branch address is taken before the link, the count or the sum is stored.
use Rattle.std.specs.Prelude.{ℕ, ◌+◌, ◌-◌, ◌/◌, ◌%◌, ◌^◌, Bool, true, not, nat_eq, if◌then◌else◌, Option, Some, None, unwrap_or}
use Rattle.s360_model.specs.Arithmetic.{signed_sum, word_of}
use Rattle.s360_model.specs.{Numbers.low32, Numbers.signed, Psw.condition_code_of, Psw.stored_psw, Psw.with_instruction_address}
use Rattle.s360_psw.specs.InstructionLength.{length_code_of}
use Rattle.s360_fixed.specs.{declared.row.Branch.Branch, declared.row.IndexBranch.IndexBranch, Outcomes.is_odd, View.View, View.Outcome, View.register_of}
use Rattle.s360_fixed.specs.{Alterations.after_alteration, Alterations.no_register, Alterations.one_register, Alterations.unchanged, Rows.is_taken}

-- the branch address in a register: none in register 0
abbrev pub register_target : View → ℕ → Option ℕ
register_target v r2 = if nat_eq r2 0 then None else Some (register_of v r2)

-- the program goes on at the branch address, where there is one and the branch is taken, or with the next instruction
abbrev pub address_after_branch : View → Bool → Option ℕ → ℕ
address_after_branch v taken target = if taken then unwrap_or target v.next_address else v.next_address

-- the mask has a one for the condition code: 8 for 0, 4 for 1, 2 for 2, 1 for 3
abbrev pub is_selected : ℕ → ℕ → Bool
is_selected mask code = nat_eq (mask / 2 ^ (3 - code) % 2) 1

-- bits 32 to 63 of the PSW, with the length of this instruction and the address of the next
abbrev pub link_of : View → ℕ
link_of v = low32 (stored_psw (with_instruction_address v.core.psw v.next_address) 0 (length_code_of v.instruction_length))

abbrev pub count_less_one : ℕ → ℕ
count_less_one count = low32 (count + (2 ^ 32 - 1))

-- on condition: taken where the mask selects the code. And link: R1 becomes the link. On count: R1 becomes the count less one; taken where it is not zero
abbrev pub branch_outcome : Branch → View → ℕ → Option ℕ → Outcome
branch_outcome Branch.OnCondition v mask target =
    let taken = is_selected mask (condition_code_of v.core.psw)
    in after_alteration v.core (no_register unchanged (address_after_branch v taken target))
branch_outcome Branch.AndLink v r1 target = after_alteration v.core (one_register r1 (link_of v) unchanged (address_after_branch v true target))
branch_outcome Branch.OnCount v r1 target =
    let count = count_less_one (register_of v r1)
    in after_alteration v.core (one_register r1 count unchanged (address_after_branch v (not (nat_eq count 0)) target))

-- the increment is in R3; the comparand too where its number is odd, else in the next register
abbrev pub comparand_of : View → ℕ → ℕ
comparand_of v r3 = if is_odd r3 then register_of v r3 else register_of v (r3 + 1)

-- on index: R1 becomes its sum with the increment, which is compared with the comparand
abbrev pub index_outcome : IndexBranch → View → ℕ → ℕ → ℕ → Outcome
index_outcome branch v r1 r3 address =
    let sum = word_of (signed_sum (register_of v r1) (register_of v r3))
    in let taken = is_taken branch (signed sum) (signed (comparand_of v r3))
    in after_alteration v.core (one_register r1 sum unchanged (address_after_branch v taken (Some address)))
