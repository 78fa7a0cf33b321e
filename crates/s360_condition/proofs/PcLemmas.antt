-- Instructions that are read have the value that the manual's machine finds in their bytes.
use Rattle.std.proofs.Common.{◌≡◌, ℕ, zero, suc, ◌<◌, ◌≤◌, ◌+◌, ◌⊎◌, inl, inr, ◌∷◌, [], List, Option, Some, None, Result, Ok, Err, Bool, true, false, cond, length, drop, take, slice_index, nat_le, nat_lt, nat_eq, arith, refl, ap, ◌∙◌, sym, add-one, drop-drop, length-drop}
use Rattle.std.proofs.Math.ListN.{drop_of_length-le}
use Rattle.std.proofs.Math.Seq.{drop-cons}
use Rattle.std.proofs.lemmas.Bool.{cases_lt, cases_eq, cases_Bool, lt-ltb, le-ltb, leb-true, ne_eqb}
use Rattle.std.specs.List.{list_any}
use Rattle.s360_condition.specs.Evaluation.{after_instruction, led_on, onwards, onwards_with, run, value_of}
use Rattle.s360_condition.specs.Instructions.{jump_of, operand_bytes, instruction_with}
use Rattle.s360_condition.specs.Laws.{run_by_pc}
use Rattle.s360_condition.specs.Reading.{Reading, and_jumps, before, big_endian, first_astray, followed, goes_on, instruction_at, instructions_in, known, reading_of, with_jumps}
use Rattle.s360_condition.specs.Target.{Target}
use Rattle.s360_condition.specs.Values.{Evaluated}
use Rattle.s360_condition.specs.declared.evaluation.Next.{Next}
use Rattle.s360_condition.specs.declared.evaluation.Next.TheVariants.{Following, At, Ended}
use Rattle.s360_condition.specs.declared.fault.ExpressionFault.{ExpressionFault}
use Rattle.s360_condition.specs.declared.fault.ExpressionFault.TheVariants.{CutOff, TooLong}
use Rattle.s360_condition.specs.declared.instruction.Instruction.{Instruction}
use Rattle.s360_condition.specs.declared.instruction.Instruction.TheVariants.{Binary, Unary, Ref, Const, Reg, Pick, Pop, Swap, Rot, IfGoto, Goto, End}
use Rattle.s360_condition.specs.declared.instruction.Placed.{Placed}
use Rattle.s360_condition.proofs.ReadingLemmas.{behind_operand}

-- the bytes from an offset on are these instructions, whose jumps go forward
record IsRead (bytes : List ℕ) (at : ℕ) (more : List Placed) : Type 0 where
  within : at ≤ length bytes
  reading : instructions_in (drop at bytes) at 0 ≡ Ok more
  jumps : first_astray more ≡ None

abbrev placed : ℕ → Instruction → Placed
placed at instruction = record { at = at; instruction = instruction }

-- they begin with an instruction
record IsFirst (bytes : List ℕ) (at : ℕ) (more : List Placed) : Type 0 where
  inside : at < length bytes
  instruction : Instruction
  operand : ℕ
  rest : List Placed
  found : instruction_at at (slice_index bytes at) (drop (at + 1) bytes) ≡ Ok (instruction, operand)
  is : more ≡ placed at instruction ∷ rest
  on : goes_on (jump_of instruction) rest ≡ true
  read : IsRead bytes (at + 1 + operand) rest

record IsBefore (first : Placed) (reading : Reading) (more : List Placed) : Type 0 where
  rest : List Placed
  reading_is : reading ≡ Ok rest
  is : more ≡ first ∷ rest

before_ok : (first : Placed) (reading : Reading) (more : List Placed) → before first reading ≡ Ok more → IsBefore first reading more
before_ok first (Ok rest) more h = record { rest = rest; reading_is = refl; is = cc }
before_ok first (Err f) more h = cc

record IsFollowed (at : ℕ) (found : Result (Instruction × ℕ) ExpressionFault) (behind : ℕ → Reading) (more : List Placed) : Type 0 where
  instruction : Instruction
  operand : ℕ
  found_is : found ≡ Ok (instruction, operand)
  before : IsBefore (placed at instruction) (behind operand) more

followed_ok : (at : ℕ) (found : Result (Instruction × ℕ) ExpressionFault) (behind : ℕ → Reading) (more : List Placed) → followed at found behind ≡ Ok more → IsFollowed at found behind more
followed_ok at (Ok (instruction, operand)) behind more h = record {
  instruction = instruction;
  operand = operand;
  found_is = refl;
  before = before_ok (placed at instruction) (behind operand) more h;
}
followed_ok at (Err f) behind more h = cc

operand_of : (p q : Instruction × ℕ) → ◌≡◌ {A = Result (Instruction × ℕ) ExpressionFault} (Ok p) (Ok q) → p.1 ≡ q.1
operand_of p q h = let same : p ≡ q = cc in ap (λ (r : Instruction × ℕ). r.1) same

known_fits : (at count : ℕ) (fits : Bool) (found : Option Instruction) (instruction : Instruction) (operand : ℕ)
    → cond fits (known at count found) (Err (CutOff at)) ≡ Ok (instruction, operand) → (fits ≡ true) × (count ≡ operand)
known_fits at count true (Some i) instruction operand h = (refl, operand_of (i, count) (instruction, operand) h)
known_fits at count true None instruction operand h = cc
known_fits at count false found instruction operand h = cc

operand_fits : (at code : ℕ) (bytes : List ℕ) (instruction : Instruction) (operand : ℕ) → instruction_at at code bytes ≡ Ok (instruction, operand) → operand ≤ length bytes
operand_fits at code bytes instruction operand h =
    let is = known_fits at (operand_bytes code) (nat_le (operand_bytes code) (length bytes)) (instruction_with code (big_endian (take (operand_bytes code) bytes))) instruction operand h
    in rw (← is.1) (leb-true (operand_bytes code) (length bytes) is.0)

astray_parts : (on : Bool) (at : ℕ) (others : Option ℕ) → cond on others (Some at) ≡ None → (on ≡ true) × (others ≡ None)
astray_parts true at others h = (refl, h)
astray_parts false at others h = cc

-- nothing is left, or there is a first instruction
parts : (bytes : List ℕ) (at : ℕ) (more : List Placed) → IsRead bytes at more → ((length bytes ≤ at) × (more ≡ [])) ⊎ IsFirst bytes at more
parts bytes at more is =
    elim (cases_lt at (length bytes)) [
      | inl inside ↦
          let here : drop at bytes ≡ slice_index bytes at ∷ drop (at + 1) bytes = rw add-one (drop-cons bytes at 0 inside)
          in let found = followed_ok at (instruction_at at (slice_index bytes at) (drop (at + 1) bytes)) (instructions_in (drop (at + 1) bytes) (at + 1)) more (rw here at is.reading)
          in let fits : found.operand ≤ length (drop (at + 1) bytes) = operand_fits at (slice_index bytes at) (drop (at + 1) bytes) found.instruction found.operand found.found_is
          in let next : drop found.operand (drop (at + 1) bytes) ≡ drop (at + 1 + found.operand) bytes = drop-drop found.operand (at + 1) bytes
          in let jumps = astray_parts (goes_on (jump_of found.instruction) found.before.rest) at (first_astray found.before.rest) (rw found.before.is at is.jumps)
          in inr (record {
            inside = inside;
            instruction = found.instruction;
            operand = found.operand;
            rest = found.before.rest;
            found = found.found_is;
            is = found.before.is;
            on = jumps.0;
            read = record {
              within = omega (arith, length-drop (at + 1) bytes);
              reading = rw (← next) (sym (behind_operand (drop (at + 1) bytes) (at + 1) found.operand fits) ∙ found.before.reading_is);
              jumps = jumps.1;
            };
          })
      | inr past ↦
          let none : drop at bytes ≡ [] = drop_of_length-le bytes past
          in let read : ◌≡◌ {A = Reading} (Ok []) (Ok more) = rw none at is.reading
          in inl (past, cc)
    ]

next_of : (p q : Next × List ℕ) → ◌≡◌ {A = Evaluated (Next × List ℕ)} (Ok p) (Ok q) → p.0 ≡ q.0
next_of p q h = let same : p ≡ q = cc in ap (λ (r : Next × List ℕ). r.0) same

-- what leaves a value goes on to the following instruction
onwards_follows : (stack rest : List ℕ) (to : ℕ) → onwards stack ≡ Ok (At to, rest) → ⊥
onwards_follows stack rest to h =
    elim (cases_Bool (nat_le (length stack) 64)) [
      | inl fits ↦ let other : Following ≡ At to = next_of (Following, stack) (At to, rest) (rw fits at h) in cc
      | inr high ↦ let k = rw high at h in cc
    ]

with_follows : (value : Evaluated ℕ) (stack rest : List ℕ) (to : ℕ) → onwards_with value stack ≡ Ok (At to, rest) → ⊥
with_follows (Ok value) stack rest to h = onwards_follows (value ∷ stack) rest to h
with_follows (Err f) stack rest to h = cc

if_jumps : (zero_is : Bool) (to there : ℕ) (stack rest : List ℕ) → ◌≡◌ {A = Evaluated (Next × List ℕ)} (Ok (cond zero_is Following (At there), stack)) (Ok (At to, rest)) → there ≡ to
if_jumps true to there stack rest h = let other : Following ≡ At to = next_of (Following, stack) (At to, rest) h in cc
if_jumps false to there stack rest h = let same : At there ≡ At to = next_of (At there, stack) (At to, rest) h in cc

-- a jump alone leads to an offset: its own
jumps_to : (t : Target) (instruction : Instruction) (stack rest : List ℕ) (to : ℕ) → after_instruction t instruction stack ≡ Ok (At to, rest) → jump_of instruction ≡ Some to
jumps_to t (Binary op) (b ∷ a ∷ stack) rest to h = absurd (with_follows _ stack rest to h)
jumps_to t (Unary op) (a ∷ stack) rest to h = absurd (with_follows _ stack rest to h)
jumps_to t (Ref width) (a ∷ stack) rest to h = absurd (with_follows _ stack rest to h)
jumps_to t (Const n) stack rest to h = absurd (onwards_follows (n ∷ stack) rest to h)
jumps_to t (Reg number) stack rest to h = absurd (with_follows _ stack rest to h)
jumps_to t (Pick depth) stack rest to h = absurd (with_follows _ stack rest to h)
jumps_to t Pop (a ∷ stack) rest to h = let other : Following ≡ At to = next_of (Following, stack) (At to, rest) h in cc
jumps_to t Swap (b ∷ a ∷ stack) rest to h = absurd (onwards_follows (a ∷ b ∷ stack) rest to h)
jumps_to t Rot (c ∷ b ∷ a ∷ stack) rest to h = absurd (onwards_follows (b ∷ a ∷ c ∷ stack) rest to h)
jumps_to t (IfGoto there) (a ∷ stack) rest to h = ap (λ (n : ℕ). Some n) (if_jumps (nat_eq a 0) to there stack rest h)
jumps_to t (Goto there) stack rest to h = let same : At there ≡ At to = next_of (At there, stack) (At to, rest) h in cc
jumps_to t End (a ∷ stack) rest to h = let other : Ended a ≡ At to = next_of (Ended a, stack) (At to, rest) h in cc
jumps_to t instruction stack rest to h = cc

-- a jump reaches its instruction: those before it are passed over
record IsReached (t : Target) (bytes : List ℕ) (at to : ℕ) (more : List Placed) (stack : List ℕ) : Type 0 where
  behind : List Placed
  read : IsRead bytes to behind
  on : at ≤ to
  same : run t more to stack ≡ run t behind to stack

reached : (t : Target) (bytes : List ℕ) (at to : ℕ) (more : List Placed) (stack : List ℕ) → IsRead bytes at more
    → list_any (λ p. nat_eq p.at to) more ≡ true → IsReached t bytes at to more stack
reached t bytes at to [] stack is any = cc
reached t bytes at to (p ∷ rest) stack is any =
    elim (parts bytes at (p ∷ rest) is) [
      | inl none ↦ let no = none.1 in cc
      | inr first ↦
          let here : p ≡ placed at first.instruction = let k = first.is in cc
          in let others : rest ≡ first.rest = let k = first.is in cc
          in let offset : p.at ≡ at = ap (λ (q : Placed). q.at) here
          in elim (cases_eq at to) [
            | inl same ↦ record { behind = p ∷ rest; read = rw (← same) is; on = omega arith; same = refl }
            | inr not ↦
                let other : nat_eq p.at to ≡ false = ne_eqb p.at to (λ e. not (sym offset ∙ e))
                in let next : IsRead bytes (at + 1 + first.operand) rest = rw others first.read
                in let found = reached t bytes (at + 1 + first.operand) to rest stack next (rw other at any)
                in let low : at + 1 + first.operand ≤ to = found.on
                in let passed : nat_lt p.at to ≡ true = lt-ltb p.at to (omega arith)
                in record { behind = found.behind; read = found.read; on = omega arith; same = rw passed found.same }
          ]
    ]

-- the manual's machine goes on as the instructions from here on do
abbrev GoesOn : Target → List ℕ → ℕ → Type 0
GoesOn t bytes steps =
    (at pc : ℕ) (more : List Placed) (stack : List ℕ) → IsRead bytes at more → length bytes ≤ steps + at → pc ≤ at
    → run t more pc stack ≡ run_by_pc t bytes steps at stack

led : (t : Target) (bytes : List ℕ) (steps at pc : ℕ) (more : List Placed) (first : IsFirst bytes at more) (stack : List ℕ)
    → GoesOn t bytes steps → length bytes ≤ suc steps + at → pc ≤ at
    → (outcome : Evaluated (Next × List ℕ)) → after_instruction t first.instruction stack ≡ outcome
    → led_on outcome pc (run t first.rest) ≡ led_on outcome (at + 1 + first.operand) (run_by_pc t bytes steps)
led t bytes steps at pc more first stack further few low (Ok (Following, rest)) is = further (at + 1 + first.operand) pc first.rest rest first.read (omega arith) (omega arith)
led t bytes steps at pc more first stack further few low (Ok (At to, rest)) is =
    let jump : jump_of first.instruction ≡ Some to = jumps_to t first.instruction stack rest to is
    in let there = reached t bytes (at + 1 + first.operand) to first.rest rest first.read (rw jump at first.on)
    in let on : at + 1 + first.operand ≤ to = there.on
    in there.same ∙ further to to there.behind rest there.read (omega arith) (omega arith)
led t bytes steps at pc more first stack further few low (Ok (Ended value, rest)) is = refl
led t bytes steps at pc more first stack further few low (Err f) is = refl

goes_on_by_pc : (t : Target) (bytes : List ℕ) (steps : ℕ) → GoesOn t bytes steps
goes_on_by_pc t bytes zero at pc more stack is few low =
    elim (parts bytes at more is) [
      | inl none ↦ rw none.1 refl
      | inr first ↦ let inside = first.inside in absurd (omega arith)
    ]
goes_on_by_pc t bytes (suc steps) at pc more stack is few low =
    elim (parts bytes at more is) [
      | inl none ↦ rw (none.1, le-ltb at (length bytes) none.0) refl
      | inr first ↦
          rw (first.is, le-ltb at pc low, lt-ltb at (length bytes) first.inside, first.found)
          (led t bytes steps at pc more first stack (goes_on_by_pc t bytes steps) few low (after_instruction t first.instruction stack) refl)
    ]

with_ok : (found instructions : List Placed) (astray : Option ℕ) → first_astray found ≡ astray → with_jumps found astray ≡ Ok instructions
    → (◌≡◌ {A = Reading} (Ok found) (Ok instructions)) × (first_astray instructions ≡ None)
with_ok found instructions None is h = (h, let same : found ≡ instructions = cc in rw (← same) is)
with_ok found instructions (Some at) is h = cc

short_ok : (short : Bool) (reading : Reading) (instructions : List Placed) → cond short reading (Err TooLong) ≡ Ok instructions → reading ≡ Ok instructions
short_ok true reading instructions h = h
short_ok false reading instructions h = cc

jumps_ok : (reading : Reading) (instructions : List Placed) → and_jumps reading ≡ Ok instructions → (reading ≡ Ok instructions) × (first_astray instructions ≡ None)
jumps_ok (Ok found) instructions h = with_ok found instructions (first_astray found) refl h
jumps_ok (Err f) instructions h = cc

pub value_is : (t : Target) (bytes : List ℕ) (instructions : List Placed) → reading_of bytes ≡ Ok instructions → value_of t instructions ≡ run_by_pc t bytes (length bytes) 0 []
value_is t bytes instructions h =
    let read = jumps_ok (instructions_in bytes 0 0) instructions (short_ok (nat_le (length bytes) 4096) (and_jumps (instructions_in bytes 0 0)) instructions h)
    in goes_on_by_pc t bytes (length bytes) 0 0 instructions [] (record { within = omega arith; reading = read.0; jumps = read.1 }) (omega arith) (omega arith)
