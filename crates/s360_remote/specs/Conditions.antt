-- The conditions of a breakpoint, as expressions (gdb manual, "Packets", `Z0`).
use Rattle.std.specs.Prelude.{◌≡◌, ◌⊎◌, ℕ, zero, suc, Err, Ok, List, [], ◌∷◌, length}
use Rattle.s360_condition.specs.Reading.{Reading, reading_of}
use Rattle.s360_condition.specs.declared.instruction.Placed.{Placed}
use Rattle.s360_packet.specs.Conditions.{condition_in}
use Rattle.s360_packet.specs.Requests.{Parsed, and_then}
use Rattle.s360_packet.specs.declared.request.RequestFault.{RequestFault}
use Rattle.s360_packet.specs.declared.request.RequestFault.TheVariants.{Malformed, Memory}

-- bytes that are no expression spoil the list
abbrev pub part_of_reading : Reading → Parsed (List Placed)
part_of_reading (Ok instructions) = Ok instructions
part_of_reading (Err f) = Err Malformed

-- what is wrong with it, or memory lacks
abbrev pub IsFaultOf : {X : Type 0} → Parsed X → RequestFault → Type 0
IsFaultOf part fault = (part ≡ Err fault) ⊎ (fault ≡ Memory)

-- the expressions that a list has, one after another; each takes a byte of the text at least
abbrev pub conditions_from : ℕ → List ℕ → Parsed (List (List Placed))
conditions_from bytes [] = Ok []
conditions_from zero (b ∷ bs) = Err Malformed
conditions_from (suc n) (b ∷ bs) =
    and_then (condition_in (b ∷ bs)) (λ first.
    and_then (part_of_reading (reading_of first.0)) (λ condition.
    and_then (conditions_from n first.1) (λ others. Ok (condition ∷ others))))

abbrev pub conditions_in : List ℕ → Parsed (List (List Placed))
conditions_in text = conditions_from (length text) text
