-- An instruction is walked over by the row that it has, after the address of its operand.
use Rattle.std.proofs.Common.{ℕ, ◌≡◌, ◌∙◌, Option, Some, None, List, refl, ap, sym}
use Rattle.s360_store.specs.declared.place.Place.{Place}
use Rattle.s360_fixed.specs.declared.{ended.Ended.Ended}
use Rattle.s360_fixed.specs.declared.operation.Operation.{Operation}
use Rattle.s360_fixed.specs.{Operands.operand_address, Rows.row_of}
use Rattle.s360_logic.specs.{declared.row.Conversion.Conversion, Rows.conversion_of}
use Rattle.s360_machine.specs.Machine.{Machine}
use Rattle.s360_footprint.specs.OperandReadings.{address_read}
use Rattle.s360_footprint.specs.Readings.{bind}
use Rattle.s360_footprint.specs.Rows.{Row}
use Rattle.s360_footprint.proofs.OperandLemmas.{address-is}
use Rattle.s360_source.specs.declared.question.Question.{Question}
use Rattle.s360_source.specs.Parts.{address_parts}
use Rattle.s360_source.specs.Walks.{walked, with_decided}
use Rattle.s360_source.proofs.ReadingPlaces.{address-places}
use Rattle.s360_source.proofs.WalkLemmas.{bind-walked}

-- an operand at an address
pub at-address : (q : Question) (index base displacement : ℕ) (further : ℕ → Row Ended) (m : Machine) (found now after : List Place) (address : ℕ)
    → address ≡ operand_address m.core.registers index base displacement → now ≡ with_decided q (address_parts index base) found
    → after ≡ walked q (further address) m now → after ≡ walked q (bind (address_read index base displacement) further) m found
at-address q index base displacement further m found now after address e h g =
    bind-walked q (address_read index base displacement) further m found now after address (e ∙ sym (address-is index base displacement m))
    (h ∙ ap (λ ps. with_decided q ps found) (sym (address-places index base displacement m))) g

-- the row that an operation has
pub by-row : {Table : Type 0} (q : Question) (rows : Option Table → Row Ended) (m : Machine) (found after : List Place) (of o : Option Table) (x y : Table)
    → o ≡ of → o ≡ Some x → x ≡ y → after ≡ walked q (rows (Some y)) m found → after ≡ walked q (rows of) m found
by-row q rows m found after of o x y e is h g = g ∙ ap (λ z. walked q (rows z) m found) (sym (ap Some h) ∙ sym is ∙ e)

pub without-row : {Table : Type 0} (q : Question) (rows : Option Table → Row Ended) (m : Machine) (found after : List Place) (of o : Option Table)
    → o ≡ of → o ≡ None → after ≡ walked q (rows None) m found → after ≡ walked q (rows of) m found
without-row q rows m found after of o e is g = g ∙ ap (λ z. walked q (rows z) m found) (sym is ∙ e)

-- an operation that converts has no other row
pub conversion-alone : (operation : Operation) (conversion : Conversion) → conversion_of operation ≡ Some conversion → row_of operation ≡ None
conversion-alone Operation.ConvertToBinary conversion e = refl
conversion-alone Operation.ConvertToDecimal conversion e = refl
conversion-alone operation conversion e = absurd (cc)
