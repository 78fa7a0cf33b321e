-- Branches are walked over by the registers that they are made of.
use Rattle.std.proofs.Common.{ℕ, ◌≡◌, ◌∙◌, ◌++◌, Option, List, [], ◌∷◌, refl, ap, sym}
use Rattle.s360_psw.specs.declared.instruction_length.InstructionLength.{InstructionLength}
use Rattle.s360_store.specs.declared.place.Place.{Place}
use Rattle.s360_store.specs.declared.place.Place.TheVariants.{Psw, Register}
use Rattle.s360_fixed.specs.declared.row.{Branch.Branch}
use Rattle.s360_machine.specs.Machine.{Machine}
use Rattle.s360_footprint.specs.Readings.{Reading, places_read}
use Rattle.s360_footprint.specs.RegisterRows.{branch_altering, branch_row}
use Rattle.s360_footprint.proofs.ReadingLemmas.{places-bind}
use Rattle.s360_source.specs.declared.question.Question.{Question}
use Rattle.s360_source.specs.Walks.{branch_walk, walked}
use Rattle.s360_source.proofs.ReadingPlaces.{mapped}
use Rattle.s360_source.proofs.WalkLemmas.{altering-walked}

pub branch-walked : (q : Question) (branch : Branch) (r1 : ℕ) (target : Reading (Option ℕ)) (next : ℕ) (length : InstructionLength) (m : Machine)
    (found ps : List Place) → places_read target m ≡ ps
    → branch_walk q m.core.psw branch r1 ps found ≡ walked q (branch_row branch r1 target next length) m found
branch-walked q Branch.OnCondition r1 target next length m found ps e =
    sym (altering-walked q (branch_altering Branch.OnCondition r1 target next length) m [] [] [] (ps ++ Psw ∷ []) found refl (λ before. refl)
    (places-bind target _ m ∙ ap (λ xs. xs ++ Psw ∷ []) e))
branch-walked q Branch.AndLink r1 target next length m found ps e =
    sym (altering-walked q (branch_altering Branch.AndLink r1 target next length) m [] (Register r1 ∷ []) (Psw ∷ []) ps found refl (λ before. refl)
    (mapped target _ m ∙ e))
branch-walked q Branch.OnCount r1 target next length m found ps e =
    sym (altering-walked q (branch_altering Branch.OnCount r1 target next length) m [] (Register r1 ∷ []) (Register r1 ∷ []) (ps ++ Register r1 ∷ []) found
    refl (λ before. refl) (places-bind target _ m ∙ ap (λ xs. xs ++ Register r1 ∷ []) e))
