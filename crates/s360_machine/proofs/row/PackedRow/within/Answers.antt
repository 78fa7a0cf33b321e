use Rattle.std.proofs.Common.{◌≡◌, ◌∙◌, ℕ, Some, sym, Ok, Err, OkIff, Result}
use Rattle.std.specs.Result.{result_ok}
use Rattle.s360_store.specs.Items.{IsRunOf}
use Rattle.s360_machine.proofs.PackedLemmas.{row-of-bytes}
use Rattle.s360_machine.proofs.row.PackedRow.within.Goals as goal

-- a number that is held is the one that there was
number-held : {E : Type 0} (r : Result ℕ E) (P : Type 0) (v n : ℕ) → OkIff r P v → result_ok r ≡ Some n → v ≡ n
number-held (Ok x) P v n h e = let same : x ≡ v = h.1 in cc
number-held (Err x) P v n h e = absurd cc

pub returns-in_ok-count-in-Run : goal.returns-in_ok-count-in-Run
returns-in_ok-count-in-Run c =
    let run : IsRunOf c.args.core.now.cells c.in-Run.address c.in-Run.bytes.now = rw c.in-Run.is at c.beside_psw.ensures
    in row-of-bytes c.args.core.now c.in_ok-psw-in-Run.psw c.in-Run.address c.in_ok-count-in-Run.count c.in-Run.bytes.now (sym c.altered_psw-psw.ensures ∙ c.in_ok-psw-in-Run.was) run.is run.some run.small
    (number-held _ _ _ _ c.try_from.ensures (sym c.ok.ensures.value ∙ c.in_ok-count-in-Run.was))
