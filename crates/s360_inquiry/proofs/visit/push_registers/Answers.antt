use Rattle.std.proofs.Common.{List, ℕ, ◌++◌, ◌∙◌, ap, sym, arith}
use Rattle.s360_inquiry.specs.Visits.{register_since}
use Rattle.s360_language.proofs.ShownLemmas.{pushed, told-next}
use Rattle.s360_inquiry.proofs.visit.push_registers.Goals as goal

pub loop-number-preserved : goal.loop-number-preserved
loop-number-preserved c =
    pushed c.args.text.now c.loop-number.text _ _ _ c.loop-number.invariant c.in_ok-push_register.ensures
    ∙ ap (λ (t : List ℕ). c.args.text.now ++ t)
    (sym (told-next (register_since c.args.recording.now c.in-Some.first) 0 c.loop-number.number c.loop-number.number (omega arith)))
