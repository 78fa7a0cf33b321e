use Rattle.std.proofs.Common.{◌∙◌, refl, sym}
use Rattle.s360_machine.specs.Machine.{seen}
use Rattle.s360_source.proofs.SecondLemmas.{quotient-walked}
use Rattle.s360_source.proofs.pair.push_quotient.Goals as goal

pub returns-then-has_quotient : goal.returns-then-has_quotient
returns-then-has_quotient c next =
    c.in_ok-push_pair_of.ensures
    ∙ quotient-walked c.args.question c.args.r1 next c.args.second.now (seen c.args.machine.now.whole) c.args.found.now.items c.decide.new.found.items _ _ _
    c.word.ensures (sym c.has_quotient.ensures ∙ c.if-has_quotient.true) (rw (c.number-number.ensures.value, c.part.ensures) refl) c.in_ok-decide.ensures

pub returns : goal.returns
returns c next =
    quotient-walked c.args.question c.args.r1 next c.args.second.now (seen c.args.machine.now.whole) c.args.found.now.items c.decide.new.found.items _ _ _
    c.word.ensures (sym c.has_quotient.ensures ∙ c.if-has_quotient.false) (rw (c.number-number.ensures.value, c.part.ensures) refl) c.in_ok-decide.ensures
