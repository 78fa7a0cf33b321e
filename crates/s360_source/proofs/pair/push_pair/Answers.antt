use Rattle.std.proofs.Common.{◌∙◌, ap, refl, sym}
use Rattle.s360_fixed.specs.Outcomes.{is_odd}
use Rattle.s360_fixed.specs.declared.row.PairCombination.{PairCombination}
use Rattle.s360_machine.specs.Machine.{seen}
use Rattle.s360_footprint.specs.OperandReadings.{profile_of}
use Rattle.s360_footprint.specs.RegisterRows.{pair_row}
use Rattle.s360_source.specs.Seconds.{pair_done, pair_met, second_reading}
use Rattle.s360_source.specs.Walks.{walked}
use Rattle.s360_source.proofs.SecondLemmas.{pair-code, product-walked}
use Rattle.s360_source.proofs.WalkLemmas.{done-walked, refused-walked}
use Rattle.s360_source.proofs.pair.push_pair.Goals as goal

pub returns-in-Some-default : goal.returns-in-Some-default
returns-in-Some-default c next =
    refused-walked c.args.question (second_reading (profile_of c.args.machine.now.whole.core) c.args.second.now).conditions (pair_met (is_odd c.args.r1))
    (pair_done c.args.pair c.args.r1 (second_reading (profile_of c.args.machine.now.whole.core) c.args.second.now).value next)
    (seen c.args.machine.now.whole) c.args.found.now.items _ _ _
    (pair-code c.args.second.now c.args.r1 (seen c.args.machine.now.whole) _ _ c.in_ok-met.ensures.code c.pair_exception.ensures.code)
    c.in-Some-default.is-0 c.in_ok-met.ensures.read

pub returns-in_ok-push_pair_of-in-None-Product : goal.returns-in_ok-push_pair_of-in-None-Product
returns-in_ok-push_pair_of-in-None-Product c next =
    done-walked c.args.question (second_reading (profile_of c.args.machine.now.whole.core) c.args.second.now).conditions (pair_met (is_odd c.args.r1))
    (pair_done PairCombination.Product c.args.r1 (second_reading (profile_of c.args.machine.now.whole.core) c.args.second.now).value next)
    (seen c.args.machine.now.whole) c.args.found.now.items _ _ _
    (pair-code c.args.second.now c.args.r1 (seen c.args.machine.now.whole) _ _ c.in_ok-met.ensures.code c.pair_exception.ensures.code)
    c.in-None-Product.is-0 c.in_ok-met.ensures.read
    (product-walked c.args.question c.args.r1 next c.args.second.now (seen c.args.machine.now.whole) c.push_conditions.new.found.items _ _
    (rw (c.number.ensures.value, c.part.ensures) refl) c.in_ok-push_pair_of-in-None-Product.ensures)
    ∙ ap (λ pair. walked c.args.question (pair_row pair c.args.r1 (second_reading (profile_of c.args.machine.now.whole.core) c.args.second.now) next)
    (seen c.args.machine.now.whole) c.args.found.now.items) (sym c.in-None-Product.is-1)

pub returns-in_ok-push_quotient-in-None-Quotient : goal.returns-in_ok-push_quotient-in-None-Quotient
returns-in_ok-push_quotient-in-None-Quotient c next =
    done-walked c.args.question (second_reading (profile_of c.args.machine.now.whole.core) c.args.second.now).conditions (pair_met (is_odd c.args.r1))
    (pair_done PairCombination.Quotient c.args.r1 (second_reading (profile_of c.args.machine.now.whole.core) c.args.second.now).value next)
    (seen c.args.machine.now.whole) c.args.found.now.items _ _ _
    (pair-code c.args.second.now c.args.r1 (seen c.args.machine.now.whole) _ _ c.in_ok-met.ensures.code c.pair_exception.ensures.code)
    c.in-None-Quotient.is-0 c.in_ok-met.ensures.read (c.in_ok-push_quotient-in-None-Quotient.ensures next)
    ∙ ap (λ pair. walked c.args.question (pair_row pair c.args.r1 (second_reading (profile_of c.args.machine.now.whole.core) c.args.second.now) next)
    (seen c.args.machine.now.whole) c.args.found.now.items) (sym c.in-None-Quotient.is-1)
