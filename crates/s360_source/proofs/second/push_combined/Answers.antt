use Rattle.std.proofs.Common.{◌∙◌, ap}
use Rattle.s360_fixed.specs.ProgramCodes.{program_code}
use Rattle.s360_machine.specs.Machine.{seen}
use Rattle.s360_footprint.specs.Altering.{altering_row}
use Rattle.s360_footprint.specs.OperandReadings.{profile_of}
use Rattle.s360_footprint.specs.RegisterRows.{combination_altering}
use Rattle.s360_source.specs.Parts.{places_of_part}
use Rattle.s360_source.specs.Seconds.{second_reading}
use Rattle.s360_source.specs.Walks.{combination_walk}
use Rattle.s360_source.proofs.SecondLemmas.{second-combined}
use Rattle.s360_source.proofs.WalkLemmas.{done-walked, refused-walked}
use Rattle.s360_source.proofs.second.push_combined.Goals as goal

pub returns-in-Some : goal.returns-in-Some
returns-in-Some c next =
    refused-walked c.args.question (second_reading (profile_of c.args.machine.now.whole.core) c.args.second.now).conditions program_code
    (altering_row (combination_altering c.args.combination c.args.r1 (second_reading (profile_of c.args.machine.now.whole.core) c.args.second.now).value next))
    (seen c.args.machine.now.whole) c.args.found.now.items _ _ _
    c.in_ok-push_conditions.ensures.code c.in-Some.is c.in_ok-push_conditions.ensures.read

pub returns-in_ok-push_combination-in-None : goal.returns-in_ok-push_combination-in-None
returns-in_ok-push_combination-in-None c next =
    done-walked c.args.question (second_reading (profile_of c.args.machine.now.whole.core) c.args.second.now).conditions program_code
    (altering_row (combination_altering c.args.combination c.args.r1 (second_reading (profile_of c.args.machine.now.whole.core) c.args.second.now).value next))
    (seen c.args.machine.now.whole) c.args.found.now.items _ _ _
    c.in_ok-push_conditions.ensures.code c.in-None.is c.in_ok-push_conditions.ensures.read
    (c.in_ok-push_combination-in-None.ensures
    ∙ ap (λ part. combination_walk c.args.question c.args.machine.now.whole.core.psw c.args.combination c.args.r1 (places_of_part part)
    c.push_conditions.new.found.items) c.part-part.ensures
    ∙ second-combined c.args.question c.args.combination c.args.r1 next c.args.second.now (seen c.args.machine.now.whole) c.push_conditions.new.found.items)
