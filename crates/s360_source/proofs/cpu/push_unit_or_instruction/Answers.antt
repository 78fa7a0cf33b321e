use Rattle.std.proofs.Common.{◌∙◌, sym}
use Rattle.s360_machine.specs.Machine.{seen}
use Rattle.s360_source.proofs.EventLemmas.{unit-walked}
use Rattle.s360_source.proofs.cpu.push_unit_or_instruction.Goals as goal

pub returns-in_ok-push_interrupted-in-Some : goal.returns-in_ok-push_interrupted-in-Some
returns-in_ok-push_interrupted-in-Some c =
    unit-walked c.args.question c.in-Some.unit (seen c.args.machine.now.whole) c.args.found.now.items _ (sym c.interrupting_unit.ensures ∙ c.in-Some.is)
    c.requires.begun c.in_ok-push_interrupted-in-Some.ensures
