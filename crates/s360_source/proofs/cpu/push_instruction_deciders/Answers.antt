use Rattle.s360_machine.specs.Machine.{seen}
use Rattle.s360_source.proofs.EventLemmas.{deciders-walked}
use Rattle.s360_source.proofs.cpu.push_instruction_deciders.Goals as goal

pub returns-in_ok-push_instruction-in-Deciders : goal.returns-in_ok-push_instruction-in-Deciders
returns-in_ok-push_instruction-in-Deciders c =
    deciders-walked c.args.question (seen c.args.machine.now.whole) c.args.found.now.items _ c.in-Deciders.is c.in_ok-push_instruction-in-Deciders.ensures
