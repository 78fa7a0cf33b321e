use Rattle.s360_machine.specs.Machine.{seen}
use Rattle.s360_source.proofs.EventLemmas.{done-walked, io-walked, program-walked, svc-walked}
use Rattle.s360_source.proofs.cpu.push_executing.Goals as goal

pub returns-in_ok-push_instruction-in-Done : goal.returns-in_ok-push_instruction-in-Done
returns-in_ok-push_instruction-in-Done c =
    done-walked c.args.question (seen c.args.machine.now.whole) c.args.found.now.items _ c.in_ok-ended.ended c.in_ok-ended.ensures c.in-Done.is
    c.in_ok-push_instruction-in-Done.ensures

pub returns-in_ok-push_interrupted-in-Program : goal.returns-in_ok-push_interrupted-in-Program
returns-in_ok-push_interrupted-in-Program c =
    program-walked c.args.question (seen c.args.machine.now.whole) c.args.found.now.items _ c.in_ok-ended.ended _ c.in_ok-ended.ensures c.in-Program.is
    c.requires.begun c.in_ok-push_interrupted-in-Program.ensures

pub returns-in_ok-push_interrupted-in-Svc : goal.returns-in_ok-push_interrupted-in-Svc
returns-in_ok-push_interrupted-in-Svc c =
    svc-walked c.args.question (seen c.args.machine.now.whole) c.args.found.now.items _ c.in_ok-ended.ended _ c.in_ok-ended.ensures c.in-Svc.is
    c.requires.begun c.in_ok-push_interrupted-in-Svc.ensures

pub returns-in_ok-push_io-in-Io : goal.returns-in_ok-push_io-in-Io
returns-in_ok-push_io-in-Io c =
    io-walked c.args.question (seen c.args.machine.now.whole) c.args.found.now.items _ _ c.in_ok-ended.ended _ _ c.in_ok-ended.ensures c.in-Io.is
    c.in_ok-push_instruction_deciders-in-Io.ensures c.in_ok-push_io-in-Io.ensures
