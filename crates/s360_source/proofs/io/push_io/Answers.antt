use Rattle.s360_machine.specs.Machine.{Machine, seen}
use Rattle.s360_source.proofs.IoLemmas.{io-walked}
use Rattle.s360_source.proofs.io.push_io.Goals as goal

pub returns : goal.returns
returns c e =
    let m : Machine = seen c.args.machine.now.whole
    in io-walked c.args.question c.args.operation c.args.unit e m _ c.args.found.now.items _ _ _ _ c.io_result-done.ensures
    c.in_ok-push_io_deciders.ensures (c.in_ok-push_csw.ensures m) c.in_ok-store_psw.ensures (c.in_ok-push_unit_after.ensures m)
