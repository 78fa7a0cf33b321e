use Rattle.std.proofs.Common.{◌≡◌, ap, subst}
use Rattle.s360_model.specs.Core.{Core}
use Rattle.s360_machine.specs.InputOutput.{core_after_io, io_result}
use Rattle.s360_machine.specs.Machine.{Whole, WithRoom, seen}
use Rattle.s360_machine.proofs.machine.Machine.put_io.Goals as goal

pub returns : goal.returns
returns g c =
    let w : Whole = c.args.self.now.whole
    in let core : c.self.inside.core ≡ w.core = ap (λ (k : WithRoom). k.whole.core) c.self.view_is
    in let done : c.io_result-done.result ≡ io_result c.args.operation c.args.unit (seen w) = c.io_result-done.ensures
    in record {
      core = subst (λ (k : Core). g.P.Puts.made c.put_io_result.new.puts k ≡ core_after_io (io_result c.args.operation c.args.unit (seen w)) c.args.next_address k) core (rw done at c.in_ok-put_io_result.ensures.made);
      allowed = subst (λ (k : Core). g.P.Puts.may c.put_io_result.new.puts k) core c.in_ok-put_io_result.ensures.may;
      others = record { control = c.requires.leaves.control; units = rw done at c.change_after_io.ensures; media = c.requires.leaves.media };
    }
