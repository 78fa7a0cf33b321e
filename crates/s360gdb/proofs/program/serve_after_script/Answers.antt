use Rattle.std.proofs.Common.{refl, rules}
use Rattle.s360gdb.proofs.Failing.{after_script}
use Rattle.s360gdb.proofs.program.serve_after_script.Goals as goal

pub returns-clause-served : goal.returns-clause-served
returns-clause-served g c = (
  c.carry_out.new.session,
  record { noted = g.N.Write.contents c.in_ok-notes.notes; asked = g.F.Opening.asked c.args.host.files },
  c.serve.new.target,
  record {
    stands = rw c.new-session.ensures at c.in_ok-notes.ensures.state;
    noted = rw c.new-session.ensures at c.in_ok-notes.ensures.answers;
    asked = refl;
  },
  rw c.new-target.ensures at c.in_ok-serve.ensures.served,
)

pub returns-in_err-serve-clause-failure : goal.returns-in_err-serve-clause-failure
returns-in_err-serve-clause-failure g c = after_script c.from_residual-in_err-serve.result c.in_err-serve.field-0.0 (search rules) c.in_err-serve.ensures.failure
