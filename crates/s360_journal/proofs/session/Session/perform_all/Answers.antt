use Rattle.std.proofs.Common.{◌≡◌, ◌++◌, [], refl, arith}
use Rattle.std.proofs.lemmas.List.{append-nil, nil_from_length}
use Rattle.s360_journal.specs.Calls.{IsRun}
use Rattle.s360_journal.proofs.session.Session.perform_all.Goals as goal

pub returns-clause-run : goal.returns-clause-run
returns-clause-run c =
    let none : c.loop-call.left.items ≡ [] = nil_from_length c.loop-call.left.items (omega (arith, c.in_default.ensures.cases))
    in let whole : IsRun c.args.self.now c.args.calls.items (c.loop-call.answers.items ++ []) c.loop-call.self
    = c.loop-call.invariant.run [] c.loop-call.self (rw none refl)
    in rw append-nil at whole
