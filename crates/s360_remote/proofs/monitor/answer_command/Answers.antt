use Rattle.std.proofs.Common.{◌≡◌, ◌≢◌, ◌∙◌, ap, codes, sym, true, true≢false}
use Rattle.s360_journal.specs.Recorded.{Recorded}
use Rattle.s360_debug.specs.Lines.{is_skipped}
use Rattle.s360_remote.specs.Driven.{Driven, fresh}
use Rattle.s360_remote.proofs.MonitorLemmas.{carried-skipped}
use Rattle.s360_remote.proofs.monitor.answer_command.Goals as goal

pub returns-then-skips-clause-carried_out : goal.returns-then-skips-clause-carried_out
returns-then-skips-clause-carried_out c =
    let skipped : is_skipped c.args.line.now ≡ true = sym c.skips.ensures ∙ c.if-skips.true
    in let other : c.args.line.now ≢ codes "help" = λ same. true≢false (sym skipped ∙ ap (λ l. is_skipped l) same)
    in rw c.new.ensures (carried-skipped c.args.line.now c.args.target.now _ skipped other (ap (λ (r : Recorded). record { recorded = r; points = c.target.inside.points; own = c.target.inside.own_breaks; stood = c.target.inside.stood; untold = c.target.inside.untold }) c.forget_dropped.ensures
    ∙ ap (λ (x : Driven). fresh x) c.target.view_is))
