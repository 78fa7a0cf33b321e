use Rattle.std.proofs.Common.{sym, ◌∙◌}
use Rattle.s360_debug.proofs.StandingLemmas.{StandsPartly-offered}
use Rattle.s360_debug.proofs.answering.answer.Goals as goal

pub returns-in-Some-clause-memory : goal.returns-in-Some-clause-memory
returns-in-Some-clause-memory c =
    StandsPartly-offered c.answer_event.result (record { session = c.args.session.now; breaks = c.args.breaks.now }) c.args.command c.in-Some.event
    c.answer_event.new.session (sym c.into_event.ensures ∙ c.in-Some.is) c.answer_event.ensures.memory
