use Rattle.std.proofs.Common.{◌≡◌, ◌∙◌, ap, sym}
use Rattle.s360_machine.specs.Machine.{Machine}
use Rattle.s360_journal.specs.Recorded.{Recorded, session_of}
use Rattle.s360_journal.specs.Returning.{is_reached_back}
use Rattle.s360_journal.specs.Standing.{machine_of}
use Rattle.s360_journal.specs.declared.running.Reach.TheVariants.{Step, Stop}
use Rattle.s360_journal.proofs.GoingLemmas.{taken-none, taken-one, taken-watch}
use Rattle.s360_journal.proofs.session.Session.take_back.Goals as goal

pub returns-then-standing-eq0 : goal.returns-then-standing-eq0
returns-then-standing-eq0 g c = taken-none _ c.args.reach c.args.self.now (sym c.standing.ensures.standing ∙ c.if-standing-eq0.true)

pub returns-then-is_altered : goal.returns-then-is_altered
returns-then-is_altered g c =
    taken-watch _ c.args.reach c.args.self.now (λ none. c.if-standing-eq0.false (c.standing.ensures.standing ∙ none)) (sym c.is_altered-is_altered.ensures ∙ c.if-is_altered.true)

pub returns-in-Step : goal.returns-in-Step
returns-in-Step g c =
    let r : Recorded = c.args.self.now
    in rw c.in-Step.is (taken-one _ Step r c.step_back-taken.new.self c.is_cpu_last-is_cpu.result c.then_some.result (λ none. c.if-standing-eq0.false (c.standing.ensures.standing ∙ none))
    (sym c.is_altered-is_altered.ensures ∙ c.if-is_altered.false) (sym c.is_cpu_last-is_cpu.ensures) c.then_some.ensures c.step_back-taken.ensures.state)

pub returns-in-Stop : goal.returns-in-Stop
returns-in-Stop g c =
    let r : Recorded = c.args.self.now
    in let stops = g.S.Stops.stops_of c.args.stops.now
    in let at : is_reached_back stops Stop r ≡ c.is_at_stop.result
    = ap (λ (k : Recorded). stops.at (machine_of (session_of k))) (sym c.step_back-taken-in-Stop.ensures.state) ∙ ap (λ (m : Machine). stops.at m) (sym c.machine.ensures.rerun) ∙ sym c.is_at_stop.ensures
    in rw c.in-Stop.is (taken-one _ Stop r c.step_back-taken-in-Stop.new.self c.is_at_stop.result c.then_some-in-Stop.result (λ none. c.if-standing-eq0.false (c.standing.ensures.standing ∙ none))
    (sym c.is_altered-is_altered.ensures ∙ c.if-is_altered.false) at c.then_some-in-Stop.ensures c.step_back-taken-in-Stop.ensures.state)
