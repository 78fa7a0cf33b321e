use Rattle.std.proofs.Common.{◌≡◌, ◌∙◌, false, refl, rules, sym, true, ap}
use Rattle.s360_journal.specs.Running.{is_idle, is_reached}
use Rattle.s360_journal.specs.Standing.{Standing, alteration}
use Rattle.s360_journal.proofs.RunningLemmas.{idle-none, idle-recorded, pause-of}
use Rattle.s360_journal.proofs.session.Session.pause_after.Goals.{else-not-is_again-via-then-not-is_again+else-is_idle, else-not-is_again-via-else-not-is_again}
use Rattle.s360_journal.proofs.session.Session.pause_after.Goals as goal

pub returns-then-is_altered : goal.returns-then-is_altered
returns-then-is_altered g c = λ s rest e is.
    let stops = g.S.Stops.stops_of c.args.stops.now
    in let idle : is_idle rest (alteration s e) ≡ false
    = elim c.else-not-is_again.branch [
      | else-not-is_again-via-then-not-is_again+else-is_idle w ↦ idle-none c.args.is_again w.is_idle.result rest (alteration s e) is.met (w.is_idle.ensures.last s e is.stands) w.if-is_idle.false
      | else-not-is_again-via-else-not-is_again w ↦ idle-recorded c.args.is_again rest (alteration s e) (search rules) is.met
    ]
    in pause-of false true _ _ stops c.args.reach s rest e idle (ap (λ (t : Standing). stops.altered t) (sym is.stands) ∙ sym c.is_altered.ensures ∙ c.if-is_altered.true) refl refl

pub returns : goal.returns
returns g c = λ s rest e is.
    let stops = g.S.Stops.stops_of c.args.stops.now
    in let idle : is_idle rest (alteration s e) ≡ false
    = elim c.else-not-is_again.branch [
      | else-not-is_again-via-then-not-is_again+else-is_idle w ↦ idle-none c.args.is_again w.is_idle.result rest (alteration s e) is.met (w.is_idle.ensures.last s e is.stands) w.if-is_idle.false
      | else-not-is_again-via-else-not-is_again w ↦ idle-recorded c.args.is_again rest (alteration s e) (search rules) is.met
    ]
    in c.pause_with.ensures ∙ pause-of false false c.is_reached.result c.is_at_end.result stops c.args.reach s rest e idle
    (ap (λ (t : Standing). stops.altered t) (sym is.stands) ∙ sym c.is_altered.ensures ∙ c.if-is_altered.false)
    (ap (λ (t : Standing). is_reached stops c.args.reach t e) (sym is.stands) ∙ sym (c.is_reached.ensures s e is.stands))
    (sym is.ended ∙ sym c.is_at_end.ensures)
