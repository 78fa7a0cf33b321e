use Rattle.std.proofs.Common.{◌≡◌, ◌-◌, ◌+◌, arith}
use Rattle.s360_journal.proofs.RunningLemmas.{OnErr-from}
use Rattle.s360_remote.specs.Moving.{most_looks}
use Rattle.s360_remote.proofs.LookingLemmas.{looking-done, looking-ended, looking-more, looking-part, looking-start}
use Rattle.s360_remote.proofs.looking.look_on.Goals as goal

pub loop-event-init : goal.loop-event-init
loop-event-init c = looking-start c.args.points.now c.args.reach c.args.session.now most_looks

pub loop-event-preserved : goal.loop-event-preserved
loop-event-preserved c =
    let left : most_looks - c.loop-event._event ≡ most_looks - (c.loop-event._event + 1) + 1 = omega (arith, c.loop-event-test.true)
    in looking-more c.args.points.now c.args.reach c.args.session.now c.loop-event.session c.go_one_on.new.session most_looks _ _
    c.in_ok-paused.paused.why c.in_ok-paused.paused.met left c.loop-event.invariant c.in_ok-paused.ensures.paused c.in-Done.is

pub returns-in_default : goal.returns-in_default
returns-in_default c =
    let left : most_looks - c.loop-event._event ≡ most_looks - (c.loop-event._event + 1) + 1 = omega (arith, c.loop-event-test.true)
    in record {
      paused = looking-ended c.args.points.now c.args.reach c.args.session.now c.loop-event.session c.go_one_on.new.session most_looks _ _
          c.in_ok-paused.paused.why c.in_ok-paused.paused.met left c.loop-event.invariant c.in_ok-paused.ensures.paused c.in_default.not-Done;
      memory = tt;
    }

pub returns-in_err-paused-clause-memory : goal.returns-in_err-paused-clause-memory
returns-in_err-paused-clause-memory c =
    OnErr-from c.from_residual.result _
    (looking-part c.args.points.now c.args.reach c.args.session.now c.loop-event.session c.go_one_on.new.session most_looks _ c.loop-event.invariant
    c.in_err-paused.ensures.memory)

pub returns-clause-paused : goal.returns-clause-paused
returns-clause-paused c =
    let none : most_looks - c.loop-event._event ≡ 0 = omega (arith, c.loop-event-test.false)
    in looking-done c.args.points.now c.args.reach c.args.session.now c.loop-event.session most_looks _ c.by.result none c.loop-event.invariant c.by.ensures
