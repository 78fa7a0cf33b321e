use Rattle.std.proofs.Common.{ap, arith, length, length-append, refl, [], ◌∷◌}
use Rattle.s360_journal.specs.Recorded.{session_of}
use Rattle.s360_journal.proofs.AloneLemmas.{StaysAlone-more, StaysAlone-same, alone-count}
use Rattle.s360_journal.proofs.WithdrawalLemmas.{GoesOn-all, GoesOn-end, GoesOn-one, next-allowed, next-room}
use Rattle.s360_journal.proofs.session.Session.run_all_again.Goals as goal

pub loop-event-init : goal.loop-event-init
loop-event-init c =
    let s = c.args.self.now
    in record {
      on = GoesOn-all (session_of s) c.args.later.standing c.requires.allowed (omega (arith, c.requires.room, alone-count s c.requires.alone));
      alone = StaysAlone-same s c.requires.alone;
    }

pub run_again-requires-clause-alone : goal.run_again-requires-clause-alone
run_again-requires-clause-alone c = c.loop-event.invariant.alone.alone

pub run_again-requires-clause-allowed : goal.run_again-requires-clause-allowed
run_again-requires-clause-allowed c =
    next-allowed (session_of c.args.self.now) (session_of c.loop-event.self) c.args.later.standing c.loop-event.later.standing c.take_last.new.self.standing c.in-Some.event c.loop-event.invariant.on c.in-Some.ensures.standing

pub run_again-requires-clause-room : goal.run_again-requires-clause-room
run_again-requires-clause-room c =
    let room = next-room (session_of c.args.self.now) (session_of c.loop-event.self) c.args.later.standing c.loop-event.later.standing c.take_last.new.self.standing c.in-Some.event c.loop-event.invariant.on c.in-Some.ensures.standing
    in omega (arith, room, alone-count c.loop-event.self c.loop-event.invariant.alone.alone)

pub loop-event-smaller : goal.loop-event-smaller
loop-event-smaller c = omega (arith, ap length c.in-Some.ensures.standing, length-append c.take_last.new.self.standing (c.in-Some.event ∷ []))

pub loop-event-preserved : goal.loop-event-preserved
loop-event-preserved c = record {
  on = GoesOn-one (session_of c.args.self.now) (session_of c.loop-event.self) (session_of c.run_again.new.self) c.args.later.standing c.loop-event.later.standing c.take_last.new.self.standing c.in-Some.event c.loop-event.invariant.on
      c.in-Some.ensures.standing c.in_ok-run_again.ensures.stands;
  alone = StaysAlone-more c.args.self.now c.loop-event.self c.run_again.new.self c.loop-event.invariant.alone c.run_again.ensures.alone;
}

pub returns-in_err-run_again-clause-alone : goal.returns-in_err-run_again-clause-alone
returns-in_err-run_again-clause-alone c = StaysAlone-more c.args.self.now c.loop-event.self c.run_again.new.self c.loop-event.invariant.alone c.run_again.ensures.alone

pub returns-clause-stands : goal.returns-clause-stands
returns-clause-stands c =
    GoesOn-end (session_of c.args.self.now) (session_of c.loop-event.self) c.args.later.standing c.loop-event.later.standing c.loop-event.invariant.on (c.in_default.ensures.none refl)

pub returns-clause-alone : goal.returns-clause-alone
returns-clause-alone c = c.loop-event.invariant.alone
