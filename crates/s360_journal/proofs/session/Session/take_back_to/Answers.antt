use Rattle.std.proofs.Common.{◌≡◌, ◌<◌, ◌∙◌, ◌++◌, ◌∷◌, [], ap, arith, length, subst, sym}
use Rattle.s360_journal.specs.Recorded.{StaysAlone, session_of, standing_events}
use Rattle.s360_journal.proofs.AloneLemmas.{StaysAlone-back, StaysAlone-more, StaysAlone-same, alone-count}
use Rattle.s360_journal.proofs.WithdrawalLemmas.{TakesOff, TakesOff-more, TakesOff-none}
use Rattle.s360_journal.proofs.session.Session.take_back_to.Goals as goal

pub loop-self-init : goal.loop-self-init
loop-self-init c =
    let s = c.args.self.now
    in record {
      off = TakesOff-none (session_of s) c.new-later.result.standing c.args.number c.new-later.ensures.standing (omega (arith, c.requires.stands, alone-count s c.requires.alone));
      alone = StaysAlone-same s c.requires.alone;
      last = c.new-later.ensures.rest;
    }

pub returns-in_err-reserve-clause-alone : goal.returns-in_err-reserve-clause-alone
returns-in_err-reserve-clause-alone c =
    StaysAlone-more c.args.self.now c.loop-self.self c.back.new.self c.loop-self.invariant.alone (StaysAlone-back c.loop-self.self c.back.new.self c.loop-self.invariant.alone.alone c.in-Ok.ensures.recorded)

pub loop-self-smaller-in-Ok : goal.loop-self-smaller-in-Ok
loop-self-smaller-in-Ok c = omega (arith, c.loop-self-test.true, c.standing.ensures.standing, ap (λ r. r.standing) c.in-Ok.ensures.recorded)

pub loop-self-preserved-in-Ok : goal.loop-self-preserved-in-Ok
loop-self-preserved-in-Ok c =
    let t = c.loop-self.self
    in let less : c.args.number < length (standing_events t) = omega (arith, c.loop-self-test.true, c.standing.ensures.events)
    in record {
      off = TakesOff-more (session_of c.args.self.now) (session_of t) (session_of c.back.new.self) c.loop-self.later.standing c.push.new.self.standing c.in-Ok.event c.args.number c.loop-self.invariant.off less
          c.in-Ok.ensures.ok (c.push.ensures.standing ∙ ap (λ es. es ++ c.in-Ok.event ∷ []) c.in_ok-reserve.ensures.standing);
      alone = StaysAlone-more c.args.self.now t c.back.new.self c.loop-self.invariant.alone (StaysAlone-back t c.back.new.self c.loop-self.invariant.alone.alone c.in-Ok.ensures.recorded);
      last = c.push.ensures.rest;
    }

pub loop-self-preserved : goal.loop-self-preserved
loop-self-preserved c =
    let same : c.back.new.self ≡ c.loop-self.self = c.in_default.ensures.err
    in record {
      off = subst (λ r. TakesOff (session_of c.args.self.now) (session_of r) c.loop-self.later.standing c.args.number) (sym same) c.loop-self.invariant.off;
      alone = subst (λ r. StaysAlone c.args.self.now r) (sym same) c.loop-self.invariant.alone;
      last = c.loop-self.invariant.last;
    }

pub returns-clause-ok : goal.returns-clause-ok
returns-clause-ok c = c.loop-self.invariant.off.kept

pub returns-clause-kept : goal.returns-clause-kept
returns-clause-kept c =
    omega (arith, c.loop-self-test.false, c.standing.ensures.standing, c.loop-self.invariant.off.least, alone-count c.loop-self.self c.loop-self.invariant.alone.alone)

pub returns-clause-alone : goal.returns-clause-alone
returns-clause-alone c = c.loop-self.invariant.alone
