use Rattle.std.proofs.Common.{◌≡◌, ◌∙◌, ap, subst, sym, length, arith}
use Rattle.s360_journal.specs.Recorded.{StaysAlone, session_of, standing_events}
use Rattle.s360_journal.specs.Standing.{Standing}
use Rattle.s360_journal.specs.Withdrawals.{AreAllowed}
use Rattle.s360_machine.specs.Machine.{seen, storage_size}
use Rattle.s360_journal.proofs.AloneLemmas.{StaysAlone-more, StaysAlone-taken, alone-count, alone-cut, session-cut, standing-within, withdrawn-alone}
use Rattle.std.proofs.lemmas.Result.{on_ok_weaker}
use Rattle.s360_journal.proofs.WithdrawalLemmas.{Without, Without-allowed, Without-back, Without-room, Without-run}
use Rattle.s360_journal.proofs.session.Session.leave_out.Goals.{After-back-withdrawn}
use Rattle.s360_journal.proofs.session.Session.leave_out.Goals as goal

-- what stands once the change and the later ones are taken back
without : (c : After-back-withdrawn) → Without (session_of c.cut.new.self) (session_of c.back-withdrawn.new.self) c.in_ok-later.later.standing c.args.number
without c =
    let back = c.take_back_to.new.self
    in let count : length (standing_events back) ≡ c.args.number = alone-count back c.take_back_to.ensures.alone.alone ∙ c.in_ok-later.ensures.kept
    in Without-back (session_of c.cut.new.self) (session_of back) (session_of c.back-withdrawn.new.self) c.in_ok-later.later.standing c.args.number c.back-withdrawn.result
    c.in_ok-later.ensures.ok count (standing-within c.args.number (standing_events c.args.self.now) c.requires.stands).0 c.back-withdrawn.ensures.ok c.back-withdrawn.ensures.nothing

-- of which all stands
alone : (c : After-back-withdrawn) → StaysAlone c.take_back_to.new.self c.back-withdrawn.new.self
alone c = StaysAlone-taken c.take_back_to.new.self c.back-withdrawn.new.self c.back-withdrawn.result c.take_back_to.ensures.alone.alone c.back-withdrawn.ensures.recorded c.back-withdrawn.ensures.err

pub take_back_to-requires-clause-alone : goal.take_back_to-requires-clause-alone
take_back_to-requires-clause-alone c = alone-cut c.args.self.now c.cut.new.self c.requires.recorded c.cut.ensures

pub run_all_again-requires-clause-alone : goal.run_all_again-requires-clause-alone
run_all_again-requires-clause-alone c = (alone (goal.at.run_all_again-requires-clause-alone c).After-back-withdrawn).alone

pub run_all_again-requires-clause-allowed : goal.run_all_again-requires-clause-allowed
run_all_again-requires-clause-allowed c =
    let all : AreAllowed (storage_size (seen c.cut.new.self.start)) (standing_events c.cut.new.self)
    = subst (λ (s : Standing). AreAllowed (storage_size (seen s.start)) s.events) (sym (session-cut c.args.self.now c.cut.new.self c.cut.ensures)) c.requires.allowed
    in Without-allowed (session_of c.cut.new.self) (session_of c.back-withdrawn.new.self) c.in_ok-later.later.standing c.args.number (without (goal.at.run_all_again-requires-clause-allowed c).After-back-withdrawn) all

pub run_all_again-requires-clause-room : goal.run_all_again-requires-clause-room
run_all_again-requires-clause-room c =
    let a = (goal.at.run_all_again-requires-clause-room c).After-back-withdrawn
    in let cut = session-cut c.args.self.now c.cut.new.self c.cut.ensures
    in let all = alone-count c.cut.new.self (alone-cut c.args.self.now c.cut.new.self c.requires.recorded c.cut.ensures)
    in let room = Without-room (session_of c.cut.new.self) (session_of c.back-withdrawn.new.self) c.in_ok-later.later.standing c.args.number (without a)
    (omega (arith, all, c.requires.recorded, c.requires.few, ap (λ r. r.standing) c.cut.ensures, ap (λ r. r.limit) c.cut.ensures))
    in omega (arith, room, alone-count c.back-withdrawn.new.self (alone a).alone)

pub returns : goal.returns
returns c =
    let a = (goal.at.returns c).After-back-withdrawn
    in let within = standing-within c.args.number (standing_events c.args.self.now) c.requires.stands
    in let stays : StaysAlone c.cut.new.self c.run_all_again.new.self
    = StaysAlone-more c.cut.new.self c.take_back_to.new.self c.run_all_again.new.self c.take_back_to.ensures.alone
    (StaysAlone-more c.take_back_to.new.self c.back-withdrawn.new.self c.run_all_again.new.self (alone a) c.run_all_again.ensures.alone)
    in on_ok_weaker c.run_all_again.result (λ run. withdrawn-alone c.args.self.now c.cut.new.self c.run_all_again.new.self c.args.number c.requires.recorded within.0 within.1 c.cut.ensures stays
    (Without-run (session_of c.cut.new.self) (session_of c.back-withdrawn.new.self) (session_of c.run_all_again.new.self) c.in_ok-later.later.standing c.args.number (without a) run)) c.run_all_again.ensures.stands
