use Rattle.std.proofs.Common.{◌≡◌, ◌+◌, ◌-◌, arith}
use Rattle.s360_journal.proofs.GoingLemmas.{IsReturning-start, IsReturning-more, IsReturning-ended, IsReturning-all}
use Rattle.s360_journal.proofs.session.Session.run_back.Goals as goal

pub loop-change-init : goal.loop-change-init
loop-change-init g c =
    let all : c.args.most - 0 ≡ c.args.most = omega arith
    in rw all (IsReturning-start _ c.args.reach c.args.self.now c.args.most)

pub loop-change-preserved : goal.loop-change-preserved
loop-change-preserved g c =
    let left : c.args.most - c.loop-change._change ≡ c.args.most - (c.loop-change._change + 1) + 1 = omega arith
    in IsReturning-more _ _ _ _ _ _ _ _ left c.loop-change.invariant (rw c.in_default.is at c.take_back.ensures)

pub returns-in-Some : goal.returns-in-Some
returns-in-Some g c =
    let left : c.args.most - c.loop-change._change ≡ c.args.most - (c.loop-change._change + 1) + 1 = omega arith
    in let paused = IsReturning-ended _ c.args.reach c.args.self.now c.loop-change.self c.take_back.new.self c.args.most _ _ c.in-Some.pause left c.loop-change.invariant (rw c.in-Some.is at c.take_back.ensures)
    in record { why = paused.pause; state = paused.state; within = paused.within }

pub returns-clause-why : goal.returns-clause-why
returns-clause-why g c =
    let none : c.args.most - c.loop-change._change ≡ 0 = omega arith
    in (IsReturning-all _ c.args.reach c.args.self.now c.loop-change.self c.args.most _ none c.loop-change.invariant).pause

pub returns-clause-state : goal.returns-clause-state
returns-clause-state g c =
    let none : c.args.most - c.loop-change._change ≡ 0 = omega arith
    in (IsReturning-all _ c.args.reach c.args.self.now c.loop-change.self c.args.most _ none c.loop-change.invariant).state
