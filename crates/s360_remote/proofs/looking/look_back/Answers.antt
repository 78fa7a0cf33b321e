use Rattle.std.proofs.Common.{◌≡◌, ◌-◌, ◌+◌, ◌∙◌, arith, eq-eqb, ne_eqb, sym}
use Rattle.s360_journal.proofs.RunningLemmas.{OnErr-from}
use Rattle.s360_remote.specs.Moving.{most_looks}
use Rattle.s360_remote.proofs.LookingLemmas.{back-at-start, back-done, back-ended, back-kept, back-more, back-start}
use Rattle.s360_remote.proofs.looking.look_back.Goals as goal

pub loop-change-init : goal.loop-change-init
loop-change-init c = back-start c.args.points.now c.args.reach c.args.session.now most_looks

pub returns-then-standing-eq0-clause-paused : goal.returns-then-standing-eq0-clause-paused
returns-then-standing-eq0-clause-paused c =
    let left : most_looks - c.loop-change._change ≡ most_looks - (c.loop-change._change + 1) + 1 = omega (arith, c.loop-change-test.true)
    in back-at-start c.args.points.now c.args.reach c.args.session.now c.loop-change.session most_looks _ _ c.by.result left c.loop-change.invariant
    (eq-eqb c.loop-change.session.standing 0 (sym c.standing.ensures.standing ∙ c.if-standing-eq0.true)) c.by.ensures

pub loop-change-preserved : goal.loop-change-preserved
loop-change-preserved c =
    let left : most_looks - c.loop-change._change ≡ most_looks - (c.loop-change._change + 1) + 1 = omega (arith, c.loop-change-test.true)
    in back-more c.args.points.now c.args.reach c.args.session.now c.loop-change.session c.go_one_back.new.session most_looks _ _
    c.in_ok-paused.paused.why c.in_ok-paused.paused.met left c.loop-change.invariant
    (ne_eqb c.loop-change.session.standing 0 (λ none. c.if-standing-eq0.false (c.standing.ensures.standing ∙ none)))
    c.in_ok-paused.ensures.paused c.in-Done.is

pub returns-in_default : goal.returns-in_default
returns-in_default c =
    let left : most_looks - c.loop-change._change ≡ most_looks - (c.loop-change._change + 1) + 1 = omega (arith, c.loop-change-test.true)
    in record {
      paused = back-ended c.args.points.now c.args.reach c.args.session.now c.loop-change.session c.go_one_back.new.session most_looks _ _
          c.in_ok-paused.paused.why c.in_ok-paused.paused.met left c.loop-change.invariant
          (ne_eqb c.loop-change.session.standing 0 (λ none. c.if-standing-eq0.false (c.standing.ensures.standing ∙ none)))
          c.in_ok-paused.ensures.paused c.in_default.not-Done;
      memory = tt;
    }

pub returns-in_err-paused-clause-memory : goal.returns-in_err-paused-clause-memory
returns-in_err-paused-clause-memory c =
    OnErr-from c.from_residual.result _ (
      c.go_one_back.new.session.standing,
      back-kept c.args.session.now c.loop-change.session c.go_one_back.new.session c.loop-change.invariant.kept
          c.in_err-paused.ensures.memory,
    )

pub returns-clause-paused : goal.returns-clause-paused
returns-clause-paused c =
    let none : most_looks - c.loop-change._change ≡ 0 = omega (arith, c.loop-change-test.false)
    in back-done c.args.points.now c.args.reach c.args.session.now c.loop-change.session most_looks _ c.by-2.result none c.loop-change.invariant c.by-2.ensures
