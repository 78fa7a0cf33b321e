use Rattle.std.proofs.Common.{◌≡◌, ◌+◌, ◌-◌, ◌∙◌, ℕ, ap, arith, min}
use Rattle.s360_journal.specs.Recorded.{Recorded, with_standing}
use Rattle.s360_trace.proofs.TraceLemmas.{traced-all, traced-more}
use Rattle.s360_trace.proofs.tracing.trace_of.Goals as goal

pub loop-before-preserved : goal.loop-before-preserved
loop-before-preserved c = record {
  text = traced-more c.back_to-first.new.self c.loop-before.recording c.back_to-first.result c.loop-before.before _ _ (omega arith) c.loop-before.invariant.kept
      c.loop-before.invariant.text c.in_ok-push_change.ensures.text;
  kept = c.in_ok-push_change.ensures.state ∙ ap (λ (x : Recorded). with_standing x (c.loop-before.before + 1)) c.loop-before.invariant.kept;
}

pub returns-clause-text : goal.returns-clause-text
returns-clause-text c =
    let first : c.back_to-first.result ≡ min (c.args.from - 1) c.args.recording.now.standing
    = c.back_to-first.ensures.stand ∙ ap (λ (n : ℕ). min n c.args.recording.now.standing) c.saturating_sub.ensures
    in let end : c.min.result ≡ min c.args.to c.args.recording.now.standing
    = c.min.ensures ∙ ap (λ (n : ℕ). min c.args.to n) c.standing-standing.ensures.standing
    in let count : c.loop-before.before - c.back_to-first.result ≡ c.min.result - c.back_to-first.result = omega arith
    in traced-all c.args.recording.now c.back_to-first.new.self c.args.from c.args.to c.back_to-first.result c.loop-before.before c.min.result _
    c.back_to-first.ensures.kept first end count c.loop-before.invariant.text
