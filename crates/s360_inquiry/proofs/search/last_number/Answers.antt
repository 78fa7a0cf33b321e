use Rattle.std.proofs.Common.{◌≡◌, ℕ, ◌∙◌, ap, sym, arith}
use Rattle.s360_journal.specs.Recorded.{Recorded}
use Rattle.s360_journal.specs.Returning.{one_back}
use Rattle.s360_inquiry.specs.Searches.{last_up_to}
use Rattle.s360_inquiry.specs.Sought.{is_sought}
use Rattle.s360_inquiry.proofs.SearchLemmas.{last-not, last-sought, last-there}
use Rattle.s360_inquiry.proofs.search.last_number.Goals as goal

pub loop-before-preserved : goal.loop-before-preserved
loop-before-preserved c =
    let found : is_sought c.args.sought c.args.recording.now c.loop-before.before ≡ c.in_ok-take_back.field-0
    = sym (c.in_ok-take_back.ensures.sought ∙ last-sought c.args.sought c.args.recording.now c.loop-before.recording c.loop-before.before c.loop-before.invariant.kept)
    in record {
      number = last-not (is_sought c.args.sought c.args.recording.now) c.loop-before.before (omega arith) (found ∙ c.if-branch.false) ∙ c.loop-before.invariant.number;
      kept = c.in_ok-take_back.ensures.state ∙ ap (λ (r : Recorded). one_back r) c.loop-before.invariant.kept;
      least = omega arith;
    }

pub returns-then-branch-clause-number : goal.returns-then-branch-clause-number
returns-then-branch-clause-number c =
    let found : is_sought c.args.sought c.args.recording.now c.loop-before.before ≡ c.in_ok-take_back.field-0
    = sym (c.in_ok-take_back.ensures.sought ∙ last-sought c.args.sought c.args.recording.now c.loop-before.recording c.loop-before.before c.loop-before.invariant.kept)
    in last-there (is_sought c.args.sought c.args.recording.now) c.loop-before.before _ (omega arith) (omega arith) (found ∙ c.if-branch.true) ∙ c.loop-before.invariant.number

pub returns-clause-number : goal.returns-clause-number
returns-clause-number c =
    let at : c.loop-before.before ≡ c.args.least = omega arith
    in sym (ap (λ (n : ℕ). last_up_to (is_sought c.args.sought c.args.recording.now) n) at) ∙ c.loop-before.invariant.number
