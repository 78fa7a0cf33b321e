use Rattle.std.proofs.Common.{◌≡◌, ◌+◌, ◌-◌, ℕ, List, ◌∙◌, ap, sym, length, arith}
use Rattle.std.proofs.lemmas.List.{length_push}
use Rattle.s360_journal.specs.Recorded.{Recorded}
use Rattle.s360_journal.specs.Returning.{one_back}
use Rattle.s360_inquiry.specs.Sought.{ends, is_sought}
use Rattle.s360_inquiry.proofs.SearchLemmas.{ended-there, last-all, last-found, last-sought, none-left, sought-ended, sought-found, sought-not}
use Rattle.s360_inquiry.proofs.search.last_numbers.Goals as goal

pub loop-before-preserved-in-Continue-branch-3 : goal.loop-before-preserved-in-Continue-branch-3
loop-before-preserved-in-Continue-branch-3 c =
    let r : Recorded = c.args.recording.now
    in let m : ℕ = c.loop-before.before
    in let found : is_sought c.args.sought r m ≡ c.in_ok-is_sought.is_sought
    = sym (c.in_ok-is_sought.ensures.sought ∙ last-sought c.args.sought r c.loop-before.recording m c.loop-before.invariant.kept)
    in let goes : ends c.args.sought r m ≡ c.in_ok-is_end.field-0
    = sym (c.in_ok-is_end.ensures ∙ ended-there c.args.sought r _ m (omega arith) (c.in_ok-is_sought.ensures.state ∙ ap (λ (x : Recorded). one_back x) c.loop-before.invariant.kept))
    in record {
      numbers = sought-found (ends c.args.sought r) (is_sought c.args.sought r) m _ _ c.loop-before.found.items _ (omega arith) (omega arith) c.in_ok-push.ensures.items
          (goes ∙ c.if-branch.false) (found ∙ c.if-is_sought.true) c.loop-before.invariant.numbers;
      kept = c.in_ok-is_sought.ensures.state ∙ ap (λ (x : Recorded). one_back x) c.loop-before.invariant.kept;
      few = omega (
        arith,
        c.loop-before.found.ok,
        length_push c.loop-before.found.items (c.loop-before.before - 1 + 1),
        ap (λ (ns : List ℕ). length ns) c.in_ok-push.ensures.items,
      );
    }

pub loop-before-preserved : goal.loop-before-preserved
loop-before-preserved c =
    let r : Recorded = c.args.recording.now
    in let m : ℕ = c.loop-before.before
    in let found : is_sought c.args.sought r m ≡ c.in_ok-is_sought.is_sought
    = sym (c.in_ok-is_sought.ensures.sought ∙ last-sought c.args.sought r c.loop-before.recording m c.loop-before.invariant.kept)
    in let goes : ends c.args.sought r m ≡ c.in_ok-is_end.field-0
    = sym (c.in_ok-is_end.ensures ∙ ended-there c.args.sought r _ m (omega arith) (c.in_ok-is_sought.ensures.state ∙ ap (λ (x : Recorded). one_back x) c.loop-before.invariant.kept))
    in record {
      numbers = sought-not (ends c.args.sought r) (is_sought c.args.sought r) m _ c.loop-before.found.items (omega arith) (goes ∙ c.if-branch.false) (found ∙ c.if-is_sought.false)
          c.loop-before.invariant.numbers;
      kept = c.in_ok-is_sought.ensures.state ∙ ap (λ (x : Recorded). one_back x) c.loop-before.invariant.kept;
      few = c.loop-before.invariant.few;
    }

pub returns-then-len-most-clause-numbers : goal.returns-then-len-most-clause-numbers
returns-then-len-most-clause-numbers c =
    c.turned.ensures ∙ last-found c.args.most _ _ c.loop-before.found.items (omega (arith, c.loop-before.found.ok)) c.loop-before.invariant.numbers

pub returns-then-branch-clause-numbers : goal.returns-then-branch-clause-numbers
returns-then-branch-clause-numbers c =
    let r : Recorded = c.args.recording.now
    in let m : ℕ = c.loop-before.before
    in let goes : ends c.args.sought r m ≡ c.in_ok-is_end.field-0
    = sym (c.in_ok-is_end.ensures ∙ ended-there c.args.sought r _ m (omega arith) (c.in_ok-is_sought.ensures.state ∙ ap (λ (x : Recorded). one_back x) c.loop-before.invariant.kept))
    in c.turned-then-branch.ensures
    ∙ last-all c.args.most _ c.loop-before.found.items c.loop-before.invariant.few
    (sought-ended (ends c.args.sought r) (is_sought c.args.sought r) m _ c.loop-before.found.items (omega arith) (goes ∙ c.if-branch.true) c.loop-before.invariant.numbers)

pub returns-clause-numbers : goal.returns-clause-numbers
returns-clause-numbers c =
    c.turned-2.ensures
    ∙ last-all c.args.most _ c.loop-before.found.items c.loop-before.invariant.few
    (none-left (ends c.args.sought c.args.recording.now) (is_sought c.args.sought c.args.recording.now) c.loop-before.before _ c.loop-before.found.items (omega arith) c.loop-before.invariant.numbers)
