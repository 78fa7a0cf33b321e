use Rattle.std.proofs.Common.{◌≡◌, ℕ, List, ap, sym, ◌∙◌, arith, rules}
use Rattle.s360_journal.specs.Recorded.{Recorded, with_standing}
use Rattle.s360_inquiry.specs.ItemChanges.{alters_item, last_that}
use Rattle.s360_inquiry.proofs.ItemLemmas.{that-before, that-none}
use Rattle.s360_inquiry.proofs.item.last_change.Goals as goal

pub loop-index-preserved : goal.loop-index-preserved
loop-index-preserved c =
    let r : Recorded = c.args.recording.now
    in let holds : alters_item r c.args.unit c.args.item c.index-number.result.now ≡ c.in_ok-alters_item.field-0
    = sym (c.in_ok-alters_item.ensures.alters ∙ ap (λ (x : Recorded). alters_item x c.args.unit c.args.item c.index-number.result.now) c.loop-index.invariant.kept)
    in record {
      number = c.loop-index.invariant.number
          ∙ that-none (alters_item r c.args.unit c.args.item) c.in_ok-numbers.numbers.items c.loop-index.index _ _ (omega arith) (omega arith) c.index-number.ensures
          (holds ∙ c.if-branch.false);
      kept = c.in_ok-alters_item.ensures.state ∙ ap (λ (x : Recorded). with_standing x c.alters_item.new.recording.standing) c.loop-index.invariant.kept;
    }

pub returns-then-branch-clause-number : goal.returns-then-branch-clause-number
returns-then-branch-clause-number c =
    let r : Recorded = c.args.recording.now
    in let holds : alters_item r c.args.unit c.args.item c.index-number.result.now ≡ c.in_ok-alters_item.field-0
    = sym (c.in_ok-alters_item.ensures.alters ∙ ap (λ (x : Recorded). alters_item x c.args.unit c.args.item c.index-number.result.now) c.loop-index.invariant.kept)
    in sym (
    ap (λ (ns : List ℕ). last_that (alters_item r c.args.unit c.args.item) ns) (sym (c.in_ok-numbers.ensures.items_if_clones_equal (search rules) ∙ c.changes_of.ensures))
    ∙ c.loop-index.invariant.number
    ∙ that-before (alters_item r c.args.unit c.args.item) c.in_ok-numbers.numbers.items c.loop-index.index _ _ (omega arith) (omega arith) c.index-number.ensures
    (holds ∙ c.if-branch.true)
    )
