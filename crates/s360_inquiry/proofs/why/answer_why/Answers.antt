use Rattle.std.proofs.Common.{◌≡◌, ◌∙◌, ℕ, None, Option, Some, ap, min, sym}
use Rattle.s360_inquiry.specs.Causes.{most_depth}
use Rattle.s360_journal.specs.Rerun.{or_else}
use Rattle.s360_inquiry.specs.Searches.{last_up_to}
use Rattle.s360_inquiry.specs.Stores.{stores_into}
use Rattle.s360_inquiry.proofs.ChainLemmas.{why-start, why-told}
use Rattle.s360_inquiry.proofs.why.answer_why.Goals.{in-Some+in_ok-text-in-Some, in-None}
use Rattle.s360_inquiry.proofs.why.answer_why.Goals as goal

pub returns-clause-text : goal.returns-clause-text
returns-clause-text c =
    elim c.match-branch-3.branch [
      | in-Some+in_ok-text-in-Some w ↦
          let last : Some w.in-Some.number ≡ last_up_to (stores_into c.of-extent.result c.args.recording.now) c.args.recording.now.standing
          = sym (ap (λ (o : Option ℕ). or_else o None) w.in-Some.is) ∙ c.in_ok-number.ensures.number
          in w.text-is
          ∙ why-told c.args.recording.now c.last_number.new.recording c.args.place c.args.depth c.min-depth.result w.in-Some.number c.args.detail c.of-extent.result _
          c.of-extent.ensures c.in_ok-number.ensures.state c.min-depth.ensures last w.in_ok-text-in-Some.ensures.text
      | in-None w ↦
          let last : None ≡ last_up_to (stores_into c.of-extent.result c.args.recording.now) c.args.recording.now.standing
          = sym (ap (λ (o : Option ℕ). or_else o None) w.in-None.is) ∙ c.in_ok-number.ensures.number
          in w.text-is
          ∙ why-start c.args.recording.now c.args.place c.args.depth c.args.detail c.of-extent.result _ c.of-extent.ensures last
          (c.in_ok-start.ensures (min c.args.depth most_depth) c.args.detail)
    ]
