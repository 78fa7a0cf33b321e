use Rattle.std.proofs.Common.{◌≡◌, ◌+◌, [], ◌∷◌, All, IfOk, List, subst, sym}
use Rattle.s360_journal.specs.Recorded.{Recorded, with_standing}
use Rattle.s360_inquiry.specs.declared.making.Making.{Making}
use Rattle.s360_inquiry.specs.Causes.{IsMaking, node_texts}
use Rattle.s360_inquiry.specs.Tellings.{most_lines, told_lines}
use Rattle.s360_inquiry.proofs.WhyLemmas.{same-record}
use Rattle.s360_inquiry.proofs.why.text_of_chain.Goals as goal

pub text_from-requires-clause-makings : goal.text_from-requires-clause-makings
text_from-requires-clause-makings c =
    let made : All (IsMaking (with_standing c.args.recording.now 0)) c.as_slice.result.now
    = subst (λ (makings : List Making). All (IsMaking (with_standing c.args.recording.now 0)) makings) (sym c.as_slice.ensures.value) c.in_ok-gathering.ensures.makings
    in subst (λ (r : Recorded). All (IsMaking r) c.as_slice.result.now)
    (sym (same-record c.args.recording.now c.gather.new.recording c.in_ok-gathering.ensures.state)) made

pub returns-clause-text : goal.returns-clause-text
returns-clause-text c =
    subst (λ (r : Recorded). IfOk c.text_from.result (λ text. text ≡ told_lines (node_texts (most_lines + 1) r c.args.detail (c.args.first ∷ []) 0)))
    (same-record c.args.recording.now c.gather.new.recording c.in_ok-gathering.ensures.state) c.text_from.ensures.text
