use Rattle.std.proofs.Common.{◌∙◌, List, ap, map, rules}
use Rattle.s360_journal.specs.Recorded.{Recorded, with_standing}
use Rattle.s360_inquiry.specs.declared.calling.OpenCall.{OpenCall}
use Rattle.s360_inquiry.specs.Calls.{line_of_call}
use Rattle.s360_inquiry.proofs.CallLemmas.{call-told, calls-full, some-told}
use Rattle.s360_inquiry.proofs.InquiryLemmas.{if_ok}
use Rattle.s360_inquiry.proofs.calling.tell_calls.Goals as goal

pub returns-then-is_full-clause-text : goal.returns-then-is_full-clause-text
returns-then-is_full-clause-text c =
    let r : Recorded = c.args.recording.now
    in let calls : List OpenCall = c.args.calls.now
    in if_ok c.finish.result c.finish.ensures
    (λ text told. told (map (line_of_call r) calls)
    (calls-full r calls c.loop-call.call-index c.loop-call.telling (c.is_full.ensures.0 (search rules)) c.loop-call.invariant.told)
    ∙ some-told r calls c.if-is_empty.ensures)

pub loop-call-preserved : goal.loop-call-preserved
loop-call-preserved c = record {
  told = call-told c.args.recording.now c.loop-call.recording c.args.calls.now c.loop-call.call-index c.call-item.result c.loop-call.telling _
      c.loop-call-test.true c.call-item.is c.loop-call.invariant.kept c.loop-call.invariant.told c.in_ok-push_call.ensures.told;
  kept = c.in_ok-push_call.ensures.state ∙ ap (λ (x : Recorded). with_standing x c.push_call.new.recording.standing) c.loop-call.invariant.kept;
}
