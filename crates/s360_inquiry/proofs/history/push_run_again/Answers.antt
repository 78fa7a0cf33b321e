use Rattle.s360_inquiry.proofs.InquiryLemmas.{run-told}
use Rattle.s360_inquiry.proofs.history.push_run_again.Goals as goal

pub returns-clause-text : goal.returns-clause-text
returns-clause-text c =
    run-told c.args.text.now _ _ c.args.recording.now c.in_ok-event.event _ c.args.number _ _ c.in_ok-report.report c.requires.next c.requires.numbered
    c.in_ok-event.ensures c.machine.ensures.rerun c.kind.ensures c.in_ok-report.ensures.report c.in_ok-push_event_of.ensures c.in_ok-push_report.ensures
