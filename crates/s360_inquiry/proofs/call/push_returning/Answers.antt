use Rattle.s360_inquiry.proofs.CallLemmas.{returning-told}
use Rattle.s360_inquiry.proofs.call.push_returning.Goals as goal

pub returns : goal.returns
returns c =
    returning-told c.args.call c.args.now c.from.result c.link_place.result c.args.text.now _ _ _ _ _ c.from.ensures c.link_place.ensures
    c.in_ok-push_numbered.ensures c.in_ok-push_text.ensures c.in_ok-push_place.ensures c.in_ok-push_link_value.ensures c.in_ok-push_overwritten.ensures
