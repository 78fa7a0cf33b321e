use Rattle.std.proofs.Common.{◌≡◌, false, sym, ◌∙◌, rules, tests}
use Rattle.std.specs.List.{list_any}
use Rattle.std.proofs.lemmas.Iterator.{YieldsList-from_slice}
use Rattle.std.proofs.lemmas.Iterator.Search.{any_from_yields_List}
use Rattle.s360_inquiry.specs.Causes.{is_node}
use Rattle.s360_inquiry.proofs.node.push_node.Goals as goal

pub returns : goal.returns
returns c =
    let found : c.any.result ≡ list_any (is_node c.args.node) c.args.known.now.items
    = any_from_yields_List (is_node c.args.node) _ _ _ c.any.ensures.ran (YieldsList-from_slice c.args.known.now.items cc) (λ x b q k. search (rules, tests))
    in let none : list_any (is_node c.args.node) c.args.known.now.items ≡ false = sym found ∙ c.if-any.false
    in rw none c.in_ok-push.ensures.items
