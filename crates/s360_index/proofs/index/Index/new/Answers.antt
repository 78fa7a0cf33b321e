use Rattle.std.proofs.Common.{◌≡◌, [], rules, arith}
use Rattle.s360_index.proofs.HistoryLemmas.{made-each, numbers-none}
use Rattle.s360_index.proofs.index.Index.new.Goals as goal

pub returns : goal.returns
returns c =
    numbers-none c.new.result.items c.from_fn.result c.new-2.result c.new-3.result.entries c.new.ensures.items
    (λ k d l. made-each _ (λ v. v.items ≡ []) (λ f q i y h. search rules) _ c.from_fn.result 0 16 c.from_fn.ensures.items.each k d (omega arith) (omega (arith, l, c.from_fn.ensures.items.long)))
    c.new-2.ensures.whole c.new-2.ensures.none c.new-3.ensures.empty
