use Rattle.std.proofs.Common.{◌≡◌, ◌∙◌, length, sym, arith}
use Rattle.s360_journal.proofs.IndexLemmas.{index-swapped, kept-swapped, length-swapped, may-index-last}
use Rattle.s360_journal.proofs.journal.unmake_last.Goals as goal
use Rattle.s360_journal.proofs.journal.unmake_last.Goals.{After-swap_last}

-- as many changes as before
many : (c : After-swap_last) → length c.swap_last.new.self ≡ length c.args.changes.now
many c = length-swapped c.args.machine.now.whole c.args.changes.now c.swap_last.new.self c.requires.some c.swap_last.ensures.changes

pub unindex_last-requires-clause-last : goal.unindex_last-requires-clause-last
unindex_last-requires-clause-last c = c.len-number.ensures.len ∙ sym (many (goal.at.unindex_last-requires-clause-last c).After-swap_last)

pub unindex_last-requires-clause-index : goal.unindex_last-requires-clause-index
unindex_last-requires-clause-index c =
    let s = (goal.at.unindex_last-requires-clause-index c).After-swap_last
    in may-index-last c.args.index.now c.swap_last.new.self c.len-number.result (omega (arith, c.requires.some, c.len-number.ensures.len)) (c.len-number.ensures.len ∙ sym (many s))
    (index-swapped c.args.index.now c.args.machine.now.whole c.args.changes.now c.swap_last.new.self c.requires.some c.swap_last.ensures.changes c.requires.index)

pub drop_last-requires : goal.drop_last-requires
drop_last-requires c = omega (arith, c.requires.some, many (goal.at.drop_last-requires c).After-swap_last)

pub returns-clause-index : goal.returns-clause-index
returns-clause-index c =
    let same : length c.swap_last.new.self ≡ c.len-number.result = many (goal.at.returns-clause-index c).After-swap_last ∙ sym c.len-number.ensures.len
    in rw (c.drop_last.ensures, same) c.unindex_last.ensures

pub returns-clause-changes : goal.returns-clause-changes
returns-clause-changes c =
    c.drop_last.ensures ∙ kept-swapped c.args.machine.now.whole c.args.changes.now c.swap_last.new.self c.requires.some c.swap_last.ensures.changes
