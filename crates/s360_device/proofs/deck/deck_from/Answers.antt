use Rattle.std.proofs.Common.{◌≡◌, ◌∙◌, ◌/◌, ◌%◌, length, arith}
use Rattle.std.proofs.lemmas.Bool.Decides.{nat_tests}
use Rattle.std.specs.Simd.{first_chunks}
use Rattle.s360_model.specs.Cards.{columns, IsDeckFile}
use Rattle.s360_device.proofs.ChunkLemmas.{IsDeckFile-first_chunks}
use Rattle.s360_device.proofs.deck.deck_from.Goals as goal

-- the cards are the file's
are_cards_of_file : (c : goal.In_ok-cards) → IsDeckFile c.args.file.now c.in_ok-cards.cards.items
are_cards_of_file c =
    let e : c.in_ok-cards.cards.items ≡ first_chunks columns (length c.args.file.now / columns) c.args.file.now
    = c.in_ok-cards.ensures.cards ∙ c.as_chunks.ensures.front
    in let whole : length c.args.file.now % columns ≡ 0 = grind (arith, nat_tests, c.as_chunks.ensures.back_len)
    in IsDeckFile-first_chunks c.args.file.now c.in_ok-cards.cards.items e whole

pub invariant_of-result : goal.invariant_of-result
invariant_of-result c = (are_cards_of_file c).whole

pub returns-clause-deck : goal.returns-clause-deck
returns-clause-deck c = are_cards_of_file c
