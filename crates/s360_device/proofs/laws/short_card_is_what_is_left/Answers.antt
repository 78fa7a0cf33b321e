use Rattle.s360_device.proofs.DeckLemmas.{short_card-of_deck, HasShortCard-from_start}
use Rattle.s360_device.proofs.laws.short_card_is_what_is_left.Goals as goal

pub returns-clause-whole : goal.returns-clause-whole
returns-clause-whole c = short_card-of_deck

pub returns-clause-short : goal.returns-clause-short
returns-clause-short c = HasShortCard-from_start
