use Rattle.std.proofs.Common.{◌≡◌, take, flat_map}
use Rattle.s360_saving.specs.Cards.{columns_if_wanted}
use Rattle.s360_saving.proofs.cards.cards_of.Given as goal

abbrev pub invariant-loop-index : goal.invariant-loop-index
invariant-loop-index l = l.text ≡ flat_map (columns_if_wanted l.stacker) (take l.index l.media.media)
