-- Cards that were punched, as a file: their columns, card by card (own profile).
use Rattle.std.specs.Prelude.{ℕ, if◌then◌else◌, Option, Some, None, List, [], flat_map}
use Rattle.s360_device.specs.declared.card.PunchStacker.{PunchStacker}
use Rattle.s360_device.specs.declared.card.PunchedCard.{PunchedCard}
use Rattle.s360_device.specs.Differences.{same_punch_stacker}

-- the columns of a card, if all cards are wanted, or those of the stacker that it lies in
abbrev pub columns_if_wanted : Option PunchStacker → PunchedCard → List ℕ
columns_if_wanted None c = c.card
columns_if_wanted (Some stacker) c = if same_punch_stacker stacker c.stacker then c.card else []

abbrev pub punch_file : Option PunchStacker → List PunchedCard → List ℕ
punch_file stacker cards = flat_map (columns_if_wanted stacker) cards
