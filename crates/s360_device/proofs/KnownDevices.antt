-- Commands of the reader and the punch worked by hand, which the definitions have to give.
use Rattle.std.specs.Prelude.{◌≡◌, Bool, true, false, ℕ, List, [], ◌∷◌, Some, None, replicate, refl}
use Rattle.s360_model.specs.Cards.{short_card_of}
use Rattle.s360_device.specs.declared.card.ReadStacker.{ReadStacker}
use Rattle.s360_device.specs.declared.card.ReadStacker.TheVariants.{R1, R2, Rp3}
use Rattle.s360_device.specs.declared.card.PunchStacker.TheVariants.{P2}
use Rattle.s360_device.specs.declared.device.Begin.TheVariants.{Input, Output, Control, Refused}
use Rattle.s360_device.specs.Commands.{command_of}
use Rattle.s360_device.specs.Sense.{no_sense, command_reject, intervention_required}
use Rattle.s360_device.specs.Rows.{begin_of, input_of, exception_of, after_command}
use Rattle.s360_device.specs.Reader.{Reader, reader_table, new_reader, with_end_key}
use Rattle.s360_device.specs.Punch.{punch_table, new_punch}

-- a card of one sign
abbrev card : ℕ → List ℕ
card sign = replicate 80 sign

-- a reader with two cards, of which so many were fed to these stackers, and these sense bytes
abbrev reader : List ReadStacker → Bool → List ℕ → Reader
reader stackers end sense = record { sense = sense; media = record { cards = card 0xC1 ∷ card 0xC2 ∷ []; stackers = stackers; end_of_file = end } }

-- 02 of the first card: 80 bytes, and the card goes to R1
pub read_begins : begin_of reader_table (reader [] false no_sense) (command_of 0x02) ≡ Input 80
read_begins = refl

pub read_gives : input_of reader_table (reader [] false no_sense) (command_of 0x02) ≡ card 0xC1
read_gives = refl

pub read_feeds : after_command reader_table (reader [] false command_reject) (command_of 0x02) [] ≡ reader (R1 ∷ []) false no_sense
read_feeds = refl

-- 82 of the second: it goes to RP3
pub second_read_gives : input_of reader_table (reader (R1 ∷ []) false no_sense) (command_of 0x82) ≡ card 0xC2
second_read_gives = refl

pub second_read_feeds : after_command reader_table (reader (R1 ∷ []) false no_sense) (command_of 0x82) [] ≡ reader (R1 ∷ Rp3 ∷ []) false no_sense
second_read_feeds = refl

-- C2 gives the card and does not feed it; 63 feeds it to R2 and gives nothing
pub read_alone_gives : input_of reader_table (reader (R1 ∷ []) false no_sense) (command_of 0xC2) ≡ card 0xC2
read_alone_gives = refl

pub read_alone_stays : after_command reader_table (reader (R1 ∷ []) false no_sense) (command_of 0xC2) [] ≡ reader (R1 ∷ []) false no_sense
read_alone_stays = refl

pub feed_begins : begin_of reader_table (reader [] false no_sense) (command_of 0x63) ≡ Control
feed_begins = refl

pub feed_feeds : after_command reader_table (reader [] false no_sense) (command_of 0x63) [] ≡ reader (R2 ∷ []) false no_sense
feed_feeds = refl

-- with no card left: intervention required, which stands in the sense bytes afterwards and which sense gives and leaves
pub read_past_the_end : begin_of reader_table (reader (R1 ∷ R1 ∷ []) false no_sense) (command_of 0x02) ≡ Refused intervention_required
read_past_the_end = refl

pub sense_after_it : after_command reader_table (reader (R1 ∷ R1 ∷ []) false no_sense) (command_of 0x02) [] ≡ reader (R1 ∷ R1 ∷ []) false intervention_required
sense_after_it = refl

pub sense_gives : input_of reader_table (reader [] false intervention_required) (command_of 0x04) ≡ 0x40 ∷ []
sense_gives = refl

pub sense_leaves : after_command reader_table (reader [] false intervention_required) (command_of 0x04) [] ≡ reader [] false intervention_required
sense_leaves = refl

pub no_operation_leaves : after_command reader_table (reader [] false intervention_required) (command_of 0x03) [] ≡ reader [] false intervention_required
no_operation_leaves = refl

-- with the end-of-file key pressed: no byte, and unit exception; a feed is a control with unit exception
pub end_key : with_end_key (new_reader (card 0xC1 ∷ card 0xC2 ∷ [])) ≡ reader [] true no_sense
end_key = refl

pub read_at_the_end : begin_of reader_table (reader (R1 ∷ R1 ∷ []) true no_sense) (command_of 0xC2) ≡ Input 0
read_at_the_end = refl

pub exception_at_the_end : exception_of reader_table (reader (R1 ∷ R1 ∷ []) true no_sense) (command_of 0x42) ≡ true
exception_at_the_end = refl

pub feed_at_the_end : begin_of reader_table (reader (R1 ∷ R1 ∷ []) true no_sense) (command_of 0xA3) ≡ Control
feed_at_the_end = refl

pub no_exception_before_it : exception_of reader_table (reader [] true no_sense) (command_of 0x42) ≡ false
no_exception_before_it = refl

-- a code that the reader does not have
pub unknown_code : begin_of reader_table (reader [] false no_sense) (command_of 0x01) ≡ Refused command_reject
unknown_code = refl

-- 41 of F1 F2 F3: a card of these and 77 blanks in P2
pub punch_begins : begin_of punch_table new_punch (command_of 0x41) ≡ Output 80
punch_begins = refl

pub punch_punches : after_command punch_table new_punch (command_of 0x41) (0xF1 ∷ 0xF2 ∷ 0xF3 ∷ [])
    ≡ record { sense = no_sense; media = record { card = 0xF1 ∷ 0xF2 ∷ 0xF3 ∷ replicate 77 0x40; stacker = P2 } ∷ [] }
punch_punches = refl

pub punch_has_no_read : after_command punch_table new_punch (command_of 0x02) [] ≡ record { sense = command_reject; media = [] }
punch_has_no_read = refl

-- 161 bytes: the third card is short; 160 are two cards, and none are no card
pub third_card_is_short : short_card_of (replicate 161 0) ≡ Some 160
third_card_is_short = refl

pub two_cards : short_card_of (replicate 160 0) ≡ None
two_cards = refl

pub no_card : short_card_of [] ≡ None
no_card = refl
