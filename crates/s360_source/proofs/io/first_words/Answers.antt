use Rattle.std.proofs.Common.{◌≡◌, ◌∙◌, ◌++◌, ap, false, sym, true}
use Rattle.s360_model.specs.Storage.{word_at}
use Rattle.s360_channel.specs.declared.caw.Caw.{Caw}
use Rattle.s360_channel.specs.{IoInstructions.caw_location, Programs.program_at, Words.caw_of, Words.is_whole_caw}
use Rattle.s360_machine.specs.Machine.{Machine, seen}
use Rattle.s360_footprint.specs.{ChannelReadings.next_ccw_read, OperandReadings.profile_of, Readings.places_read}
use Rattle.s360_source.specs.{Parts.places_of_part, declared.part.Part.Part}
use Rattle.s360_source.proofs.IoLemmas.{first-places}
use Rattle.s360_source.proofs.io.first_words.Goals as goal

pub returns-then-not-is_whole : goal.returns-then-not-is_whole
returns-then-not-is_whole c u =
    let m : Machine = seen c.args.machine.now.whole
    in let is : c.from_word-caw.result ≡ caw_of (word_at m.core.storage.bytes caw_location) = cc
    in ap (λ (p : Part). places_of_part p ++ places_of_part c.none-then-not-is_whole.result) c.none.ensures
    ∙ ap places_of_part c.none-then-not-is_whole.ensures
    ∙ sym (first-places u (caw_of (word_at m.core.storage.bytes caw_location)) m false
    (sym c.if-not-is_whole.true ∙ c.is_whole.ensures ∙ ap is_whole_caw is))

pub returns : goal.returns
returns c u =
    let m : Machine = seen c.args.machine.now.whole
    in let is : c.from_word-caw.result ≡ caw_of (word_at m.core.storage.bytes caw_location) = cc
    in c.words_of.ensures
    ∙ ap (λ (caw : Caw). places_read (next_ccw_read (profile_of m.core) (program_at caw.key caw.address)) m) is
    ∙ sym (first-places u (caw_of (word_at m.core.storage.bytes caw_location)) m true
    (sym c.if-not-is_whole.false ∙ c.is_whole.ensures ∙ ap is_whole_caw is))
