use Rattle.std.proofs.Common.{◌∙◌, None, Some, [], ap, cond, sym}
use Rattle.s360_model.specs.Storage.{Storage}
use Rattle.s360_channel.specs.Programs.{ccw_at}
use Rattle.s360_machine.specs.Machine.{Machine, seen}
use Rattle.s360_footprint.specs.ChannelReadings.{ccw_read}
use Rattle.s360_footprint.specs.OperandReadings.{profile_of}
use Rattle.s360_footprint.specs.Readings.{places_read}
use Rattle.s360_source.specs.Parts.{places_of_part}
use Rattle.s360_source.proofs.ChannelWordLemmas.{both-words}
use Rattle.s360_source.proofs.channel_word.words_of.Goals as goal

pub returns-in_default : goal.returns-in_default
returns-in_default c =
    both-words c.args.program.now (seen c.args.machine.now.whole) None _ _ (sym c.is_loading.ensures ∙ c.if-is_loading.false)
    (sym c.in_default.is ∙ c.ccw_at.ensures ∙ ap (λ (s : Storage). ccw_at s c.args.program.now.address) c.storage.ensures)
    c.word_at-word.ensures (ap places_of_part c.none-in_default.ensures)

pub returns-then-leads_on : goal.returns-then-leads_on
returns-then-leads_on c =
    let m : Machine = seen c.args.machine.now.whole
    in both-words c.args.program.now m (Some c.in-Some.ccw) _ _ (sym c.is_loading.ensures ∙ c.if-is_loading.false)
    (sym c.in-Some.is ∙ c.ccw_at.ensures ∙ ap (λ (s : Storage). ccw_at s c.args.program.now.address) c.storage.ensures)
    c.word_at-word.ensures
    (c.word_at.ensures
    ∙ ap (λ b. cond b (places_read (ccw_read (profile_of m.core) c.in-Some.ccw.address) m) []) (sym c.if-leads_on.true ∙ c.leads_on.ensures))

pub returns : goal.returns
returns c =
    let m : Machine = seen c.args.machine.now.whole
    in both-words c.args.program.now m (Some c.in-Some.ccw) _ _ (sym c.is_loading.ensures ∙ c.if-is_loading.false)
    (sym c.in-Some.is ∙ c.ccw_at.ensures ∙ ap (λ (s : Storage). ccw_at s c.args.program.now.address) c.storage.ensures)
    c.word_at-word.ensures
    (ap places_of_part c.none-2.ensures
    ∙ ap (λ b. cond b (places_read (ccw_read (profile_of m.core) c.in-Some.ccw.address) m) []) (sym c.if-leads_on.false ∙ c.leads_on.ensures))
