use Rattle.std.proofs.Common.{Option, Some, ◌∙◌, ap, subst, sym}
use Rattle.s360_channel.specs.declared.unit_state.UnitState.{UnitState}
use Rattle.s360_machine.specs.Machine.{Machine, seen}
use Rattle.s360_source.specs.Channels.{channel_walk}
use Rattle.s360_source.specs.declared.channel_word.ChannelWord.{ChannelWord}
use Rattle.s360_source.specs.Footprints.{IsWordIn}
use Rattle.s360_source.specs.Parts.{places_of_part}
use Rattle.s360_source.specs.Walks.{with_decided}
use Rattle.s360_source.proofs.ChannelWalkLemmas.{word-walked}
use Rattle.s360_source.proofs.channel.push_unit_event.Goals as goal

pub returns-in_ok-push_word-in-Active-Some : goal.returns-in_ok-push_word-in-Active-Some
returns-in_ok-push_word-in-Active-Some c =
    let m : Machine = seen c.args.machine.now.whole
    in let x : ChannelWord = c.in-Active-Some.word
    in let active : UnitState = UnitState.Active c.in-Active-Some.field-0-0
    in let state : IsWordIn m c.args.unit active c.args.word
    = subst (λ (s : UnitState). IsWordIn m c.args.unit s c.args.word) (sym c.state_of.ensures ∙ c.in-Active-Some.is-0) c.requires.word
    in let at_hand : IsWordIn m c.args.unit active (Some x)
    = subst (λ (o : Option ChannelWord). IsWordIn m c.args.unit active o) c.in-Active-Some.is-1 state
    in word-walked c.args.question c.args.unit x c.in-Active-Some.field-0-0 m c.args.found.now.items c.push_word.new.found.items at_hand
    (c.in_ok-push_word-in-Active-Some.ensures
    ∙ ap (channel_walk c.args.question x)
    (c.in_ok-decide.ensures ∙ ap (λ part. with_decided c.args.question (places_of_part part) c.args.found.now.items) c.state.ensures))
