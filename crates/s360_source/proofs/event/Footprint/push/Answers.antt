use Rattle.std.proofs.Common.{◌∙◌, List, ap, sym}
use Rattle.s360_store.specs.declared.place.Place.{Place}
use Rattle.s360_machine.specs.declared.event.Event.{Event}
use Rattle.s360_machine.specs.Machine.{Machine, seen}
use Rattle.s360_footprint.specs.CpuRows.{cpu_row}
use Rattle.s360_footprint.specs.EventRows.{EventEnd, row_in}
use Rattle.s360_footprint.specs.LoadingRows.{channel_event_row}
use Rattle.s360_footprint.specs.OperandReadings.{profile_of}
use Rattle.s360_source.specs.Footprints.{Footprint}
use Rattle.s360_source.specs.Walks.{walked}
use Rattle.s360_source.proofs.InstructionLemmas.{ended-walked}
use Rattle.s360_source.proofs.event.Footprint.push.Goals as goal

pub returns-in_ok-push_cpu-in-Cpu : goal.returns-in_ok-push_cpu-in-Cpu
returns-in_ok-push_cpu-in-Cpu c =
    let m : Machine = seen c.self.inside.machine.now.whole
    in let walk : Footprint → List Place = λ f. walked c.args.question (row_in f.machine f.event) f.machine c.args.found.now.items
    in c.in_ok-push_cpu-in-Cpu.ensures
    ∙ sym (ended-walked c.args.question (cpu_row (profile_of m.core)) EventEnd.of_cpu m c.args.found.now.items)
    ∙ ap (λ (e : Event). walked c.args.question (row_in m e) m c.args.found.now.items) (sym c.in-Cpu.is)
    ∙ ap walk c.self.view_is

pub returns-in_ok-push_channel_event-in-Channel : goal.returns-in_ok-push_channel_event-in-Channel
returns-in_ok-push_channel_event-in-Channel c =
    let m : Machine = seen c.self.inside.machine.now.whole
    in let walk : Footprint → List Place = λ f. walked c.args.question (row_in f.machine f.event) f.machine c.args.found.now.items
    in c.in_ok-push_channel_event-in-Channel.ensures
    ∙ sym (ended-walked c.args.question (channel_event_row (profile_of m.core) c.in-Channel.unit) EventEnd.of_channel m c.args.found.now.items)
    ∙ ap (λ (e : Event). walked c.args.question (row_in m e) m c.args.found.now.items) (sym c.in-Channel.is)
    ∙ ap walk c.self.view_is
