use Rattle.std.proofs.Common.{◌∙◌, ap, subst, sym}
use Rattle.s360_model.specs.Storage.{Storage}
use Rattle.s360_channel.specs.declared.{fetching.Fetched.Fetched, program.Program.Program, unit_state.UnitState.UnitState}
use Rattle.s360_channel.specs.{Execution.DeviceView, Execution.channel_execution, Steps.device_view}
use Rattle.s360_machine.specs.declared.run_state.RunState.{RunState}
use Rattle.s360_machine.specs.{Loading.has_loaded, Machine.Machine, Machine.seen}
use Rattle.s360_footprint.proofs.ChannelReadingLemmas.{next-is}
use Rattle.s360_source.specs.Channels.{IsMovedAt, status_of}
use Rattle.s360_source.proofs.channel_word.executed_by.Goals as goal

pub returns : goal.returns
returns g c =
    let d : DeviceView = device_view g.D.Device c.args.device.now
    in let m : Machine = seen c.args.machine.now.whole
    in let program : Program = c.args.program.now
    in record {
      moved = subst (λ (f : Fetched). IsMovedAt m d program f c.moved_by.result) (sym (next-is program m)) c.moved_by.ensures;
      loads = λ p s e.
          c.has_loaded-loads.ensures p program s
          (e ∙ sym (ap status_of c.in_ok-executed.ensures.executes.step.state
          ∙ ap (λ (z : Storage). status_of (channel_execution d z program).state) c.storage.ensures))
          ∙ ap (λ (r : RunState). has_loaded r c.args.unit (UnitState.Active p) s) c.run.ensures;
    }
