-- What the code answers of a channel event: a step, and what is stored; and how they are those of the event's execution (kept).
use Rattle.std.specs.Prelude.{◌≡◌, ◌<◌, ◌≤◌, ◌+◌, ℕ, IfSome, Option, Some, None, List, [], ◌++◌, length, option_copied, take, unwrap_or}
use Rattle.s360_model.specs.{Core.Core, Storage.Storage}
use Rattle.s360_store.specs.{declared.place.Cell.Cell, Plans.IsPlanOf}
use Rattle.s360_device.specs.{declared.device.Device.Ghosts, Transfers.MovesBytes}
use Rattle.s360_channel.specs.{declared.command_word.CommandWord.CommandWord, Programs.next_ccw}
use Rattle.s360_channel.specs.declared.{csw.ChannelStatus.ChannelStatus, fetching.Fetched.Fetched, program.Program.Program, unit_state.UnitState.UnitState}
use Rattle.s360_channel.specs.declared.{engine.ChannelStep.ChannelStep, engine.Executed.Executed, gathering.OutputBytes.OutputBytes}
use Rattle.s360_channel.specs.Execution.{DeviceView, Ending, Execution, Run, WordAtHand, after_check, channel_execution, command_with, core_with_run, word_with}

-- a device as its channel sees it, and the word at hand that the code has, by the device's contract
abbrev pub device_view : {D C : Type 0} → Ghosts D C → D → DeviceView
device_view g d = record { begin = g.begin_of d; input = g.input_of d; exception = g.exception_of d }

abbrev pub at_hand : {D C : Type 0} → Ghosts D C → CommandWord D → WordAtHand
at_hand g w = word_with (device_view g w.device.now) w.program.now w.at w.ccw w.command

-- the bytes of an output that it has: no more than the device's limit
abbrev pub output_of : OutputBytes → List ℕ
output_of o = take o.limit (unwrap_or (option_copied o.before) [] ++ o.fetched.now)

-- whatever follows, the word meets a check of this status
abbrev pub MeetsCheck : (Execution → Execution) → WordAtHand → ChannelStatus → Type 0
MeetsCheck unless w status = (e : Execution) → unless e ≡ after_check w.program w.at status

-- a run has bytes, no more than a count counts, and lies in storage
abbrev pub LiesIn : Storage → Run → Type 0
LiesIn s r = (0 < length r.bytes) × (length r.bytes ≤ 65535) × (r.at + length r.bytes ≤ length s.bytes)

-- the state of the unit after a step of a program, and the change of the device
abbrev pub state_after_step : {C : Type 0} → Program → ChannelStep C → UnitState
state_after_step p ChannelStep.NotYet = UnitState.Active p
state_after_step p (ChannelStep.GoesOn program change) = UnitState.Active program
state_after_step p (ChannelStep.Ends csw change) = UnitState.Waiting csw

abbrev pub change_of_step : {C : Type 0} → ChannelStep C → Option C
change_of_step ChannelStep.NotYet = None
change_of_step (ChannelStep.GoesOn program change) = change
change_of_step (ChannelStep.Ends csw change) = change

-- the change makes of the device what a command that ends makes of it: it can be exchanged with the device bare of room, which then is as after the command,
-- and needs no room to be taken back. The device was not so before
pub record IsChangeBy {D C : Type 0} (g : Ghosts D C) (d : D) (e : Ending) (x : C) : Type 0 where
  pub can : g.can_swap (g.bare d) x
  pub row : g.is_after d e.command e.output (g.after_swap (g.bare d) x)
  pub back : g.needs (g.change_after_swap (g.bare d) x) ≡ 0
  pub alters : g.is_after d e.command e.output d → ⊥

-- this change is that ending's: there is none where no command ends, or one that leaves the device as it was
abbrev pub IsChangeOf : {D C : Type 0} → Ghosts D C → D → Option Ending → Option C → Type 0
IsChangeOf g d None None = Unit {0}
IsChangeOf g d None (Some x) = ⊥
IsChangeOf g d (Some e) None = g.is_after d e.command e.output d
IsChangeOf g d (Some e) (Some x) = IsChangeBy g d e x

-- the step is the execution's
pub record IsStepOf {D C : Type 0} (g : Ghosts D C) (d : D) (p : Program) (e : Execution) (step : ChannelStep C) : Type 0 where
  pub state : state_after_step p step ≡ e.state
  pub change : IsChangeOf g d e.ending (change_of_step step)

abbrev pub StepsWord : {D C : Type 0} → Ghosts D C → CommandWord D → Execution → ChannelStep C → Type 0
StepsWord g w e step = IsStepOf g w.device.now w.program.now e step

-- what was executed is the execution: what is stored, which lies in storage, and the step
pub record Executes {D C : Type 0} (g : Ghosts D C) (d : D) (s : Storage) (p : Program) (e : Execution) (x : Executed C) : Type 0 where
  pub stores : x.stores ≡ e.stores
  pub inside : IfSome x.stores (λ r. LiesIn s r)
  pub step : IsStepOf g d p e x.step

abbrev pub ExecutesWord : {D C : Type 0} → Ghosts D C → Storage → CommandWord D → Execution → Executed C → Type 0
ExecutesWord g s w e x = Executes g w.device.now s w.program.now e x

-- what was executed is the channel event
abbrev pub ExecutesEvent : {D C : Type 0} → Ghosts D C → D → Storage → Program → Executed C → Type 0
ExecutesEvent g d s p x = Executes g d s p (channel_execution (device_view g d) s p) x

-- the plan puts a run, if there is one, into any core that has this storage
abbrev pub StoresRun : Storage → List Cell → Option Run → Type 0
StoresRun s plan run = (m : Core) → m.storage ≡ s → IsPlanOf m plan (core_with_run run m)

-- the plan puts what the channel event stores into any such core, in no more cells than a count has bytes, and the step is the event's
pub record PlansEvent {D C : Type 0} (g : Ghosts D C) (d : D) (s : Storage) (p : Program) (plan : List Cell) (x : ChannelStep C) : Type 0 where
  pub stores : StoresRun s plan (channel_execution (device_view g d) s p).stores
  pub few : length plan ≤ 65535
  pub step : IsStepOf g d p (channel_execution (device_view g d) s p) x

-- the word with which a program goes on moves bytes, by how its device begins the command; one that meets a program check moves none
abbrev pub FetchedMovesBytes : DeviceView → Program → Fetched → Type 0
FetchedMovesBytes d p (Fetched.Broken last) = ⊥
FetchedMovesBytes d p (Fetched.Whole at c) = MovesBytes (d.begin (command_with p.progress c))

abbrev pub EventMovesBytes : DeviceView → Storage → Program → Type 0
EventMovesBytes d s p = FetchedMovesBytes d p (next_ccw s p)
