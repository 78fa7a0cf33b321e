-- Lists of session calls with their answers.
use Rattle.std.specs.Bool.{MatchBool}
use Rattle.std.specs.Prelude.{◌≡◌, ◌≤◌, ◌<◌, ◌↔◌, ◌+◌, ◌-◌, ⊤, ℕ, true, IsTrue, List, [], ◌∷◌, length, max, min, take, None, Some, Ok, Err, MatchOption}
use Rattle.s360_machine.specs.declared.event.Event.{Event}
use Rattle.s360_machine.specs.Machine.{Whole, seen}
use Rattle.s360_machine.specs.declared.refusal.Refusal.{Refusal}
use Rattle.s360_machine.specs.declared.refusal.Refusal.TheVariants.{Memory}
use Rattle.s360_journal.specs.declared.calls.Call.{Call}
use Rattle.s360_journal.specs.declared.calls.Call.TheVariants.{Forward, Advance, Preview, Run, Back, StepBack, RunBack, BackUntil, BackTo}
use Rattle.s360_journal.specs.declared.calls.Call.TheVariants.{Again, AgainTo, Withdraw, Standing as standing, Recorded as recorded, LastChange}
use Rattle.s360_journal.specs.declared.calls.Answer.{Answer}
use Rattle.s360_journal.specs.declared.calls.Answer.TheVariants.{Forwarded, Advanced, Previewed, Ran, TookBack, SteppedBack, RanBack}
use Rattle.s360_journal.specs.declared.calls.Answer.TheVariants.{WentBack, RanAgain, WentOn, Withdrew, Stands, AreRecorded, LastChanged}
use Rattle.s360_journal.specs.Recorded.{Recorded, after_event, after_events, session_of, standing_events, with_standing, without_change, without_last}
use Rattle.s360_journal.specs.Reports.{IsReport}
use Rattle.s360_journal.specs.Rerun.{last_change_of}
use Rattle.s360_journal.specs.Returning.{back_of}
use Rattle.s360_journal.specs.Running.{run_in, stops_at}
use Rattle.s360_journal.specs.Stops.{stop_of}
use Rattle.s360_journal.specs.Standing.{alteration, last_of, refusal_in}
use Rattle.s360_journal.specs.Withdrawals.{is_standing}
use Rattle.s360_journal.specs.declared.withdrawing.Withdrawal.TheVariants.{Memory as no_memory, NoSuchChange}

-- a session that starts at the machine, in which nothing is recorded
abbrev pub new_session : Whole → ℕ → Recorded
new_session start limit = record { start = start; events = []; standing = 0; limit = limit; dropped = 0 }

-- what a call with its answer leaves: an accepted event comes to stand, as do as many events of a run as were accepted, and those
-- of the record that are run again; a step back drops the last from those that stand, going back to a stop or to a change
-- keeps as many as it answers, a withdrawal leaves out the one of its number, and all else leaves them
abbrev pub state_after : Recorded → Call → Answer → Recorded
state_after r (Forward e) (Forwarded (Ok report)) = after_event r e
state_after r (Advance e) (Advanced (Ok done)) = after_event r e
state_after r (Run breaks turn reach most) (Ran accepted end) = after_events r (take accepted (run_in (stops_at breaks) turn reach r most).events)
state_after r Back (TookBack (Ok e)) = without_last r
state_after r StepBack (SteppedBack (Ok done)) = with_standing r (r.standing - 1)
state_after r (RunBack breaks reach most) (RanBack k why) = with_standing r k
state_after r (BackUntil breaks) (WentBack k) = with_standing r k
state_after r (BackTo n) (WentBack k) = with_standing r k
state_after r Again (RanAgain (Ok ran)) = with_standing r (min (r.standing + 1) (length r.events))
state_after r (AgainTo n) (WentOn (Ok k)) = with_standing r k
state_after r (Withdraw k) (Withdrew (Ok done)) = without_change r k
state_after r c a = r

-- what calls with their answers leave
abbrev pub state_after_all : Recorded → List Call → List Answer → Recorded
state_after_all r (c ∷ cs) (a ∷ answers) = state_after_all (state_after r c a) cs answers
state_after_all r cs answers = r

-- the events that stand after calls from a start, which their answers tell
abbrev pub events_after_calls : Whole → ℕ → List Call → List Answer → List Event
events_after_calls start limit calls answers = standing_events (state_after_all (new_session start limit) calls answers)

-- an event may be refused so: as the definition says, or else for want of memory
abbrev pub IsRefusal : Recorded → Event → Refusal → Type 0
IsRefusal s e r = MatchOption (refusal_in (session_of s) e) (r ≡ Memory) (λ q. r ≡ q)

-- the call may answer this in the session r
abbrev pub MayAnswer : Recorded → Call → Answer → Type 0
MayAnswer r (Forward e) (Forwarded (Ok report)) = (refusal_in (session_of r) e ≡ None) × IsReport report (alteration (session_of r) e)
MayAnswer r (Forward e) (Forwarded (Err refusal)) = IsRefusal r e refusal
MayAnswer r (Advance e) (Advanced (Ok done)) = refusal_in (session_of r) e ≡ None
MayAnswer r (Advance e) (Advanced (Err refusal)) = IsRefusal r e refusal
MayAnswer r (Preview e) (Previewed (Ok report)) = (refusal_in (session_of r) e ≡ None) × IsReport report (alteration (session_of r) e)
MayAnswer r (Preview e) (Previewed (Err refusal)) = IsRefusal r e refusal
MayAnswer r (Run breaks turn reach most) (Ran accepted (Ok end)) =
    let run = run_in (stops_at breaks) turn reach r most in (end ≡ run.why) × (accepted ≡ length run.events)
MayAnswer r (Run breaks turn reach most) (Ran accepted (Err e)) = accepted ≤ length (run_in (stops_at breaks) turn reach r most).events
MayAnswer r Back (TookBack (Ok e)) = last_of (standing_events r) ≡ Some e
MayAnswer r Back (TookBack (Err n)) = standing_events r ≡ []
MayAnswer r StepBack (SteppedBack (Ok done)) = 0 < r.standing
MayAnswer r StepBack (SteppedBack (Err n)) = r.standing ≡ 0
MayAnswer r (RunBack breaks reach most) (RanBack k why) = let paused = back_of (stops_at breaks) reach r most in (k ≡ paused.standing) × (why ≡ paused.why)
MayAnswer r (BackUntil breaks) (WentBack k) = k ≡ stop_of (seen r.start) (standing_events r) breaks
MayAnswer r (BackTo n) (WentBack k) = k ≡ min n r.standing
MayAnswer r Again (RanAgain (Ok ran)) = IsTrue ran ↔ (r.standing < length r.events)
MayAnswer r Again (RanAgain (Err e)) = ⊤
MayAnswer r (AgainTo n) (WentOn (Ok k)) = k ≡ max r.standing (min n (length r.events))
MayAnswer r (AgainTo n) (WentOn (Err e)) = ⊤
MayAnswer r (Withdraw k) (Withdrew (Ok done)) = is_standing k (standing_events r) ≡ true
MayAnswer r (Withdraw k) (Withdrew (Err w)) = MatchBool (is_standing k (standing_events r)) (w ≡ no_memory) (w ≡ NoSuchChange)
MayAnswer r standing (Stands n) = n ≡ r.standing
MayAnswer r recorded (AreRecorded n) = n ≡ length r.events
MayAnswer r (LastChange p) (LastChanged k) = k ≡ last_change_of (seen r.start) (standing_events r) p
MayAnswer r c a = ⊥

-- the call may answer this in the session r, and leaves t
abbrev pub IsAnswer : Recorded → Call → Answer → Recorded → Type 0
IsAnswer r c a t = MayAnswer r c a × (t ≡ state_after r c a)

-- the calls may answer these one after another, and lead from the session s to t
abbrev pub IsRun : Recorded → List Call → List Answer → Recorded → Type 0
IsRun s [] [] t = t ≡ s
IsRun s (c ∷ cs) (a ∷ answers) t = (between : Recorded) × IsAnswer s c a between × IsRun between cs answers t
IsRun s cs answers t = ⊥
