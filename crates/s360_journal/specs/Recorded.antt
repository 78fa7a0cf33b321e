-- What a session is seen as: the events that were recorded, of which the first ones stand.
use Rattle.std.specs.Prelude.{◌≡◌, ◌≤◌, ℕ, ◌+◌, ◌-◌, ◌++◌, if◌then◌else◌, List, [], ◌∷◌, take, drop, length, slice_get, ⊤, Option, Some, None}
use Rattle.std.specs.Prelude.{MatchOption, Result, Err, IsOkUnless, OnErr, OnOk}
use Rattle.s360_machine.specs.declared.event.Event.{Event}
use Rattle.s360_machine.specs.Machine.{Whole, seen, storage_size}
use Rattle.s360_machine.specs.declared.refusal.Refusal.{Refusal}
use Rattle.s360_machine.specs.declared.refusal.Refusal.TheVariants.{Memory}
use Rattle.s360_journal.specs.Advances.{AreLed, Journaled, start_of}
use Rattle.s360_journal.specs.Offers.{with_events}
use Rattle.s360_journal.specs.Rerun.{AreAccepted}
use Rattle.s360_journal.specs.Standing.{IsAfter, Standing, machine_of, refusal_in}
use Rattle.s360_journal.specs.Timelines.{Timeline, dropped_with, is_first}
use Rattle.s360_journal.specs.Withdrawals.{without_event}

-- the whole machine at the start, the events that were recorded, how many first ones of them stand, how many may be recorded,
-- and how many were dropped when some were dropped last
pub record Recorded : Type 0 where
  pub start : Whole
  pub events : List Event
  pub standing : ℕ
  pub limit : ℕ
  pub dropped : ℕ

-- what is seen of a machine with the changes that led to it, and of a timeline
abbrev pub recorded_of : Journaled → Timeline → ℕ → ℕ → Recorded
recorded_of j t limit dropped = record {
  start = start_of j.whole t.standing j.changes;
  events = t.standing ++ t.rest;
  standing = length t.standing;
  limit = limit;
  dropped = dropped;
}

-- the events that stand led there, none of the rest is refused, and no more are recorded than may be
abbrev pub IsSession : Journaled → Timeline → ℕ → Type 0
IsSession j t limit =
    AreLed t.standing j × AreAccepted (seen j.whole) t.rest × (length t.standing + length t.rest ≤ limit) × (limit ≤ 10000000)

-- the events that stand
abbrev pub standing_events : Recorded → List Event
standing_events r = take r.standing r.events

-- the session of these alone
abbrev pub session_of : Recorded → Standing
session_of r = record { start = r.start; events = standing_events r; limit = r.limit }

-- the others, which were taken back
abbrev pub rest_of : Recorded → List Event
rest_of r = drop r.standing r.events

-- the first of these, which comes next, if there is one
abbrev pub next_recorded : Recorded → Option Event
next_recorded r = slice_get (rest_of r) 0

-- the same record, of which so many events stand
abbrev pub with_standing : Recorded → ℕ → Recorded
with_standing r n = record r { standing = n }

-- the record of so many events, all of which stand: the rest is dropped
abbrev pub cut_to : Recorded → List Event → ℕ → Recorded
cut_to r es n = record r { events = es; standing = n; dropped = dropped_with (rest_of r) r.dropped }

-- an event more stands: the next of the record, or else its last from now on
abbrev pub after_event : Recorded → Event → Recorded
after_event r e = if is_first (rest_of r) e then with_standing r (r.standing + 1) else cut_to r (standing_events r ++ e ∷ []) (r.standing + 1)

-- an event was offered: what it leaves, or why it is refused; and no event has altered the size of storage
pub record IsOffered (r : Recorded) (e : Event) (result : Result ⊤ Refusal) (t : Recorded) : Type 0 where
  pub ok : OnOk result (t ≡ after_event r e)
  pub stands : OnOk result (IsAfter (session_of t) (session_of r) e)
  pub err : OnErr result (t ≡ r)
  pub refused : MatchOption (refusal_in (session_of r) e) (IsOkUnless result Memory) (λ q. result ≡ Err q)
  pub size : storage_size (machine_of (session_of r)) ≡ storage_size (seen r.start)

-- and events one after another
abbrev pub after_events : Recorded → List Event → Recorded
after_events r [] = r
after_events r (e ∷ es) = after_events (after_event r e) es

-- events were run one after another, and stand after those before
pub record AreRun (r : Recorded) (es : List Event) (t : Recorded) : Type 0 where
  pub record_of : t ≡ after_events r es
  pub stands : session_of t ≡ with_events (session_of r) es

-- the event that comes next was run again: it is not refused, and stands after those before
pub record IsRunAgain (r t : Recorded) (e : Event) : Type 0 where
  pub next : next_recorded r ≡ Some e
  pub accepted : refusal_in (session_of r) e ≡ None
  pub state : t ≡ after_event r e
  pub stands : IsAfter (session_of t) (session_of r) e

-- the last event that stands is taken out of the record
abbrev pub without_last : Recorded → Recorded
without_last r = cut_to r (take (r.standing - 1) r.events) (r.standing - 1)

-- the event of this number is withdrawn from those that stand
abbrev pub without_change : Recorded → ℕ → Recorded
without_change r k = cut_to r (without_event k (standing_events r)) (r.standing - 1)

-- all that is recorded stands
abbrev pub IsAlone : Recorded → Type 0
IsAlone r = r.standing ≡ length r.events

-- of two records of which all stands, the number of those that were dropped last is the same
pub record StaysAlone (r t : Recorded) : Type 0 where
  pub alone : IsAlone t
  pub dropped : t.dropped ≡ r.dropped
