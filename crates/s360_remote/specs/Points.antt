-- Where gdb asks the machine to stop: breakpoints, and bytes of storage that are watched (gdb manual, "Packets", `Z0` to
-- `Z4`).
use Rattle.std.specs.Prelude.{ℕ, Bool, true, false, not, ◌&&◌, ◌||◌, ◌+◌, nat_eq, nat_le, nat_lt, if◌then◌else◌}
use Rattle.std.specs.Prelude.{List, [], ◌∷◌, ◌++◌, length, Option, None, option_map}
use Rattle.std.specs.List.{filter, find, fold, list_any, range_with_len}
use Rattle.std.specs.Option.{option_to_list, unwrap_or}
use Rattle.s360_store.specs.declared.place.Place.TheVariants.{Byte}
use Rattle.s360_packet.specs.declared.request.Watchpoint.{Watchpoint}
use Rattle.s360_packet.specs.declared.request.Watchpoint.TheVariants.{Write, Read, Access}
use Rattle.s360_condition.specs.Evaluation.{holds}
use Rattle.s360_condition.specs.Target.{Target}
use Rattle.s360_condition.specs.declared.instruction.Placed.{Placed}
use Rattle.s360_model.specs.Psw.{instruction_address_of}
use Rattle.s360_machine.specs.Machine.{Machine, seen}
use Rattle.s360_journal.specs.Breakpoints.{has_room_for, is_at_breakpoint, with_address, without_address}
use Rattle.s360_journal.specs.Rerun.{last_change_of}
use Rattle.s360_journal.specs.Running.{WhereToStop}
use Rattle.s360_journal.specs.Standing.{Standing}
use Rattle.s360_remote.specs.declared.points.Met.{Met}
use Rattle.s360_remote.specs.Registers.{words_of_machine}

-- conditions of the breakpoint at an address, of which one has to hold: each is the instructions of an expression
pub record Conditional : Type 0 where
  pub at : ℕ
  pub conditions : List (List Placed)

-- so many bytes from an address on, and what the watch of them waits for
pub record Watched : Type 0 where
  pub watchpoint : Watchpoint
  pub at : ℕ
  pub count : ℕ

-- the breakpoints, the conditions that they have, and the watched bytes
pub record Points : Type 0 where
  pub breaks : List ℕ
  pub conditional : List Conditional
  pub watches : List Watched

-- no point
abbrev pub no_points : Points
no_points = record { breaks = []; conditional = []; watches = [] }

-- without the conditions of the breakpoint at an address
abbrev pub without_conditions : List Conditional → ℕ → List Conditional
without_conditions conditional at = filter (λ c. not (nat_eq c.at at)) conditional

-- with these in their place, if there are any
abbrev pub with_conditions : List Conditional → ℕ → List (List Placed) → List Conditional
with_conditions conditional at [] = without_conditions conditional at
with_conditions conditional at (c ∷ cs) = without_conditions conditional at ++ record { at = at; conditions = c ∷ cs } ∷ []

-- a breakpoint at an address has conditions of which none holds
abbrev pub is_passed : Target → ℕ → Conditional → Bool
is_passed target at c = nat_eq c.at at && not (list_any (λ e. holds target e) c.conditions)

-- what conditions read of a machine: the words of its registers, and storage
abbrev pub target_of : Machine → Target
target_of m = record { registers = words_of_machine m; storage = m.core.storage.bytes }

-- the breakpoint at the next instruction has conditions of which none holds
abbrev pub is_passed_in : Machine → List Conditional → Bool
is_passed_in m conditional = list_any (λ c. is_passed (target_of m) (instruction_address_of m.core.psw) c) conditional

-- the CPU operates at a breakpoint which has no conditions, or one that holds
abbrev pub is_at_stop : Machine → Points → Bool
is_at_stop m p = is_at_breakpoint m p.breaks && not (is_passed_in m p.conditional)

-- the last standing change of a byte, 0 if there is none
abbrev pub last_change_at : Standing → ℕ → ℕ
last_change_at s at = unwrap_or (last_change_of (seen s.start) s.events (Byte at)) 0

-- the first of some bytes that the change of this number was the last to alter
abbrev pub byte_altered_by : Standing → List ℕ → ℕ → Option ℕ
byte_altered_by s bytes number = find (λ at. nat_eq (last_change_at s at) number) bytes

-- a byte is one of those from an address on
abbrev pub has_byte : Watched → ℕ → Bool
has_byte w at = nat_le w.at at && nat_lt at (w.at + w.count)

-- that of one watch more, if it has one: gdb looks at each watch that has a byte which it is told of
abbrev pub with_byte : List Met → Watched → Option ℕ → List Met
with_byte told w at =
    if list_any (λ b. has_byte w b.at) told then told
    else told ++ option_to_list (option_map (λ a. record { watchpoint = w.watchpoint; at = a }) at)

-- a watch that waits for bytes to be altered
abbrev pub byte_altered_of : Standing → ℕ → Watchpoint → List ℕ → Option ℕ
byte_altered_of s number Write bytes = byte_altered_by s bytes number
byte_altered_of s number other bytes = None

abbrev pub with_altered : Standing → ℕ → List Met → Watched → List Met
with_altered s number told w = with_byte told w (byte_altered_of s number w.watchpoint (range_with_len w.at w.count))

-- the watched bytes that gdb is told of one after another: those that the last change altered, one of each watch at most
abbrev pub bytes_altered : Standing → List Watched → List Met
bytes_altered s watches = fold (λ told w. with_altered s (length s.events) told w) [] watches

abbrev pub are_any : List Met → Bool
are_any [] = false
are_any (b ∷ others) = true

abbrev pub is_for_writes : Watchpoint → Bool
is_for_writes Write = true
is_for_writes other = false

-- a watch waits for bytes to be read
abbrev pub waits_for_reads : Points → Bool
waits_for_reads p = list_any (λ w. not (is_for_writes w.watchpoint)) p.watches

-- where the machine is to pause
abbrev pub stops_of : Points → WhereToStop
stops_of p = record { at = λ m. is_at_stop m p; altered = λ s. are_any (bytes_altered s p.watches) }

-- a byte is watched
abbrev pub is_watched : List Watched → ℕ → Bool
is_watched watches at = list_any (λ w. has_byte w at) watches

-- so many runs of bytes can be watched
abbrev pub most_watches : ℕ
most_watches = 64

abbrev pub are_same_bytes : Watched → Watched → Bool
are_same_bytes v w = nat_eq v.at w.at && nat_eq v.count w.count

abbrev pub is_same_watchpoint : Watchpoint → Watchpoint → Bool
is_same_watchpoint Write Write = true
is_same_watchpoint Read Read = true
is_same_watchpoint Access Access = true
is_same_watchpoint v w = false

abbrev pub are_same : Watched → Watched → Bool
are_same v w = is_same_watchpoint v.watchpoint w.watchpoint && are_same_bytes v w

-- these bytes are watched so
abbrev pub has_watch : List Watched → Watched → Bool
has_watch watches w = list_any (λ v. are_same v w) watches

-- no more can be watched
abbrev pub is_full : List Watched → Bool
is_full watches = nat_le most_watches (length watches)

-- these bytes can be watched: they are, or more can be
abbrev pub has_room_for_watch : List Watched → Watched → Bool
has_room_for_watch watches w = has_watch watches w || not (is_full watches)

-- with these bytes as the last; they stay as they are if they are watched or no more can be
abbrev pub with_watch : List Watched → Watched → List Watched
with_watch watches w = if has_watch watches w || is_full watches then watches else watches ++ w ∷ []

-- without these bytes, the others in their order
abbrev pub without_watch : List Watched → Watched → List Watched
without_watch watches w = filter (λ v. not (are_same v w)) watches

-- with a breakpoint at an address, and these conditions in place of others; they stay as they are if no more can be set
abbrev pub with_break : Points → ℕ → List (List Placed) → Points
with_break p at conditions =
    if has_room_for p.breaks at then record p { breaks = with_address p.breaks at; conditional = with_conditions p.conditional at conditions } else p

abbrev pub without_break : Points → ℕ → Points
without_break p at = record p { breaks = without_address p.breaks at; conditional = without_conditions p.conditional at }
