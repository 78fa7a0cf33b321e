-- What a target is seen as (kept).
use Rattle.std.specs.Prelude.{ℕ, Bool, false, List, [], drop, Option, None}
use Rattle.s360_journal.specs.Recorded.{Recorded, with_standing}
use Rattle.s360_journal.specs.declared.running.Reach.{Reach}
use Rattle.s360_remote.specs.Moving.{Moved, partly_on}
use Rattle.s360_remote.specs.declared.points.Met.{Met}
use Rattle.s360_remote.specs.Points.{Points, no_points}

-- what gdb is still to be told: watched bytes that were met together with one that it was told of; that the machine stands
-- where it does; and, if gdb asks, whether the last line of its user moved the machine
pub record Untold : Type 0 where
  pub met : List Met
  pub stop : Bool
  pub moved : Bool

abbrev pub nothing_untold : Untold
nothing_untold = record { met = []; stop = false; moved = false }

-- the session, the points at which it stops, the breakpoints that lines of gdb's user set, where the session stood before the last
-- inquiry that went elsewhere, and what gdb is still to be told
pub record Driven : Type 0 where
  pub recorded : Recorded
  pub points : Points
  pub own : List ℕ
  pub stood : Option ℕ
  pub untold : Untold

-- a target over a session of which nobody has asked anything
abbrev pub new_target : Recorded → Driven
new_target r = record { recorded = r; points = no_points; own = []; stood = None; untold = nothing_untold }

-- before a line or a write none of the record was dropped
abbrev pub fresh : Driven → Driven
fresh d = record d { recorded = record d.recorded { dropped = 0 } }

-- watched bytes of which gdb is to be told
abbrev pub noting : Driven → List Met → Driven
noting d met = record d { untold = record d.untold { met = met } }

-- some first ones of the events stand that the machine would run
abbrev pub gone_partly : Driven → Reach → ℕ → Driven
gone_partly d reach n = record d { recorded = partly_on d.points reach d.recorded n }

-- some last ones of the changes are taken back
abbrev pub back_partly : Driven → ℕ → Driven
back_partly d n = record d { recorded = with_standing d.recorded n }

-- the target, where the machine went to, with watched bytes of which gdb is to be told
abbrev pub come_to : Driven → Moved → Driven
come_to d moved = noting (record d { recorded = moved.recorded }) moved.met

-- gdb was told of the first
abbrev pub moved_to : Driven → Moved → Driven
moved_to d moved = noting (record d { recorded = moved.recorded }) (drop 1 moved.met)
