-- The stop that gdb is told before the machine goes on or back, if it is still to be told one (gdb manual, "Stop Reply Packets") (kept).
use Rattle.std.specs.Prelude.{false, if◌then◌else◌, List, slice_get, drop, Option, Some, filter, option_map}
use Rattle.s360_packet.specs.declared.answer.Stop.{Stop}
use Rattle.s360_packet.specs.declared.answer.Stop.TheVariants.{Trap, Watch as watch}
use Rattle.s360_remote.specs.Driven.{Untold}
use Rattle.s360_remote.specs.declared.points.Met.{Met}
use Rattle.s360_remote.specs.Points.{Watched, is_watched}

-- the bytes that are watched still
abbrev pub still_watched : List Watched → List Met → List Met
still_watched watches met = filter (λ b. is_watched watches b.at) met

abbrev pub watch_of : Met → Stop
watch_of b = watch b.watchpoint b.at

-- that the machine stands where it does comes before the first of the bytes
abbrev pub stop_before : Untold → List Watched → Option Stop
stop_before u watches = if u.stop then Some Trap else option_map watch_of (slice_get (still_watched watches u.met) 0)

-- what is still to be told then
abbrev pub after_stop : Untold → List Watched → Untold
after_stop u watches = if u.stop then record u { stop = false } else record u { met = drop 1 (still_watched watches u.met) }
