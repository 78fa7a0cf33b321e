use Rattle.std.proofs.Common.{◌≡◌, map, take}
use Rattle.s360_inquiry.specs.Calls.{open_call}
use Rattle.s360_inquiry.proofs.calling.with_links_now.Given as goal

abbrev pub invariant-loop-call : goal.invariant-loop-call
invariant-loop-call l = l.found.items ≡ map (open_call l.recording) (take l.call-index l.calls)
