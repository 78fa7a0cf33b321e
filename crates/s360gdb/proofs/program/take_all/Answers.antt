use Rattle.s360gdb.proofs.Conversations.{IsConversation-next}
use Rattle.s360gdb.specs.Saving.{known}
use Rattle.s360gdb.proofs.program.take_all.Goals as goal

pub loop-byte-preserved : goal.loop-byte-preserved
loop-byte-preserved g c =
    IsConversation-next g.F.File.Write.contents c.args.bytes.now c.loop-byte.byte-index _ c.args.connection.now c.args.target.now
    (known g.F.Opening.asked g.N.Write.contents c.args.host.now) c.loop-byte.connection c.loop-byte.target
    (known g.F.Opening.asked g.N.Write.contents c.loop-byte.host) c.take.new.self c.take.new.target
    (known g.F.Opening.asked g.N.Write.contents c.run_errand.new.host) _ c.args.replies.now c.loop-byte.replies c.take.new.replies c.run_errand.new.replies
    c.loop-byte-test.true c.loop-byte.invariant c.in_ok-errand.ensures c.in_ok-run_errand.ensures
