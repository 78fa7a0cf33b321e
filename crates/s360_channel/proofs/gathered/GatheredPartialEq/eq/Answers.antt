use Rattle.s360_channel.proofs.GatheredLemmas.{backward_eq}
use Rattle.s360_channel.proofs.gathered.GatheredPartialEq.eq.Goals as goal

pub loop-one-init : goal.loop-one-init
loop-one-init c = rw (c.backward-ours.ensures, c.backward-theirs.ensures) (backward_eq c.args.self.now c.args.other.now)
