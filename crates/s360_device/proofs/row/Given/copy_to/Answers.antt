use Rattle.std.proofs.Common.{◌≡◌, ◌-◌, ◌+◌, ◌≤◌, sym, length, reverse, arith}
use Rattle.std.proofs.lemmas.List.{length-reverse}
use Rattle.s360_device.proofs.GivenLemmas.{part-reversed}
use Rattle.s360_device.proofs.row.Given.copy_to.Goals as goal

pub returns-then-self : goal.returns-then-self
returns-then-self c =
    let n = length c.args.into.now
    in let all = length c.args.self.bytes.now
    in let back : c.args.first + n ≤ length (reverse c.args.self.bytes.now) = rw c.if-self.true at c.requires.inside
    in let inside : c.args.first + n ≤ all = omega (arith, back, length-reverse c.args.self.bytes.now)
    in let asked : c.args.first + n - c.args.first ≡ n = omega arith
    in let taken : all - c.args.first - (all - c.args.first - n) ≡ n = omega (arith, inside)
    in rw (c.reverse.ensures.after, c.copy_from_slice.ensures.after, c.if-self.true, asked, taken) (sym (part-reversed c.args.self.bytes.now c.args.first n inside))
