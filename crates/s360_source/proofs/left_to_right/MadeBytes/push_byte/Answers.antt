use Rattle.std.proofs.Common.{◌+◌, ◌≤◌, ◌∙◌, ap, arith}
use Rattle.s360_machine.specs.Machine.{seen}
use Rattle.s360_source.proofs.MadeLemmas.{byte-end, byte-step}
use Rattle.s360_source.proofs.left_to_right.MadeBytes.push_byte.Goals as goal

pub loop-number-preserved : goal.loop-number-preserved
loop-number-preserved c = (
  omega (arith, c.in-Some.ensures.some.1, c.loop-number.invariant.0),
  byte-step c.args.self.now (seen c.args.machine.now.whole) c.loop-number.stored c.loop-number.at c.in-Some.number c.other_byte-at.result
      c.loop-number.found.items c.push_own.new.found.items _ (c.in-Some.ensures.some.0 ∙ ap (λ first. first + c.in-Some.number) c.number.ensures.value)
      c.in-Some.ensures.some.1 c.other_byte-at.ensures c.in_ok-push_own.ensures c.loop-number.invariant.1,
)

pub returns : goal.returns
returns c =
    byte-end c.args.self.now (seen c.args.machine.now.whole) c.loop-number.stored c.loop-number.at c.loop-number.found.items c.push.new.self.items _
    (λ l.
    let below : c.number.result ≤ c.loop-number.at = omega (arith, l, c.number.ensures.value)
    in omega (arith, c.number.ensures.value, c.number_of.ensures.none c.in_default.is below))
    c.in_ok-push.ensures.items c.loop-number.invariant.1
