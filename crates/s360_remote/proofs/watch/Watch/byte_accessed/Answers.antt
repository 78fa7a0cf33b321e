use Rattle.std.proofs.Common.{◌≡◌, ◌-◌, ◌+◌, ◌∙◌, ℕ, true, false, ap, arith, sym}
use Rattle.s360_remote.specs.Accesses.{is_accessed}
use Rattle.s360_remote.specs.Points.{Watched}
use Rattle.s360_remote.proofs.PointLemmas.{accessed-next}
use Rattle.s360_remote.proofs.watch.Watch.byte_accessed.Goals as goal

pub returns-then-has : goal.returns-then-has
returns-then-has c =
    let end : ℕ = c.args.self.at + c.args.self.count
    in let more : end - c.loop-at.at ≡ end - (c.loop-at.at + 1) + 1
    = omega (arith, c.loop-at-test.true, ap (λ (w : Watched). w.at) c.self.view_is, ap (λ (w : Watched). w.count) c.self.view_is)
    in sym (c.loop-at.invariant ∙ accessed-next c.args.accesses.now c.args.self.watchpoint c.loop-at.at (end - c.loop-at.at) (end - (c.loop-at.at + 1)) true more
    (ap (λ (w : Watched). is_accessed c.args.accesses.now w.watchpoint c.loop-at.at) (sym c.self.view_is) ∙ sym c.has.ensures ∙ c.if-has.true))

pub loop-at-preserved : goal.loop-at-preserved
loop-at-preserved c =
    let end : ℕ = c.args.self.at + c.args.self.count
    in let more : end - c.loop-at.at ≡ end - (c.loop-at.at + 1) + 1
    = omega (arith, c.loop-at-test.true, ap (λ (w : Watched). w.at) c.self.view_is, ap (λ (w : Watched). w.count) c.self.view_is)
    in c.loop-at.invariant ∙ accessed-next c.args.accesses.now c.args.self.watchpoint c.loop-at.at (end - c.loop-at.at) (end - (c.loop-at.at + 1)) false more
    (ap (λ (w : Watched). is_accessed c.args.accesses.now w.watchpoint c.loop-at.at) (sym c.self.view_is) ∙ sym c.has.ensures ∙ c.if-has.false)
