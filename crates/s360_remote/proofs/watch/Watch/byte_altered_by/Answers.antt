use Rattle.std.proofs.Common.{◌≡◌, ◌-◌, ◌+◌, ◌∙◌, ℕ, true, false, nat_eq, ap, arith, sym, eq-eqb, ne_eqb}
use Rattle.s360_journal.specs.Recorded.{session_of}
use Rattle.s360_remote.specs.Points.{Watched, last_change_at}
use Rattle.s360_remote.proofs.PointLemmas.{altered-next}
use Rattle.s360_remote.proofs.watch.Watch.byte_altered_by.Goals as goal

pub returns-then-last_change_at-number : goal.returns-then-last_change_at-number
returns-then-last_change_at-number c =
    let s = session_of c.args.session.now
    in let end : ℕ = c.args.self.at + c.args.self.count
    in let more : end - c.loop-at.at ≡ end - (c.loop-at.at + 1) + 1
    = omega (arith, c.loop-at-test.true, ap (λ (w : Watched). w.at) c.self.view_is, ap (λ (w : Watched). w.count) c.self.view_is)
    in let same : nat_eq (last_change_at s c.loop-at.at) c.args.number ≡ true = eq-eqb (last_change_at s c.loop-at.at) c.args.number (sym c.last_change_at.ensures ∙ c.if-last_change_at-number.true)
    in sym (c.loop-at.invariant ∙ altered-next s c.args.number c.loop-at.at (end - c.loop-at.at) (end - (c.loop-at.at + 1)) true more same)

pub loop-at-preserved : goal.loop-at-preserved
loop-at-preserved c =
    let s = session_of c.args.session.now
    in let end : ℕ = c.args.self.at + c.args.self.count
    in let more : end - c.loop-at.at ≡ end - (c.loop-at.at + 1) + 1
    = omega (arith, c.loop-at-test.true, ap (λ (w : Watched). w.at) c.self.view_is, ap (λ (w : Watched). w.count) c.self.view_is)
    in let other : nat_eq (last_change_at s c.loop-at.at) c.args.number ≡ false
    = ne_eqb (last_change_at s c.loop-at.at) c.args.number (λ same. c.if-last_change_at-number.false (c.last_change_at.ensures ∙ same))
    in c.loop-at.invariant ∙ altered-next s c.args.number c.loop-at.at (end - c.loop-at.at) (end - (c.loop-at.at + 1)) false more other
