use Rattle.std.proofs.Common.{◌≡◌, false, sym, ◌∙◌, ap}
use Rattle.s360_journal.specs.Breakpoints.{has_address}
use Rattle.s360_journal.proofs.BreakpointLemmas.{AreBreakpoints-try_push}
use Rattle.s360_journal.proofs.breaks.Breaks.add.Goals as goal

pub invariant_of-self : goal.invariant_of-self
invariant_of-self c =
    let none : has_address c.self.inside.addresses.items c.args.address ≡ false
    = ap (λ bs. has_address bs c.args.address) c.self.view_is ∙ sym c.has.ensures ∙ c.if-has.false
    in AreBreakpoints-try_push c.try_push.result c.self.inside.addresses c.try_push.new.self c.args.address c.self.invariant none
    c.try_push.ensures.variant c.try_push.ensures.ok c.try_push.ensures.err
