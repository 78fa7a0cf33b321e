use Rattle.std.proofs.Common.{◌≡◌, not, nat_eq, rules, sym, subst, ◌∙◌, ap}
use Rattle.arrayvec.proofs.ArrayVecLemmas.{filter-from_retain}
use Rattle.s360_journal.specs.Breakpoints.{AreBreakpoints, without_address}
use Rattle.s360_journal.proofs.BreakpointLemmas.{AreBreakpoints-without}
use Rattle.s360_journal.proofs.breaks.Breaks.remove.Goals as goal

pub invariant_of-self : goal.invariant_of-self
invariant_of-self c =
    let left : c.retain.new.self.items ≡ without_address c.self.inside.addresses.items c.args.address
    = filter-from_retain _ (λ a. not (nat_eq a c.args.address)) _ (λ x b f' y called. search rules) _ _ c.retain.ensures.filtered
    in subst AreBreakpoints (sym left) (AreBreakpoints-without c.self.inside.addresses.items c.args.address c.self.invariant)

pub returns : goal.returns
returns c =
    let left : c.retain.new.self.items ≡ without_address c.self.inside.addresses.items c.args.address
    = filter-from_retain _ (λ a. not (nat_eq a c.args.address)) _ (λ x b f' y called. search rules) _ _ c.retain.ensures.filtered
    in left ∙ ap (λ bs. without_address bs c.args.address) c.self.view_is
