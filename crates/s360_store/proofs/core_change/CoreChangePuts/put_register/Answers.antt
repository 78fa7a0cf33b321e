use Rattle.std.proofs.Common.{inl, arith}
use Rattle.s360_store.specs.declared.place.Cell.{Cell}
use Rattle.s360_store.specs.declared.place.Place.TheVariants.{Register}
use Rattle.s360_store.specs.CoreChanges.{AllBefore, CoreChange}
use Rattle.s360_store.proofs.CoreChangeLemmas.{AllBefore-later, AllBefore-push, other-made, other-may, same-made}
use Rattle.s360_store.proofs.core_change.CoreChangePuts.put_register.Goals as goal
use Rattle.s360_store.proofs.core_change.CoreChangePuts.put_register.Goals.{In_ok-push_register}

-- the change before, and the cell
abbrev before : In_ok-push_register → CoreChange
before c = record { psw = c.self.inside.psw; cells = c.self.inside.cells }

abbrev cell : In_ok-push_register → Cell
cell c = record { place = Register c.args.register; value = c.args.word }

left : (c : In_ok-push_register) → AllBefore (before c).cells (Register c.args.register)
left c = rw (← c.self.view_is) at c.requires.past

pub returns-in_ok-push_register-clause-made : goal.returns-in_ok-push_register-clause-made
returns-in_ok-push_register-clause-made c = rw (← c.self.view_is, c.in_ok-push_register.ensures.ok) (other-made c.args.core.now (before c) (cell c) (inl (omega arith)))

pub returns-in_ok-push_register-clause-may : goal.returns-in_ok-push_register-clause-may
returns-in_ok-push_register-clause-may c =
    rw (c.in_ok-push_register.ensures.ok)
    (other-may c.args.core.now (before c) (cell c) (rw (← c.self.view_is) at c.requires.may) (inl (omega arith)) (left c) c.register.ensures.inside (omega (arith, c.ranges.word.fits)) (λ e. omega (arith, e, c.register.ensures.word, c.if-register-word.true)))

pub returns-in_ok-push_register-clause-past : goal.returns-in_ok-push_register-clause-past
returns-in_ok-push_register-clause-past c = λ q b. rw (c.in_ok-push_register.ensures.ok) (AllBefore-push (before c).cells (cell c) q (left c) b)

pub returns-else-register-word-clause-made : goal.returns-else-register-word-clause-made
returns-else-register-word-clause-made c = same-made c.args.core.now c.args.self.now (Register c.args.register) c.args.word (inl (omega arith)) c.requires.past (omega (arith, c.register.ensures.word, c.if-register-word.false))

pub returns-else-register-word-clause-past : goal.returns-else-register-word-clause-past
returns-else-register-word-clause-past c = λ q b. AllBefore-later c.args.self.now.cells (Register c.args.register) q c.requires.past b
