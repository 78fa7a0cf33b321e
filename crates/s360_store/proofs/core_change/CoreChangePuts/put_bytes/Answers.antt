use Rattle.std.proofs.Common.{◌<◌, ◌+◌, ℕ, get_or, length, arith, inl}
use Rattle.s360_store.specs.declared.place.Place.TheVariants.{Byte, Key}
use Rattle.s360_store.specs.CoreChanges.{CoreChange}
use Rattle.s360_store.proofs.CoreChangeLemmas.{AllBefore-byte, AllBefore-later, bytes-made, bytes-may}
use Rattle.s360_store.proofs.core_change.CoreChangePuts.put_bytes.Goals as goal
use Rattle.s360_store.proofs.core_change.CoreChangePuts.put_bytes.Goals.{In_ok-keep_bytes}

-- the change before
abbrev before : In_ok-keep_bytes → CoreChange
before c = record { psw = c.self.inside.psw; cells = c.self.inside.cells }

fits : (c : In_ok-keep_bytes) (i : ℕ) → i < length c.args.bytes.now → get_or c.args.bytes.now i 0 < 256
fits c i l = omega (arith, c.type_inv.bytes i)

pub returns-clause-made : goal.returns-clause-made
returns-clause-made c =
    rw (← c.self.view_is)
    (bytes-made c.args.core.now (before c) c.keep_bytes.new.kept c.args.address c.args.bytes.now (rw (← c.self.view_is) at c.requires.may) (rw (← c.self.view_is) at c.requires.past) c.requires.inside (fits c) c.in_ok-keep_bytes.ensures.kept)

pub returns-clause-may : goal.returns-clause-may
returns-clause-may c =
    bytes-may c.args.core.now (before c) c.keep_bytes.new.kept c.args.address c.args.bytes.now (rw (← c.self.view_is) at c.requires.may) (rw (← c.self.view_is) at c.requires.past) c.requires.inside (fits c) c.in_ok-keep_bytes.ensures.kept
    c.in_ok-keep_bytes.ensures.ascending

pub returns-clause-past : goal.returns-clause-past
returns-clause-past c = λ a l. AllBefore-byte c.keep_bytes.new.kept (c.args.address + length c.args.bytes.now) a c.in_ok-keep_bytes.ensures.before l

pub returns-clause-keys : goal.returns-clause-keys
returns-clause-keys c = λ b. AllBefore-later c.keep_bytes.new.kept (Byte (c.args.address + length c.args.bytes.now)) (Key b) c.in_ok-keep_bytes.ensures.before (inl (omega arith))
