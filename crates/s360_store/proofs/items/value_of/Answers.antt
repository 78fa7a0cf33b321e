use Rattle.std.proofs.Common.{false, ◌≡◌, ◌<◌, ◌+◌, ◌-◌, sym, take, get_or, length, inl, inr, arith, get_or-take, length-take-le}
use Rattle.s360_store.proofs.ItemLemmas.{IsFresh-run, is_in_run-outside, length-take-most, no-byte-in-run, planned_value-fresh, planned_value-run}
use Rattle.s360_store.specs.declared.place.Place.TheVariants.{Byte}
use Rattle.s360_store.specs.Cells.{byte_cells}
use Rattle.s360_store.specs.Items.{is_in_run}
use Rattle.s360_store.proofs.items.value_of.Goals as goal

pub returns-in-Run-Byte : goal.returns-in-Run-Byte
returns-in-Run-Byte c =
    let a = c.in-Run-Byte.address
    in let n = c.in-Run-Byte.count
    in let at = c.in-Run-Byte.at
    in let sum : at ≡ a + (at - a) = omega (arith, c.if-at-address.true)
    in let all = rw c.in-Run-Byte.is-0 at c.requires.all
    in let count : length (take n c.args.bytes.now) ≡ n = length-take-le n c.args.bytes.now all
    in let within : at - a < length (take n c.args.bytes.now) = omega (arith, count, c.if-at-address-2.true)
    in let same : get_or (take n c.args.bytes.now) (at - a) 0 ≡ get_or c.args.bytes.now (at - a) 0 = get_or-take n c.args.bytes.now (at - a) 0 c.if-at-address-2.true
    in let found = planned_value-run a (at - a) (take n c.args.bytes.now) within
    in rw (c.in-Run-Byte.is-0, c.in-Run-Byte.is-1, c.from.ensures) (sym (rw (← sum, same) at found))

pub returns-in_default-2 : goal.returns-in_default-2
returns-in_default-2 c =
    let a = c.in-Run-Byte.address
    in let n = c.in-Run-Byte.count
    in let out : is_in_run a n (Byte c.in-Run-Byte.at) ≡ false = is_in_run-outside a n c.in-Run-Byte.at (inr (omega (arith, c.if-at-address.true, c.if-at-address-2.false)))
    in rw (c.in-Run-Byte.is-0, c.in-Run-Byte.is-1) (sym (planned_value-fresh (byte_cells a (take n c.args.bytes.now)) _ (IsFresh-run a n _ (take n c.args.bytes.now) (length-take-most n c.args.bytes.now) out)))

pub returns-in_default-3 : goal.returns-in_default-3
returns-in_default-3 c =
    let a = c.in-Run-Byte.address
    in let n = c.in-Run-Byte.count
    in let out : is_in_run a n (Byte c.in-Run-Byte.at) ≡ false = is_in_run-outside a n c.in-Run-Byte.at (inl c.if-at-address.false)
    in rw (c.in-Run-Byte.is-0, c.in-Run-Byte.is-1) (sym (planned_value-fresh (byte_cells a (take n c.args.bytes.now)) _ (IsFresh-run a n _ (take n c.args.bytes.now) (length-take-most n c.args.bytes.now) out)))

pub returns-in_default-4 : goal.returns-in_default-4
returns-in_default-4 c =
    let a = c.in_default.field-0-0
    in let n = c.in_default.field-1-0
    in rw c.in_default.is-0 (sym (planned_value-fresh (byte_cells a (take n c.args.bytes.now)) c.args.place (IsFresh-run a n c.args.place (take n c.args.bytes.now) (length-take-most n c.args.bytes.now) (no-byte-in-run a n c.args.place c.in_default.not-Byte-1))))
