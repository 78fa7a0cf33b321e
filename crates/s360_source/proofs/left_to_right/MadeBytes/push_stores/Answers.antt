use Rattle.std.proofs.Common.{◌+◌, ◌≤◌, ◌∙◌, ◌++◌, ap, arith, sym}
use Rattle.s360_machine.specs.Machine.{seen}
use Rattle.s360_footprint.specs.LeftToRightRows.{byte_after}
use Rattle.s360_footprint.specs.Readings.{places_read}
use Rattle.s360_source.specs.Made.{making_of}
use Rattle.s360_source.proofs.MadeLemmas.{asked-apart, asked-made, other-stores}
use Rattle.s360_source.proofs.left_to_right.MadeBytes.push_stores.Goals as goal

pub returns-in_default : goal.returns-in_default
returns-in_default c =
    c.in_ok-store_bytes.ensures
    ∙ other-stores c.args.question (making_of c.args.self.now) c.args.self.now.first c.args.count (seen c.args.machine.now.whole) c.args.found.now.items
    (sym c.byte_asked.ensures ∙ c.in_default.is)

pub returns-in_ok-push_byte-in-Some-number_of : goal.returns-in_ok-push_byte-in-Some-number_of
returns-in_ok-push_byte-in-Some-number_of c =
    c.in_ok-push_byte-in-Some-number_of.ensures
    ∙ ap (λ xs. xs ++ places_read (byte_after (making_of c.args.self.now) c.args.self.now.first c.args.count c.in-Some.at) (seen c.args.machine.now.whole))
    c.clear.ensures.items
    ∙ asked-made c.args.question (making_of c.args.self.now) c.args.self.now.first c.args.count c.in-Some.at c.in-Some-number_of.field-0
    (seen c.args.machine.now.whole)
    c.args.found.now.items (sym c.byte_asked.ensures ∙ c.in-Some.is)
    (c.in-Some-number_of.ensures.some.0 ∙ ap (λ first. first + c.in-Some-number_of.field-0) c.number.ensures.value)
    (omega (arith, c.from.ensures, c.in-Some-number_of.ensures.some.1))

pub returns-in-None : goal.returns-in-None
returns-in-None c =
    asked-apart c.args.question (making_of c.args.self.now) c.args.self.now.first c.args.count c.in-Some.at
    (seen c.args.machine.now.whole) c.args.found.now.items
    (sym c.byte_asked.ensures ∙ c.in-Some.is)
    (λ l.
    let below : c.number.result ≤ c.in-Some.at = omega (arith, l, c.number.ensures.value)
    in omega (arith, c.number.ensures.value, c.number_of.ensures.none c.in-None.is below))
