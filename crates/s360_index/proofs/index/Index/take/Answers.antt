use Rattle.std.proofs.Common.{◌≡◌, ◌<◌, ◌∙◌, [], ◌∷◌, sym, ap, map, length, get_or, set, arith}
use Rattle.s360_store.specs.Spans.{byte_places, places_of_span}
use Rattle.s360_store.specs.declared.place.Place.TheVariants.{Register}
use Rattle.s360_index.specs.Numbers.{without_number}
use Rattle.s360_index.proofs.HistoryLemmas.{Changes-other, Changes-register, IsOther, IsOther-default, IsOther-register, Loses-bytes, Loses-one, Loses-span, seen}
use Rattle.s360_index.proofs.index.Index.take.Goals.{in_default-via-in-Register+else-from-lt16, in_default-via-in_default}
use Rattle.s360_index.proofs.index.Index.take.Goals as goal

pub returns-in-Bytes : goal.returns-in-Bytes
returns-in-Bytes c =
    let i = c.self.inside
    in Loses-span c.args.number c.args.span (byte_places c.in-Bytes.address c.in-Bytes.count) (seen i.psw.items i.registers i.bytes i.others.entries) c.args.self.now
    (seen i.psw.items i.registers c.take.new.self i.others.entries) (ap places_of_span c.in-Bytes.is) c.self.view_is
    (Loses-bytes c.args.number c.in-Bytes.address c.in-Bytes.count i.psw.items i.registers i.bytes c.take.new.self i.others.entries c.self.invariant c.take.ensures.whole c.take.ensures.lost)

pub returns-in-Byte : goal.returns-in-Byte
returns-in-Byte c =
    let i = c.self.inside
    in Loses-span c.args.number c.args.span (byte_places c.in-Byte.address 1) (seen i.psw.items i.registers i.bytes i.others.entries) c.args.self.now
    (seen i.psw.items i.registers c.take-in-Byte.new.self i.others.entries) (ap places_of_span c.in-Place.is ∙ ap (λ p. p ∷ []) c.in-Byte.is) c.self.view_is
    (Loses-bytes c.args.number c.in-Byte.address 1 i.psw.items i.registers i.bytes c.take-in-Byte.new.self i.others.entries c.self.invariant c.take-in-Byte.ensures.whole c.take-in-Byte.ensures.lost)

pub returns-in-Register : goal.returns-in-Register
returns-in-Register c =
    let i = c.self.inside
    in let n = c.from-in-Register.result
    in let old = get_or i.registers n c.index-self-from.result
    in let after = seen i.psw.items (set i.registers n c.take_number-in-Register.new.numbers) i.bytes i.others.entries
    in let within : n < length i.registers = omega arith
    in Loses-span c.args.number c.args.span (Register n ∷ []) (seen i.psw.items i.registers i.bytes i.others.entries) c.args.self.now
    after (ap places_of_span c.in-Place.is ∙ ap (λ p. p ∷ []) (c.in-Register.is ∙ ap (λ r. Register r) (sym c.from-in-Register.ensures))) c.self.view_is
    (Loses-one c.args.number (Register n) (seen i.psw.items i.registers i.bytes i.others.entries) after
    (Changes-register (without_number c.args.number) i.psw.items i.registers i.bytes i.others.entries n old c.take_number-in-Register.new.numbers within
    (ap (λ v. get_or i.registers n v) c.index-self-from.is) c.take_number-in-Register.ensures))

pub returns-in_default : goal.returns-in_default
returns-in_default c =
    let i = c.self.inside
    in let other : IsOther (map (λ v. v.items) i.registers) c.in-Place.place = elim c.in_default.branch [
      | in_default-via-in-Register+else-from-lt16 w ↦ IsOther-register i.registers c.in-Place.place w.in-Register.register w.from.result w.in-Register.is w.from.ensures (omega arith)
      | in_default-via-in_default w ↦ IsOther-default (map (λ v. v.items) i.registers) c.in-Place.place w.in_default.not-Psw w.in_default.not-Register w.in_default.not-Byte
    ]
    in let same : c.in_default.place ≡ c.in-Place.place = elim c.in_default.branch [ in_default-via-in-Register+else-from-lt16 w ↦ w.place-is ∙ sym w.in-Register.is | in_default-via-in_default w ↦ w.place-is ]
    in Loses-span c.args.number c.args.span (c.in-Place.place ∷ []) (seen i.psw.items i.registers i.bytes i.others.entries) c.args.self.now
    (seen i.psw.items i.registers i.bytes c.take_other.new.others.entries) (ap places_of_span c.in-Place.is) c.self.view_is
    (Loses-one c.args.number c.in-Place.place (seen i.psw.items i.registers i.bytes i.others.entries) (seen i.psw.items i.registers i.bytes c.take_other.new.others.entries)
    (Changes-other (without_number c.args.number) i.psw.items i.registers i.bytes i.others.entries c.take_other.new.others.entries c.in-Place.place other (rw same at c.take_other.ensures)))
