use Rattle.std.proofs.Common.{◌≡◌, ◌<◌, ◌∙◌, [], ◌∷◌, sym, ap, refl, map, length, get_or, set, arith}
use Rattle.std.proofs.lemmas.Result.{on_ok_weaker, on_err_weaker}
use Rattle.s360_store.specs.Spans.{byte_places, places_of_span}
use Rattle.s360_store.specs.declared.place.Place.TheVariants.{Register}
use Rattle.s360_index.specs.Numbers.{with_number}
use Rattle.s360_index.proofs.HistoryLemmas.{Changes-other, Changes-register, Gains-bytes, Gains-one, Gains-span, GainsInPart-bytes, GainsInPart-none, GainsInPart-span, IsOther, IsOther-default, IsOther-register, Keeps-other, Keeps-register, seen}
use Rattle.s360_index.proofs.index.Index.put.Goals.{in_default-via-in-Register+else-from-lt16, in_default-via-in_default}
use Rattle.s360_index.proofs.index.Index.put.Goals as goal

pub returns-in-Bytes-clause-ok : goal.returns-in-Bytes-clause-ok
returns-in-Bytes-clause-ok c =
    let i = c.self.inside
    in on_ok_weaker c.put.result
    (λ gained. Gains-span c.args.number c.args.span (byte_places c.in-Bytes.address c.in-Bytes.count) (seen i.psw.items i.registers i.bytes i.others.entries) c.args.self.now
    (seen i.psw.items i.registers c.put.new.self i.others.entries) (ap places_of_span c.in-Bytes.is) c.self.view_is
    (Gains-bytes c.args.number c.in-Bytes.address c.in-Bytes.count i.psw.items i.registers i.bytes c.put.new.self i.others.entries c.self.invariant c.put.ensures.whole gained))
    c.put.ensures.ok

pub returns-in-Bytes-clause-err : goal.returns-in-Bytes-clause-err
returns-in-Bytes-clause-err c =
    let i = c.self.inside
    in on_err_weaker c.put.result
    (λ gained. GainsInPart-span c.args.number c.args.span (byte_places c.in-Bytes.address c.in-Bytes.count) (seen i.psw.items i.registers i.bytes i.others.entries) c.args.self.now
    (seen i.psw.items i.registers c.put.new.self i.others.entries) (ap places_of_span c.in-Bytes.is) c.self.view_is
    (GainsInPart-bytes c.args.number c.in-Bytes.address c.in-Bytes.count i.psw.items i.registers i.bytes c.put.new.self i.others.entries c.self.invariant c.put.ensures.whole gained))
    c.put.ensures.err

pub returns-in-Byte-clause-ok : goal.returns-in-Byte-clause-ok
returns-in-Byte-clause-ok c =
    let i = c.self.inside
    in on_ok_weaker c.put-in-Byte.result
    (λ gained. Gains-span c.args.number c.args.span (byte_places c.in-Byte.address 1) (seen i.psw.items i.registers i.bytes i.others.entries) c.args.self.now
    (seen i.psw.items i.registers c.put-in-Byte.new.self i.others.entries) (ap places_of_span c.in-Place.is ∙ ap (λ p. p ∷ []) c.in-Byte.is) c.self.view_is
    (Gains-bytes c.args.number c.in-Byte.address 1 i.psw.items i.registers i.bytes c.put-in-Byte.new.self i.others.entries c.self.invariant c.put-in-Byte.ensures.whole gained))
    c.put-in-Byte.ensures.ok

pub returns-in-Byte-clause-err : goal.returns-in-Byte-clause-err
returns-in-Byte-clause-err c =
    let i = c.self.inside
    in on_err_weaker c.put-in-Byte.result
    (λ gained. GainsInPart-span c.args.number c.args.span (byte_places c.in-Byte.address 1) (seen i.psw.items i.registers i.bytes i.others.entries) c.args.self.now
    (seen i.psw.items i.registers c.put-in-Byte.new.self i.others.entries) (ap places_of_span c.in-Place.is ∙ ap (λ p. p ∷ []) c.in-Byte.is) c.self.view_is
    (GainsInPart-bytes c.args.number c.in-Byte.address 1 i.psw.items i.registers i.bytes c.put-in-Byte.new.self i.others.entries c.self.invariant c.put-in-Byte.ensures.whole gained))
    c.put-in-Byte.ensures.err

pub returns-in-Register-clause-ok : goal.returns-in-Register-clause-ok
returns-in-Register-clause-ok c =
    let i = c.self.inside
    in let n = c.from-in-Register.result
    in let old = get_or i.registers n c.index-self-from.result
    in let after = seen i.psw.items (set i.registers n c.put_number-in-Register.new.numbers) i.bytes i.others.entries
    in let within : n < length i.registers = omega arith
    in on_ok_weaker c.put_number-in-Register.result
    (λ put. Gains-span c.args.number c.args.span (Register n ∷ []) (seen i.psw.items i.registers i.bytes i.others.entries) c.args.self.now
    after (ap places_of_span c.in-Place.is ∙ ap (λ p. p ∷ []) (c.in-Register.is ∙ ap (λ r. Register r) (sym c.from-in-Register.ensures))) c.self.view_is
    (Gains-one c.args.number (Register n) (seen i.psw.items i.registers i.bytes i.others.entries) after
    (Changes-register (with_number c.args.number) i.psw.items i.registers i.bytes i.others.entries n old c.put_number-in-Register.new.numbers within
    (ap (λ v. get_or i.registers n v) c.index-self-from.is) put)))
    c.put_number-in-Register.ensures.ok

pub returns-in-Register-clause-err : goal.returns-in-Register-clause-err
returns-in-Register-clause-err c =
    let i = c.self.inside
    in let n = c.from-in-Register.result
    in let old = get_or i.registers n c.index-self-from.result
    in let after = seen i.psw.items (set i.registers n c.put_number-in-Register.new.numbers) i.bytes i.others.entries
    in let within : n < length i.registers = omega arith
    in on_err_weaker c.put_number-in-Register.result
    (λ kept. GainsInPart-span c.args.number c.args.span (Register n ∷ []) (seen i.psw.items i.registers i.bytes i.others.entries) c.args.self.now
    after (ap places_of_span c.in-Place.is ∙ ap (λ p. p ∷ []) (c.in-Register.is ∙ ap (λ r. Register r) (sym c.from-in-Register.ensures))) c.self.view_is
    (GainsInPart-none c.args.number (Register n ∷ []) (seen i.psw.items i.registers i.bytes i.others.entries) after
    (Keeps-register i.psw.items i.registers i.bytes i.others.entries n old c.put_number-in-Register.new.numbers within
    (ap (λ v. get_or i.registers n v) c.index-self-from.is) kept)))
    c.put_number-in-Register.ensures.err

pub returns-in_default-clause-ok : goal.returns-in_default-clause-ok
returns-in_default-clause-ok c =
    let i = c.self.inside
    in let other : IsOther (map (λ v. v.items) i.registers) c.in-Place.place = elim c.in_default.branch [
      | in_default-via-in-Register+else-from-lt16 w ↦ IsOther-register i.registers c.in-Place.place w.in-Register.register w.from.result w.in-Register.is w.from.ensures (omega arith)
      | in_default-via-in_default w ↦ IsOther-default (map (λ v. v.items) i.registers) c.in-Place.place w.in_default.not-Psw w.in_default.not-Register w.in_default.not-Byte
    ]
    in let same : c.in_default.place ≡ c.in-Place.place = elim c.in_default.branch [ in_default-via-in-Register+else-from-lt16 w ↦ w.place-is ∙ sym w.in-Register.is | in_default-via-in_default w ↦ w.place-is ]
    in on_ok_weaker c.put_other.result
    (λ put. Gains-span c.args.number c.args.span (c.in-Place.place ∷ []) (seen i.psw.items i.registers i.bytes i.others.entries) c.args.self.now
    (seen i.psw.items i.registers i.bytes c.put_other.new.others.entries) (ap places_of_span c.in-Place.is) c.self.view_is
    (Gains-one c.args.number c.in-Place.place (seen i.psw.items i.registers i.bytes i.others.entries) (seen i.psw.items i.registers i.bytes c.put_other.new.others.entries)
    (Changes-other (with_number c.args.number) i.psw.items i.registers i.bytes i.others.entries c.put_other.new.others.entries c.in-Place.place other (rw same at put))))
    c.put_other.ensures.ok

pub returns-in_default-clause-err : goal.returns-in_default-clause-err
returns-in_default-clause-err c =
    let i = c.self.inside
    in on_err_weaker c.put_other.result
    (λ kept. GainsInPart-span c.args.number c.args.span (places_of_span c.args.span) (seen i.psw.items i.registers i.bytes i.others.entries) c.args.self.now
    (seen i.psw.items i.registers i.bytes c.put_other.new.others.entries) refl c.self.view_is
    (GainsInPart-none c.args.number (places_of_span c.args.span) (seen i.psw.items i.registers i.bytes i.others.entries) (seen i.psw.items i.registers i.bytes c.put_other.new.others.entries)
    (Keeps-other i.psw.items i.registers i.bytes i.others.entries c.put_other.new.others.entries kept)))
    c.put_other.ensures.err
