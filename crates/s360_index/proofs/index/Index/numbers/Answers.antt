use Rattle.std.proofs.Common.{◌≡◌, ◌∙◌, [], sym, refl, map, arith, Some, None}
use Rattle.s360_index.proofs.HistoryLemmas.{IsOther, IsOther-default, IsOther-register, numbers-looked_up}
use Rattle.s360_index.proofs.index.Index.numbers.Goals.{in-Register+in_default-get, in_default}
use Rattle.s360_index.proofs.index.Index.numbers.Goals as goal

pub returns-in-Some-get : goal.returns-in-Some-get
returns-in-Some-get c =
    let i = c.self.inside
    in let other : IsOther (map (λ v. v.items) i.registers) c.args.place = elim c.match-place.branch [
      | in-Register+in_default-get w ↦ IsOther-register i.registers c.args.place w.in-Register.register w.from.result w.in-Register.is w.from.ensures (omega (arith, w.in_default-get.ensures.lookup))
      | in_default w ↦ IsOther-default (map (λ v. v.items) i.registers) c.args.place w.in_default.not-Psw w.in_default.not-Register w.in_default.not-Byte
    ]
    in let same : c.match-place.place ≡ c.args.place = elim c.match-place.branch [ in-Register+in_default-get w ↦ w.place-is ∙ sym w.in-Register.is | in_default w ↦ w.place-is ]
    in numbers-looked_up c.args.self.now i.psw.items i.registers i.bytes i.others.entries c.args.place c.match-place.place (Some c.in-Some-get.numbers.now) c.deref-in-Some-get.result.now
    c.self.view_is other same c.in-Some-get.ensures.value c.deref-in-Some-get.ensures.value

pub returns-in-None : goal.returns-in-None
returns-in-None c =
    let i = c.self.inside
    in let other : IsOther (map (λ v. v.items) i.registers) c.args.place = elim c.match-place.branch [
      | in-Register+in_default-get w ↦ IsOther-register i.registers c.args.place w.in-Register.register w.from.result w.in-Register.is w.from.ensures (omega (arith, w.in_default-get.ensures.lookup))
      | in_default w ↦ IsOther-default (map (λ v. v.items) i.registers) c.args.place w.in_default.not-Psw w.in_default.not-Register w.in_default.not-Byte
    ]
    in let same : c.match-place.place ≡ c.args.place = elim c.match-place.branch [ in-Register+in_default-get w ↦ w.place-is ∙ sym w.in-Register.is | in_default w ↦ w.place-is ]
    in numbers-looked_up c.args.self.now i.psw.items i.registers i.bytes i.others.entries c.args.place c.match-place.place None []
    c.self.view_is other same c.in-None.ensures.value refl
