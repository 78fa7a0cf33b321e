use Rattle.std.proofs.Common.{refl}
use Rattle.s360_index.specs.Numbers.{without_number}
use Rattle.s360_index.proofs.HistoryLemmas.{changed-none, changed-written}
use Rattle.s360_index.proofs.index.take_other.Goals as goal

pub returns-in-Some : goal.returns-in-Some
returns-in-Some c =
    changed-written (without_number c.args.number) c.args.others.now.entries (c.get_mut.follows.lender c.take_number.new.numbers).entries c.args.place c.in-Some.numbers.now c.take_number.new.numbers
    (c.get_mut.follows.holds c.take_number.new.numbers).0 c.in-Some.ensures.value c.take_number.ensures

pub returns-in_default : goal.returns-in_default
returns-in_default c =
    changed-none (without_number c.args.number) c.args.others.now.entries c.get_mut.follows.lender-at-none.entries c.args.place
    (rw c.get_mut.follows.holds-at-none refl) c.in_default.ensures.value refl
