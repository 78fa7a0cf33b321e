use Rattle.std.proofs.Common.{◌++◌, ◌∷◌, [], ◌∙◌, ap}
use Rattle.std.proofs.lemmas.Result.{on_ok_weaker, on_err_weaker}
use Rattle.s360_index.specs.Numbers.{with_number}
use Rattle.s360_index.proofs.HistoryLemmas.{changed-inserted, changed-written, kept-written}
use Rattle.s360_index.proofs.index.put_other.Goals as goal

pub returns-in-Some-clause-ok : goal.returns-in-Some-clause-ok
returns-in-Some-clause-ok c =
    on_ok_weaker c.put_number.result
    (changed-written (with_number c.args.number) c.args.others.now.entries (c.get_mut.follows.lender c.put_number.new.numbers).entries c.args.place c.in-Some.numbers.now c.put_number.new.numbers
    (c.get_mut.follows.holds c.put_number.new.numbers).0 c.in-Some.ensures.value) c.put_number.ensures.ok

pub returns-in-Some-clause-err : goal.returns-in-Some-clause-err
returns-in-Some-clause-err c =
    on_err_weaker c.put_number.result
    (kept-written c.args.others.now.entries (c.get_mut.follows.lender c.put_number.new.numbers).entries c.args.place c.in-Some.numbers.now c.put_number.new.numbers
    (c.get_mut.follows.holds c.put_number.new.numbers).0 c.in-Some.ensures.value) c.put_number.ensures.err

pub returns-clause-ok : goal.returns-clause-ok
returns-clause-ok c =
    changed-inserted (with_number c.args.number) c.args.others.now.entries c.insert.new.self.entries c.args.place c.push.new.self
    (rw c.get_mut.follows.holds-at-none at c.in_ok-insert.ensures.entries) c.in_default.ensures.value
    (c.in_ok-push.ensures.items ∙ ap (λ ns. ns ++ c.args.number ∷ []) c.new-numbers.ensures.items)
