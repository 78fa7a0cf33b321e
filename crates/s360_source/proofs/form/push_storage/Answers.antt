use Rattle.std.proofs.Common.{◌+◌, ◌∙◌, ap, sym}
use Rattle.s360_machine.specs.Machine.{seen}
use Rattle.s360_footprint.specs.FormRows.{storage_row}
use Rattle.s360_footprint.specs.LeftToRightRows.{combine_row}
use Rattle.s360_footprint.specs.OperandReadings.{profile_of}
use Rattle.s360_source.specs.Walks.{walked}
use Rattle.s360_source.proofs.form.push_storage.Goals as goal

pub returns-in_ok-push_combine-in-Combine : goal.returns-in_ok-push_combine-in-Combine
returns-in_ok-push_combine-in-Combine c next =
    let m = seen c.args.machine.now.whole
    in let p = profile_of c.args.machine.now.whole.core
    in c.in_ok-push_combine-in-Combine.ensures next
    ∙ ap (λ l. walked c.args.question (combine_row p c.in-Combine.combination c.args.first c.args.second
    (l + 1) next) m c.args.found.now.items) c.from-count.ensures
    ∙ ap (λ row. walked c.args.question (storage_row p row c.args.l c.args.first c.args.second next) m c.args.found.now.items) (sym c.in-Combine.is)
