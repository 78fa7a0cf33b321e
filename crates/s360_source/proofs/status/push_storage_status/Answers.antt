use Rattle.std.proofs.Common.{◌∙◌, ap, sym}
use Rattle.s360_machine.specs.Machine.{seen}
use Rattle.s360_footprint.specs.OperandReadings.{profile_of}
use Rattle.s360_footprint.specs.StatusRows.{storage_status_row}
use Rattle.s360_source.specs.Walks.{walked}
use Rattle.s360_source.proofs.status.push_storage_status.Goals as goal

pub returns-in_ok-push_loaded_psw-in-LoadPsw : goal.returns-in_ok-push_loaded_psw-in-LoadPsw
returns-in_ok-push_loaded_psw-in-LoadPsw c next =
    c.in_ok-push_loaded_psw-in-LoadPsw.ensures next
    ∙ ap (λ row. walked c.args.question (storage_status_row (profile_of c.args.machine.now.whole.core) row c.args.address next) (seen c.args.machine.now.whole)
    c.args.found.now.items) (sym c.in-LoadPsw.is)
