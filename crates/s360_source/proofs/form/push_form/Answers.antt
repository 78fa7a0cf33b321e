use Rattle.std.proofs.Common.{◌∙◌, ap, sym}
use Rattle.s360_machine.specs.Machine.{seen}
use Rattle.s360_footprint.specs.FormRows.{form_rows}
use Rattle.s360_footprint.specs.OperandReadings.{profile_of}
use Rattle.s360_source.specs.Walks.{walked}
use Rattle.s360_source.proofs.form.push_form.Goals as goal

pub returns-in_ok-push_rs-in-Rs : goal.returns-in_ok-push_rs-in-Rs
returns-in_ok-push_rs-in-Rs c next length =
    c.in_ok-push_rs-in-Rs.ensures next length
    ∙ ap (λ form. walked c.args.question (form_rows (profile_of c.args.machine.now.whole.core) form next length) (seen c.args.machine.now.whole)
    c.args.found.now.items) (sym c.in-Rs.is)

pub returns-in_ok-push_si-in-Si : goal.returns-in_ok-push_si-in-Si
returns-in_ok-push_si-in-Si c next length =
    c.in_ok-push_si-in-Si.ensures _ next length
    ∙ ap (λ form. walked c.args.question (form_rows (profile_of c.args.machine.now.whole.core) form next length) (seen c.args.machine.now.whole)
    c.args.found.now.items) (sym c.in-Si.is)

pub returns-in_ok-push_ss-in-Ss : goal.returns-in_ok-push_ss-in-Ss
returns-in_ok-push_ss-in-Ss c next length =
    c.in_ok-push_ss-in-Ss.ensures next length
    ∙ ap (λ form. walked c.args.question (form_rows (profile_of c.args.machine.now.whole.core) form next length) (seen c.args.machine.now.whole)
    c.args.found.now.items) (sym c.in-Ss.is)
