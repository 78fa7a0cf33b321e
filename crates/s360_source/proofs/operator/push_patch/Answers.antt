use Rattle.std.proofs.Common.{◌∙◌, [], List, ℕ, ap, length}
use Rattle.s360_machine.specs.Machine.{seen}
use Rattle.s360_source.specs.Walks.{with_bytes}
use Rattle.s360_source.proofs.EventLemmas.{outside-walked}
use Rattle.s360_source.proofs.operator.push_patch.Goals as goal

pub returns-in_ok-push_outside-in-Bytes : goal.returns-in_ok-push_outside-in-Bytes
returns-in_ok-push_outside-in-Bytes c =
    rw c.in-Bytes.is (c.in_ok-push_outside-in-Bytes.ensures
    ∙ ap (λ (bytes : List ℕ). with_bytes c.args.question c.in-Bytes.at (length bytes) [] c.args.found.now.items) c.as_slice.ensures
    ∙ outside-walked c.args.question (seen c.args.machine.now.whole) c.in-Bytes.at c.in-Bytes.bytes c.args.found.now.items)
