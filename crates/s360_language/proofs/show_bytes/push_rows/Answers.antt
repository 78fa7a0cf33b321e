use Rattle.std.proofs.Common.{append_assoc, arith}
use Rattle.s360_language.specs.ShownBytes.{numbered_row}
use Rattle.s360_language.proofs.ShownLemmas.{told-next}
use Rattle.s360_language.proofs.show_bytes.push_rows.Goals as goal

pub loop-number-preserved : goal.loop-number-preserved
loop-number-preserved c =
    rw (
      told-next (numbered_row c.args.row c.args.at c.args.size c.args.bytes.now) 0 c.loop-number.number c.loop-number.number (omega arith),
      c.in_ok-push_row.ensures,
      c.from.ensures,
      c.loop-number.invariant,
      c.min-end.ensures,
    ) (simp append_assoc)
