use Rattle.std.proofs.Common.{append_assoc, arith, slice_index}
use Rattle.s360_language.specs.ShownBytes.{digits_in_word}
use Rattle.s360_language.proofs.ShownLemmas.{told-next}
use Rattle.s360_language.proofs.show_bytes.push_words.Goals as goal

pub loop-index-preserved : goal.loop-index-preserved
loop-index-preserved c =
    rw (
      told-next (λ index. digits_in_word index (slice_index c.args.bytes.now index)) 0 c.loop-index.index c.loop-index.index (omega arith),
      c.in_ok-push_in_word.ensures,
      c.loop-index.invariant,
    ) (simp append_assoc)
