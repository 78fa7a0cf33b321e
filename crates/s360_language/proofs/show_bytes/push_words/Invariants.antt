use Rattle.std.proofs.Common.{◌≡◌, ◌++◌, slice_index}
use Rattle.std.specs.List.{flat_map, range_with_len}
use Rattle.s360_language.specs.ShownBytes.{digits_in_word}
use Rattle.s360_language.proofs.show_bytes.push_words.Given as goal

abbrev pub invariant-loop-index : goal.invariant-loop-index
invariant-loop-index l =
    l.text ≡ l.initial.text ++ flat_map (λ index. digits_in_word index (slice_index l.bytes index)) (range_with_len 0 l.index)
