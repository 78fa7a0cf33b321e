-- The registers of the machine one after another.
use Rattle.std.proofs.Common.{◌≡◌, ℕ, List, refl, ap, ◌∙◌, length, get_or}
use Rattle.std.proofs.lemmas.List.FromFn.{fill_by_all}
use Rattle.std.specs.List.{flat_map, range_with_len}
use Rattle.s360_packet.specs.Answers.{registers_text}
use Rattle.s360_packet.specs.Target.{register_value}
use Rattle.s360_packet.specs.Laws.{answer_of_register}

pub registers_each : (words : List ℕ) → length words ≡ 18
    → registers_text words ≡ flat_map (λ number. answer_of_register (register_value words number)) (range_with_len 0 51)
registers_each words count =
    ap registers_text (fill_by_all (λ k. get_or words k 0) words 18 0 count (λ k low. refl)) ∙ refl
