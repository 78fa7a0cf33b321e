-- The words of gdb's registers.
use Rattle.std.proofs.Common.{◌≡◌, ◌≤◌, ◌<◌, ◌+◌, ◌-◌, ◌++◌, ◌∙◌, ℕ, zero, suc, List, [], ◌∷◌, ap, sym, append_assoc, arith, length, map, replicate, set}
use Rattle.std.proofs.lemmas.List.{set_at}
use Rattle.std.proofs.lemmas.List.FromFn.{length-map-range_with_len, map-range_with_len_more}
use Rattle.std.specs.List.{range_with_len}
use Rattle.s360_model.specs.Psw.{IsCurrentPsw}
use Rattle.s360_machine.specs.Machine.{Machine}
use Rattle.s360_machine.specs.declared.event.Patch.TheVariants.{Register}
use Rattle.s360_remote.specs.Registers.{address_word_of, mask_word_of, patch_of_word, psw_of_words}

pub psw-both_words : (p : ℕ) → IsCurrentPsw p → psw_of_words (mask_word_of p) (address_word_of p) ≡ p
psw-both_words p h = omega (arith, h.0, h.1)

-- a register above the words of the PSW
pub patch_of_register : (m : Machine) (n word : ℕ) → 2 ≤ n → Register (n - 2) word ≡ patch_of_word m n word
patch_of_register m zero word h = absurd (omega (arith, h))
patch_of_register m (suc zero) word h = absurd (omega (arith, h))
patch_of_register m (suc (suc n)) word h = let same : suc (suc n) - 2 ≡ n = omega arith in ap (λ k. Register k word) same

-- both words, the first registers, and words that wait for the others
abbrev pub words_so_far : ℕ → ℕ → (ℕ → ℕ) → ℕ → List ℕ
words_so_far mask address f n = mask ∷ address ∷ (map f (range_with_len 0 n) ++ replicate (16 - n) 0)

pub words-one_more : (mask address : ℕ) (f : ℕ → ℕ) (n at : ℕ) → n < 16 → at ≡ 2 + n → set (words_so_far mask address f n) at (f n) ≡ words_so_far mask address f (n + 1)
words-one_more mask address f n at h is =
    let place : at ≡ suc (suc n) = omega (arith, is)
    in let left : 16 - n ≡ suc (16 - (n + 1)) = omega (arith, h)
    in let long : length (map f (range_with_len 0 n)) ≡ n = length-map-range_with_len f 0 n
    in let made : set (map f (range_with_len 0 n) ++ 0 ∷ replicate (16 - (n + 1)) 0) n (f n) ≡ map f (range_with_len 0 n) ++ f n ∷ replicate (16 - (n + 1)) 0
    = set_at (map f (range_with_len 0 n)) 0 (replicate (16 - (n + 1)) 0) (f n) n long
    in let more : (map f (range_with_len 0 n) ++ f n ∷ []) ++ replicate (16 - (n + 1)) 0 ≡ map f (range_with_len 0 (n + 1)) ++ replicate (16 - (n + 1)) 0
    = ap (λ l. l ++ replicate (16 - (n + 1)) 0) (sym (map-range_with_len_more f 0 n n (omega arith)))
    in ap (λ i. set (words_so_far mask address f n) i (f n)) place
    ∙ ap (λ k. mask ∷ address ∷ set (map f (range_with_len 0 n) ++ replicate k 0) n (f n)) left
    ∙ ap (λ l. mask ∷ address ∷ l) (made ∙ sym (append_assoc (map f (range_with_len 0 n)) (f n ∷ []) (replicate (16 - (n + 1)) 0)) ∙ more)
