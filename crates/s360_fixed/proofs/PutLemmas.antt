-- What registers that are stored and loaded leave, one after another.
use Rattle.std.proofs.Common.{◌≡◌, ◌≤◌, ◌<◌, ◌+◌, ◌*◌, ◌%◌, ◌++◌, ◌∙◌, [], zero, suc, ap, append-nil, drop, inl, inr, length, refl, sym, take, slice_index, ℕ, List, Bool, true, false, cond, Option, None, Some, arith, ◌&&◌}
use Rattle.std.proofs.Math.Seq.{drop-append-add}
use Rattle.std.proofs.lemmas.Bool.{cases_lt}
use Rattle.std.proofs.lemmas.List.{append_assoc, drop-drop, drop_all, length-append, length-take-le, take-append-drop, take_all, take_at}
use Rattle.std.specs.Int.{bytes_high_first}
use Rattle.s360_model.specs.Core.{Core, core_with_bytes, core_with_psw, core_with_word}
use Rattle.s360_model.specs.Psw.{fixed_point_overflow_mask_of}
use Rattle.s360_model.specs.Storage.{with_run, word_at}
use Rattle.s360_store.specs.declared.puts.Puts.{Ghosts}
use Rattle.s360_store.specs.declared.place.Place.TheVariants.{Byte}
use Rattle.s360_fixed.specs.declared.ended.Ended.TheVariants.{Done, Program}
use Rattle.s360_fixed.specs.declared.program_code.ProgramCode.TheVariants.{FixedPointOverflow}
use Rattle.s360_fixed.specs.declared.setting.CodeSetting.{CodeSetting}
use Rattle.s360_fixed.specs.Alterations.{ended_by, with_words}
use Rattle.s360_fixed.specs.Outcomes.{word_for}
use Rattle.s360_fixed.specs.Plans.{MayFollow, words_for}
use Rattle.s360_fixed.specs.Storing.{with_registers_loaded, with_registers_stored}

-- a run, and a run after it
with_run-within : (bytes xs ys : List ℕ) (a : ℕ) → a ≤ length bytes → with_run (with_run bytes a xs) (a + length xs) ys ≡ with_run bytes a (xs ++ ys)
with_run-within bytes xs ys a l =
    let rest : List ℕ = drop (a + length xs) bytes
    in let both : length (take a bytes ++ xs) ≡ a + length xs = omega (arith, length-append (take a bytes) xs, length-take-le a bytes l)
    in let left : take (a + length xs) (take a bytes ++ xs ++ rest) ≡ take a bytes ++ xs = take_at (take a bytes ++ xs) rest (a + length xs) both
    in let right : drop (a + length xs + length ys) (take a bytes ++ xs ++ rest) ≡ drop (a + length (xs ++ ys)) bytes
    = ap (λ n. drop (n + length ys) (take a bytes ++ xs ++ rest)) (sym both) ∙ drop-append-add (take a bytes ++ xs) rest (length ys)
    ∙ drop-drop (length ys) (a + length xs) bytes ∙ ap (λ n. drop n bytes) (omega (arith, length-append xs ys))
    in rw (left, right, append_assoc (take a bytes) xs ys) refl

with_run-outside : (bytes xs ys : List ℕ) (a : ℕ) → length bytes < a → with_run (with_run bytes a xs) (a + length xs) ys ≡ with_run bytes a (xs ++ ys)
with_run-outside bytes xs ys a l =
    let all : take a bytes ≡ bytes = take_all a bytes (omega (arith, l))
    in let none : drop (a + length xs) bytes ≡ [] = drop_all (a + length xs) bytes (omega (arith, l))
    in let past : drop (a + length (xs ++ ys)) bytes ≡ [] = drop_all (a + length (xs ++ ys)) bytes (omega (arith, l))
    in let whole : take (a + length xs) (bytes ++ xs) ≡ bytes ++ xs = take_all (a + length xs) (bytes ++ xs) (omega (arith, l, length-append bytes xs))
    in let end : drop (a + length xs + length ys) (bytes ++ xs) ≡ [] = drop_all (a + length xs + length ys) (bytes ++ xs) (omega (arith, l, length-append bytes xs))
    in rw (all, none, past, append-nil, whole, end, append-nil, append-nil) (append_assoc bytes xs ys)

with_run-append : (bytes xs ys : List ℕ) (a : ℕ) → with_run (with_run bytes a xs) (a + length xs) ys ≡ with_run bytes a (xs ++ ys)
with_run-append bytes xs ys a = elim (cases_lt (length bytes) a) [
  | inl less ↦ with_run-outside bytes xs ys a less
  | inr more ↦ with_run-within bytes xs ys a more
]

with_run-none : (bytes : List ℕ) (a : ℕ) → with_run bytes a [] ≡ bytes
with_run-none bytes a = let here : a + 0 ≡ a = omega arith in rw (append-nil, here) (take-append-drop a bytes)

-- no word, and one word more, of a run of words
abbrev core_with : Core → List ℕ → Core
core_with m bytes = record m { storage = record m.storage { bytes = bytes } }

pub with_registers_stored-none : (m : Core) (registers : List ℕ) (r1 at : ℕ) → core_with_bytes at [] m ≡ with_registers_stored registers r1 at 0 m
with_registers_stored-none m registers r1 at = ap (core_with m) (with_run-none m.storage.bytes at)

pub with_registers_stored-more : (m : Core) (registers xs ys : List ℕ) (r1 at i : ℕ) → ys ≡ bytes_high_first 4 (slice_index registers ((r1 + i) % 16)) → length xs ≡ 4 * i
    → core_with_bytes at xs m ≡ with_registers_stored registers r1 at i m → core_with_bytes at (xs ++ ys) m ≡ with_registers_stored registers r1 at (i + 1) m
with_registers_stored-more m registers xs ys r1 at i e count before =
    let next : i + 1 ≡ suc i = omega arith
    in ap (core_with m) (sym (with_run-append m.storage.bytes xs ys at)) ∙ ap (λ n. core_with_bytes (at + n) ys (core_with_bytes at xs m)) count
    ∙ ap (core_with_bytes (at + 4 * i) ys) before ∙ rw (next, e) refl

-- registers that are stored or loaded leave the PSW
pub with_registers_stored-psw : (registers : List ℕ) (r1 address count p : ℕ) (n : Core) → with_registers_stored registers r1 address count (core_with_psw p n) ≡ core_with_psw p (with_registers_stored registers r1 address count n)
with_registers_stored-psw registers r1 address zero p n = refl
with_registers_stored-psw registers r1 address (suc count) p n =
    ap (λ m. core_with_bytes (address + 4 * count) (bytes_high_first 4 (slice_index registers ((r1 + count) % 16))) m) (with_registers_stored-psw registers r1 address count p n)

pub with_registers_loaded-psw : (bytes : List ℕ) (r1 address count p : ℕ) (n : Core) → with_registers_loaded bytes r1 address count (core_with_psw p n) ≡ core_with_psw p (with_registers_loaded bytes r1 address count n)
with_registers_loaded-psw bytes r1 address zero p n = refl
with_registers_loaded-psw bytes r1 address (suc count) p n =
    ap (λ m. core_with_word ((r1 + count) % 16) (word_at bytes (address + 4 * count)) m) (with_registers_loaded-psw bytes r1 address count p n)

-- what may follow an instruction that has put the PSW and registers
follows-if : {S : Type 0} (p : Ghosts S) (puts : S) (m : Core) (b : Bool) → (p.made puts m).storage ≡ m.storage → ((a : ℕ) → p.past puts (Byte a))
    → MayFollow p puts m (cond b (Program FixedPointOverflow) Done)
follows-if p puts m true s b = (s, b)
follows-if p puts m false s b = tt

pub follows_effect : {S : Type 0} (p : Ghosts S) (puts : S) (m : Core) (setting : CodeSetting) (psw : ℕ) → (p.made puts m).storage ≡ m.storage → ((a : ℕ) → p.past puts (Byte a))
    → MayFollow p puts m (ended_by setting psw)
follows_effect p puts m setting psw s b = follows-if p puts m (setting.overflow && fixed_point_overflow_mask_of psw) s b

-- the words of an effect
pub with_words-for : (r1 : ℕ) (first second : Option ℕ) (registers : List ℕ) → with_words (word_for (r1 + 1) second) (with_words (word_for r1 first) registers) ≡ with_words (words_for r1 first second) registers
with_words-for r1 None None registers = refl
with_words-for r1 None (Some w) registers = refl
with_words-for r1 (Some v) None registers = refl
with_words-for r1 (Some v) (Some w) registers = refl
