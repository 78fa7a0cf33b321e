-- Writes: patches are made one after another.
use Rattle.std.proofs.Common.{◌≡◌, ◌<◌, ◌≤◌, ◌+◌, ◌-◌, ◌++◌, ◌∙◌, inl, inr, ℕ, zero, suc, true, List, [], ◌∷◌, Option, Some, None, Result, Ok, Err, refl, ap, sym, subst, arith, rules, drop, length, min, take}
use Rattle.std.specs.Prelude.{⊤, nat_lt, if◌then◌else◌}
use Rattle.std.specs.List.{flat_map, range_with_len}
use Rattle.std.proofs.lemmas.Bool.{cases_lt}
use Rattle.std.proofs.lemmas.List.{drop_all, length-drop, length-take-le, take_all}
use Rattle.s360_machine.specs.Machine.{seen, storage_size}
use Rattle.s360_machine.specs.Refusals.{refusal_of_patch}
use Rattle.s360_machine.specs.declared.event.Event.TheVariants.{Patch as patch}
use Rattle.s360_machine.specs.declared.event.Patch.{Patch}
use Rattle.s360_machine.specs.declared.event.Patch.TheVariants.{Bytes}
use Rattle.s360_machine.specs.declared.refusal.Refusal.{Refusal}
use Rattle.s360_machine.specs.declared.refusal.Refusal.TheVariants.{JournalFull}
use Rattle.s360_journal.specs.Standing.{machine_of, or_full, refusal_in}
use Rattle.s360_journal.specs.Recorded.{Recorded, session_of, standing_events}
use Rattle.s360_journal.proofs.RecordedLemmas.{after-keeps}
use Rattle.s360_remote.specs.Driven.{Driven}
use Rattle.s360_remote.specs.Writing.{AreBegun, AreMade, IsMadeOrBegun, after_patch, patch_count, patches_from, patches_from_register, patches_of_bytes, register_patches}
use Rattle.s360_remote.specs.declared.error_number.ErrorNumber.{ErrorNumber}
use Rattle.s360_remote.specs.declared.error_number.ErrorNumber.TheVariants.{Memory}

-- ---- one patch, and those that follow

pub AreMade-both : (ps qs : List Patch) (d m t : Driven) → AreMade d ps m → AreMade m qs t → AreMade d (ps ++ qs) t
AreMade-both [] qs d m t h made = subst (λ n. AreMade n qs t) h made
AreMade-both (p ∷ ps) qs d m t h made = AreMade-both ps qs (after_patch d p) m t h made

AreBegun-both : (ps qs : List Patch) (d m t : Driven) → AreMade d ps m → AreBegun m qs t → AreBegun d (ps ++ qs) t
AreBegun-both [] qs d m t h begun = subst (λ n. AreBegun n qs t) h begun
AreBegun-both (p ∷ ps) qs d m t h begun =
    let others : AreBegun (after_patch d p) (ps ++ qs) t = AreBegun-both ps qs (after_patch d p) m t h begun
    in (suc others.0, others.1)

begun-first : (n : ℕ) (ps qs : List Patch) (d t : Driven) → AreMade d (take n ps) t → AreBegun d (ps ++ qs) t
begun-first zero ps qs d t made = (0, made)
begun-first (suc n) [] qs d t made = (0, made)
begun-first (suc n) (p ∷ ps) qs d t made =
    let others : AreBegun (after_patch d p) (ps ++ qs) t = begun-first n ps qs (after_patch d p) t made
    in (suc others.0, others.1)

-- the first ones are made, and then the others
pub made-both : (ps qs : List Patch) (d m t : Driven) (r : Result ⊤ ErrorNumber) → IsMadeOrBegun d ps m (Ok tt) → IsMadeOrBegun m qs t r → IsMadeOrBegun d (ps ++ qs) t r
made-both ps qs d m t (Ok done) first others = AreMade-both ps qs d m t first others
made-both ps qs d m t (Err fault) first others = (others.0, AreBegun-both ps qs d m t first others.1)

-- memory was wanting on the way through the first ones
pub made-first : (ps qs : List Patch) (d t : Driven) (fault : ErrorNumber) → IsMadeOrBegun d ps t (Err fault) → IsMadeOrBegun d (ps ++ qs) t (Err fault)
made-first ps qs d t fault h = (h.0, begun-first h.1.0 ps qs d t h.1.1)

pub made-from : (ps qs : List Patch) (d t : Driven) (fault : ErrorNumber) (r : Result ⊤ ErrorNumber) → r ≡ Err Memory → IsMadeOrBegun d ps t (Err fault) → IsMadeOrBegun d (ps ++ qs) t r
made-from ps qs d t fault r is h = subst (λ x. IsMadeOrBegun d (ps ++ qs) t x) (sym is) (refl, (made-first ps qs d t fault h).1)

-- ---- what a patch leaves as it is

pub standing-after : (d : Driven) (p : Patch) → (after_patch d p).recorded.standing ≡ d.recorded.standing + 1
standing-after d p = (after-keeps d.recorded (patch p)).standing

pub limit-after : (d : Driven) (p : Patch) → (after_patch d p).recorded.limit ≡ d.recorded.limit
limit-after d p = (after-keeps d.recorded (patch p)).limit

pub start-after : (d : Driven) (p : Patch) → (after_patch d p).recorded.start ≡ d.recorded.start
start-after d p = (after-keeps d.recorded (patch p)).start

-- ---- bytes in parts

pub part-of : (bytes : List ℕ) → take (min (length bytes) 256) bytes ≡ take 256 bytes
part-of bytes = elim (cases_lt 256 (length bytes)) as (λ _. take (min (length bytes) 256) bytes ≡ take 256 bytes) [
  | inl h ↦ let least : min (length bytes) 256 ≡ 256 = omega (arith, h) in ap (λ k. take k bytes) least
  | inr h ↦ let least : min (length bytes) 256 ≡ length bytes = omega (arith, h)
      in ap (λ k. take k bytes) least ∙ take_all (length bytes) bytes (omega arith) ∙ sym (take_all 256 bytes h)
]

pub rest-of : (bytes : List ℕ) → drop (min (length bytes) 256) bytes ≡ drop 256 bytes
rest-of bytes = elim (cases_lt 256 (length bytes)) as (λ _. drop (min (length bytes) 256) bytes ≡ drop 256 bytes) [
  | inl h ↦ let least : min (length bytes) 256 ≡ 256 = omega (arith, h) in ap (λ k. drop k bytes) least
  | inr h ↦ let least : min (length bytes) 256 ≡ length bytes = omega (arith, h)
      in ap (λ k. drop k bytes) least ∙ drop_all (length bytes) bytes (omega arith) ∙ sym (drop_all 256 bytes h)
]

pub patches-none : (at : ℕ) (bytes : List ℕ) → length bytes ≡ 0 → patches_of_bytes at bytes ≡ []
patches-none at bytes h = let none : patch_count (length bytes) ≡ 0 = omega (arith, h) in ap (λ n. patches_from n at bytes) none

pub count-more : (bytes : List ℕ) → 0 < length bytes → patch_count (length bytes) ≡ suc (patch_count (length (drop 256 bytes)))
count-more bytes h =
    let left : length (drop 256 bytes) ≡ length bytes - 256 = length-drop 256 bytes
    in let more : patch_count (length bytes) ≡ suc (patch_count (length bytes - 256)) = omega (arith, h)
    in more ∙ ap (λ n. suc (patch_count n)) (sym left)

pub patches-more : (at : ℕ) (bytes part rest : List ℕ) → 0 < length bytes → part ≡ take 256 bytes → rest ≡ drop 256 bytes
    → patches_of_bytes at bytes ≡ Bytes at part ∷ patches_of_bytes (at + length part) rest
patches-more at bytes part rest h first others =
    ap (λ n. patches_from n at bytes) (count-more bytes h)
    ∙ ap (λ xs. Bytes at xs ∷ patches_from (patch_count (length (drop 256 bytes))) (at + length xs) (drop 256 bytes)) (sym first)
    ∙ ap (λ ys. Bytes at part ∷ patches_of_bytes (at + length part) ys) (sym others)

-- ---- words of registers

pub general-more : (before words : List ℕ) (r : ℕ) → r < 16 → patches_from_register before words r ≡ register_patches before words r ++ patches_from_register before words (r + 1)
general-more before words r h =
    let more : 16 - r ≡ suc (16 - (r + 1)) = omega (arith, h)
    in ap (λ n. flat_map (λ k. register_patches before words k) (range_with_len r n)) more

pub general-none : (before words : List ℕ) (r : ℕ) → r ≡ 16 → patches_from_register before words r ≡ []
general-none before words r h = ap (λ k. patches_from_register before words k) h

-- ---- a patch that is not refused

nat_lt-yes : (m n : ℕ) → m < n → nat_lt m n ≡ true
nat_lt-yes m n h = search rules

room-for-one : (n limit : ℕ) (full : Option Refusal) → n < limit → (if nat_lt n limit then None else full) ≡ None
room-for-one n limit full h = rw (nat_lt-yes n limit h) refl

pub patch-allowed : (r : Recorded) (p : Patch) → storage_size (machine_of (session_of r)) ≡ storage_size (seen r.start) → refusal_of_patch (storage_size (seen r.start)) p ≡ None
    → r.standing ≤ length r.events → r.standing < r.limit → refusal_in (session_of r) (patch p) ≡ None
patch-allowed r p size allowed within room =
    let count : length (standing_events r) ≡ r.standing = length-take-le r.standing r.events within
    in ap (λ n. or_full (refusal_of_patch n p) (length (standing_events r)) r.limit) size
    ∙ ap (λ o. or_full o (length (standing_events r)) r.limit) allowed
    ∙ room-for-one (length (standing_events r)) r.limit (Some JournalFull) (omega (arith, count, room))
