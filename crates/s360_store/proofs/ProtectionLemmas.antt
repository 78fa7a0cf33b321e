-- The keys of an operand's bytes are those of the blocks that it lies in.
use Rattle.std.proofs.Common.{◌≡◌, ◌≢◌, ◌<◌, ◌≤◌, ◌+◌, ◌-◌, ◌/◌, ℕ, zero, suc, List, ◌∷◌, Bool, true, false, ◌&&◌, refl, sym, get_or, length, map, arith, inl, inr, slice_index, nat_eq, IsTrue}
use Rattle.std.proofs.lemmas.Bool.{cases_lt, ne_eqb}
use Rattle.std.proofs.lemmas.List.{drop_more}
use Rattle.std.specs.List.{list_all, range_with_len, slice_range}
use Rattle.std.proofs.lemmas.Grind.{common_steps}
use Rattle.s360_model.specs.Storage.{Storage, is_storage_size}
use Rattle.s360_store.specs.Protection.{block_allows, is_allowed}
use Rattle.s360_store.specs.declared.protection.Access.{Access}

-- a range's first element, and those after it
slice_range-first : (keys : List ℕ) (b e : ℕ) → b < e → b < length keys → slice_range keys b e ≡ get_or keys b 0 ∷ slice_range keys (b + 1) e
slice_range-first keys b e l h =
    let count : e - b ≡ suc (e - (b + 1)) = omega arith
    in rw (count, drop_more keys b 0 h) refl

and-twice : (p q : Bool) → (p && (p && q)) ≡ (p && q)
and-twice true q = refl
and-twice false q = refl

pub list_all-blocks : (test : ℕ → Bool) (keys : List ℕ) (n a : ℕ) → (a + n) / 2048 < length keys
    → list_all test (slice_range keys (a / 2048) ((a + n) / 2048 + 1)) ≡ list_all test (map (λ b. slice_index keys (b / 2048)) (range_with_len a (suc n)))
list_all-blocks test keys zero a h =
    let here : a + 0 ≡ a = omega arith
    in let inside : a / 2048 < length keys = rw here at h
    in let none : a / 2048 + 1 - (a / 2048 + 1) ≡ 0 = omega arith
    in let next : a / 2048 < a / 2048 + 1 = omega arith
    in rw (here, slice_range-first keys (a / 2048) (a / 2048 + 1) next inside, none) refl
list_all-blocks test keys (suc n) a h =
    let end : a + suc n ≡ a + 1 + n = omega arith
    in let inside : (a + 1 + n) / 2048 < length keys = rw end at h
    in let first : slice_range keys (a / 2048) ((a + 1 + n) / 2048 + 1) ≡ get_or keys (a / 2048) 0 ∷ slice_range keys (a / 2048 + 1) ((a + 1 + n) / 2048 + 1)
    = slice_range-first keys (a / 2048) ((a + 1 + n) / 2048 + 1) (omega arith) (omega arith)
    in let rest : list_all test (slice_range keys ((a + 1) / 2048) ((a + 1 + n) / 2048 + 1)) ≡ list_all test (map (λ b. slice_index keys (b / 2048)) (range_with_len (a + 1) (suc n)))
    = list_all-blocks test keys n (a + 1) inside
    in rw (end, ← rest)
    (elim (cases_lt (a / 2048) ((a + 1) / 2048)) [
      | inl l ↦ let step : (a + 1) / 2048 ≡ a / 2048 + 1 = omega arith in rw (step, first) refl
      | inr l ↦ let step : (a + 1) / 2048 ≡ a / 2048 = omega arith in rw (step, first) (sym (and-twice (test (get_or keys (a / 2048) 0)) _))
    ])

-- a key other than zero allows an access where each block of the operand does
pub is_allowed-blocks : (s : Storage) (address count : ℕ) (kind : Access) (key : ℕ) → 0 < count → key ≢ 0 → (address + count - 1) / 2048 < length s.keys
    → list_all (block_allows kind key) (slice_range s.keys (address / 2048) ((address + count - 1) / 2048 + 1)) ≡ is_allowed s address count kind key
is_allowed-blocks s address zero kind key some nonzero inside = absurd (omega arith)
is_allowed-blocks s address (suc n) kind key some nonzero inside =
    let end : address + suc n - 1 ≡ address + n = omega arith
    in let other : nat_eq key 0 ≡ false = ne_eqb key 0 nonzero
    in rw (other, end) (list_all-blocks (block_allows kind key) s.keys n address (rw end at inside))

-- the last block of an operand inside a storage is one of its blocks
pub last_block-inside : (size keys address count : ℕ) → IsTrue (is_storage_size size) → keys ≡ size / 2048 → 0 < count → address + count ≤ size
    → (address + count - 1) / 2048 < keys
last_block-inside size keys address count whole blocks some inside = grind (arith, common_steps, whole, blocks)
