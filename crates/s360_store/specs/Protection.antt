-- What an access to an operand meets (GA22-6821, "System Structure", protection feature).
use Rattle.std.specs.Prelude.{ℕ, Bool, true, not, ◌&&◌, ◌||◌, nat_eq, if◌then◌else◌}
use Rattle.std.specs.List.{list_all}
use Rattle.s360_model.specs.Storage.{Storage, fetch_bit_of_block, is_inside, key_of_block, keys_of_operand}
use Rattle.s360_store.specs.declared.protection.Access.{Access}
use Rattle.s360_store.specs.declared.protection.Access.TheVariants.{Fetch, Store}
use Rattle.s360_store.specs.declared.protection.Checked.{Checked}
use Rattle.s360_store.specs.declared.protection.Checked.TheVariants.{Clear, Addressing, Protection}

-- stores are protected, and fetches where the option is there (own profile)
abbrev pub is_protected : Storage → Access → Bool
is_protected s Fetch = s.fetch_protection
is_protected s Store = true

-- a key allows the access to a block: the block has that storage key, or what is fetched has the fetch bit zero
abbrev pub block_allows : Access → ℕ → ℕ → Bool
block_allows Store key block_key = nat_eq (key_of_block block_key) key
block_allows Fetch key block_key = not (fetch_bit_of_block block_key) || nat_eq (key_of_block block_key) key

-- the key allows the access to each byte: it is zero, or the byte's block allows it
abbrev pub is_allowed : Storage → ℕ → ℕ → Access → ℕ → Bool
is_allowed s address count kind key = nat_eq key 0 || list_all (block_allows kind key) (keys_of_operand s address count)

-- an operand outside storage comes before a protected one
abbrev pub access : Storage → ℕ → ℕ → Access → ℕ → Checked
access s address count kind key =
    if not (is_inside s address count) then Addressing
    else (if is_protected s kind && not (is_allowed s address count kind key) then Protection else Clear)

-- what two accesses meet: an address outside storage comes before a protected one
abbrev pub met_of_both : Checked → Checked → Checked
met_of_both Addressing d = Addressing
met_of_both Protection Addressing = Addressing
met_of_both Protection d = Protection
met_of_both Clear d = d
