-- Registers that are stored or loaded, and rows that are completed with stores.
use Rattle.std.proofs.Common.{ℕ, suc, ◌+◌, ◌*◌, ◌%◌, ◌≡◌, ◌∙◌, ◌++◌, Option, List, [], ◌∷◌, refl, ap, sym, arith}
use Rattle.s360_store.specs.declared.place.Place.{Place}
use Rattle.s360_store.specs.declared.place.Place.TheVariants.{Psw, Register}
use Rattle.s360_store.specs.declared.protection.Access.{Access}
use Rattle.s360_fixed.specs.declared.ended.Ended.{Ended}
use Rattle.s360_machine.specs.Machine.{Machine}
use Rattle.s360_footprint.specs.Altering.{psw_store}
use Rattle.s360_footprint.specs.LeftToRightRows.{stored_row}
use Rattle.s360_footprint.specs.OperandReadings.{number_read}
use Rattle.s360_footprint.specs.Readings.{Reading, done, places_read}
use Rattle.s360_footprint.specs.Rows.{Store}
use Rattle.s360_footprint.specs.StoringRows.{byte_stores, loaded_registers, low_bytes_read, stored_registers}
use Rattle.s360_source.specs.declared.question.Question.{Question}
use Rattle.s360_source.specs.Several.{moved_registers, moved_walk}
use Rattle.s360_source.specs.Walks.{walked, with_store, with_stores_of}
use Rattle.s360_source.proofs.ReadingPlaces.{number-places}
use Rattle.s360_source.proofs.WalkLemmas.{psw-places, stores-both, walked-done}

-- an instruction that is completed with stores, and sets a condition code that is made of these
pub stored-walked : (q : Question) (stores : List Store) (code : Reading (Option ℕ)) (next : ℕ) (m : Machine) (found ps : List Place)
    → places_read code m ++ [] ≡ ps
    → with_store q Psw (Psw ∷ ps) (with_stores_of q m stores found) ≡ walked q (stored_row stores code next) m found
stored-walked q stores code next m found ps e =
    sym (walked-done q (record { ended = Ended.Done; stores = stores ++ psw_store code (done next) }) m found
    ∙ stores-both q m stores (psw_store code (done next)) found
    ∙ psw-places code (done next) m (with_stores_of q m stores found) q
    ∙ ap (λ xs. with_store q Psw (Psw ∷ xs) (with_stores_of q m stores found)) e)

-- one register more
moved-next : (q : Question) (m : Machine) (kind : Access) (r1 address n : ℕ) (found : List Place)
    → with_stores_of q m (moved_registers kind r1 address (suc n)) found
    ≡ moved_walk q kind ((r1 + n) % 16) (address + 4 * n) (with_stores_of q m (moved_registers kind r1 address n) found)
moved-next q m Access.Store r1 address n found =
    stores-both q m (stored_registers r1 address n) (byte_stores (address + 4 * n) (low_bytes_read 4 ((r1 + n) % 16)) 0 4) found
moved-next q m Access.Fetch r1 address n found =
    stores-both q m (loaded_registers r1 address n) (record { place = Register ((r1 + n) % 16); value = number_read (address + 4 * n) 4 } ∷ []) found
    ∙ ap (λ ps. with_store q (Register ((r1 + n) % 16)) ps (with_stores_of q m (loaded_registers r1 address n) found)) (number-places (address + 4 * n) 4 m)

pub moved-none : (q : Question) (m : Machine) (kind : Access) (r1 address : ℕ) (found : List Place)
    → found ≡ with_stores_of q m (moved_registers kind r1 address 0) found
moved-none q m Access.Store r1 address found = refl
moved-none q m Access.Fetch r1 address found = refl

pub moved-more : (q : Question) (m : Machine) (kind : Access) (r1 address n : ℕ) (found now after : List Place)
    → now ≡ with_stores_of q m (moved_registers kind r1 address n) found → after ≡ moved_walk q kind ((r1 + n) % 16) (address + 4 * n) now
    → after ≡ with_stores_of q m (moved_registers kind r1 address (n + 1)) found
moved-more q m kind r1 address n found now after e h =
    let one : suc n ≡ n + 1 = omega arith
    in h ∙ ap (moved_walk q kind ((r1 + n) % 16) (address + 4 * n)) e ∙ sym (moved-next q m kind r1 address n found)
    ∙ ap (λ k. with_stores_of q m (moved_registers kind r1 address k) found) one
