-- A search of a table is walked over byte by byte, up to the first function byte that is not zero.
use Rattle.std.proofs.Common.{ℕ, suc, ◌+◌, ◌≡◌, ◌≢◌, ◌∙◌, ◌++◌, Bool, true, false, cond, nat_eq, Option, Some, None, List, [], ◌∷◌, refl, ap, sym, get_or}
use Rattle.std.specs.Prelude.{is_some}
use Rattle.std.proofs.lemmas.Bool.{eq-eqb, eqb-true}
use Rattle.std.proofs.lemmas.List.{append_assoc, append-nil}
use Rattle.s360_model.specs.Psw.{fixed_point_overflow_mask_of}
use Rattle.s360_fixed.specs.declared.ended.Ended.{Ended}
use Rattle.s360_store.specs.declared.place.Place.{Place}
use Rattle.s360_store.specs.declared.place.Place.TheVariants.{Psw, Register, Byte}
use Rattle.s360_store.specs.declared.protection.Checked.{Checked}
use Rattle.s360_store.specs.Protection.{met_of_both}
use Rattle.s360_logic.specs.{Bytes.byte_at, LeftToRight.function_address, LeftToRight.with_address, LeftToRight.with_low_byte}
use Rattle.s360_machine.specs.Machine.{Machine}
use Rattle.s360_footprint.specs.Altering.{altering_row, ended_altering, psw_store, register_stores}
use Rattle.s360_footprint.specs.LeftToRightRows.{found_altering, found_code, found_register, found_registers, function_met, made_of_found, met_or, search_met}
use Rattle.s360_footprint.specs.LeftToRightRows.{search_read, searched_row}
use Rattle.s360_footprint.specs.Rows.{Store}
use Rattle.s360_footprint.specs.OperandReadings.{Profile}
use Rattle.s360_footprint.specs.Readings.{Reading, bind, done, places_read, read, run}
use Rattle.s360_footprint.proofs.ReadingLemmas.{places-bind, run-bind}
use Rattle.s360_source.specs.declared.question.Question.{Question}
use Rattle.s360_source.specs.Made.{selecting_met}
use Rattle.s360_source.specs.Walks.{found_walk, walked, with_decided, with_store, with_stores_of}
use Rattle.s360_source.proofs.ReadingPlaces.{mapped}
use Rattle.s360_source.proofs.TranslateLemmas.{met-three}
use Rattle.s360_source.proofs.WalkLemmas.{bind-walked, decided_both, psw-places, stores-both, walked-bind, walked-done}

-- one byte of the search, and what follows if its function byte is this
abbrev selected_at : ℕ → ℕ → Machine → ℕ
selected_at table a m = function_address table (byte_at m.core.storage a)

read-first : (table first i n : ℕ) (m : Machine)
    → places_read (search_read table first i (suc n)) m
    ≡ Byte (first + i) ∷ (Byte (selected_at table (first + i) m)
    ∷ cond (nat_eq (byte_at m.core.storage (selected_at table (first + i) m)) 0) (places_read (search_read table first (i + 1) n) m) [])
read-first table first i n m =
    ap (λ ps. Byte (first + i) ∷ (Byte (selected_at table (first + i) m) ∷ ps)) (by (byte_at m.core.storage (selected_at table (first + i) m)) _) where
      by : (x : ℕ) (z : Bool)
          → places_read (cond z (search_read table first (i + 1) n) (done (Some (i, x)))) m ≡ cond z (places_read (search_read table first (i + 1) n) m) []
      by x true = refl
      by x false = refl

found-first : (table first i n : ℕ) (m : Machine)
    → is_some (run (search_read table first i (suc n)) m)
    ≡ cond (nat_eq (byte_at m.core.storage (selected_at table (first + i) m)) 0) (is_some (run (search_read table first (i + 1) n) m)) true
found-first table first i n m = by (byte_at m.core.storage (selected_at table (first + i) m)) _ where
  by : (x : ℕ) (z : Bool)
      → is_some (run (cond z (search_read table first (i + 1) n) (done (Some (i, x)))) m) ≡ cond z (is_some (run (search_read table first (i + 1) n) m)) true
  by x true = refl
  by x false = refl

met-places-first : (p : Profile) (table key first i n : ℕ) (m : Machine)
    → places_read (search_met p table key first i (suc n)) m
    ≡ places_read (selecting_met p table key (first + i)) m ++ (Byte (selected_at table (first + i) m)
    ∷ cond (nat_eq (byte_at m.core.storage (selected_at table (first + i) m)) 0) (places_read (search_met p table key first (i + 1) n) m) [])
met-places-first p table key first i n m =
    ap (λ ps. Byte (first + i) ∷ ps)
    (places-bind (function_met p table key (byte_at m.core.storage (first + i))) _ m
    ∙ ap (λ ps. places_read (function_met p table key (byte_at m.core.storage (first + i))) m ++ (Byte (selected_at table (first + i) m) ∷ ps))
    (by (run (function_met p table key (byte_at m.core.storage (first + i))) m) _)) where
      by : (met : Checked) (z : Bool)
          → places_read (cond z (bind (search_met p table key first (i + 1) n) (λ l. done (met_of_both met l))) (done (met_of_both met Checked.Clear))) m
          ≡ cond z (places_read (search_met p table key first (i + 1) n) m) []
      by met true = mapped (search_met p table key first (i + 1) n) (met_of_both met) m
      by met false = refl

met-first : (p : Profile) (table key first i n : ℕ) (m : Machine)
    → run (search_met p table key first i (suc n)) m
    ≡ met_of_both (run (selecting_met p table key (first + i)) m)
    (cond (nat_eq (byte_at m.core.storage (selected_at table (first + i) m)) 0) (run (search_met p table key first (i + 1) n) m) Checked.Clear)
met-first p table key first i n m =
    run-bind (function_met p table key (byte_at m.core.storage (first + i)))
    (λ met. read (Byte (selected_at table (first + i) m)) (λ x. met_or met x (search_met p table key first (i + 1) n))) m
    ∙ by (run (function_met p table key (byte_at m.core.storage (first + i))) m) (nat_eq (byte_at m.core.storage (selected_at table (first + i) m)) 0) where
      by : (met : Checked) (z : Bool)
          → run (cond z (bind (search_met p table key first (i + 1) n) (λ l. done (met_of_both met l))) (done (met_of_both met Checked.Clear))) m
          ≡ met_of_both met (cond z (run (search_met p table key first (i + 1) n) m) Checked.Clear)
      by met true = run-bind (search_met p table key first (i + 1) n) (λ l. done (met_of_both met l)) m
      by met false = refl

-- is it zero, or not
pub is-zero : (x : ℕ) → x ≡ 0 → nat_eq x 0 ≡ true
is-zero x e = eq-eqb x 0 e

pub is-other : (x : ℕ) → x ≢ 0 → nat_eq x 0 ≡ false
is-other x h = by (nat_eq x 0) refl where
  by : (z : Bool) → nat_eq x 0 ≡ z → nat_eq x 0 ≡ false
  by true e = absurd (h (eqb-true x 0 e))
  by false e = e

-- what is read of the rest, by whether the search goes on
pub read-rest : (table first i n rest at sel x : ℕ) (m : Machine) (found after target : List Place) (z : Bool) → at ≡ first + i → sel ≡ selected_at table at m
    → x ≡ byte_at m.core.storage sel → rest ≡ suc n → nat_eq x 0 ≡ z → after ≡ (found ++ Byte at ∷ []) ++ Byte sel ∷ []
    → found ++ places_read (search_read table first i rest) m ≡ target
    → after ++ cond z (places_read (search_read table first (i + 1) n) m) [] ≡ target
read-rest table first i n rest at sel x m found after target z e g k s h f t =
    let rest-places : List Place = cond z (places_read (search_read table first (i + 1) n) m) []
    in let step : Byte at ∷ (Byte sel ∷ rest-places) ≡ places_read (search_read table first i rest) m
    = rw (sym h, k, g, e, s) (sym (read-first table first i n m))
    in ap (λ ps. ps ++ rest-places) f ∙ append_assoc (found ++ Byte at ∷ []) (Byte sel ∷ []) rest-places
    ∙ append_assoc found (Byte at ∷ []) (Byte sel ∷ rest-places) ∙ ap (λ ps. found ++ ps) step ∙ t

pub found-rest : (table first i n rest at sel x : ℕ) (m : Machine) (target z : Bool) → at ≡ first + i → sel ≡ selected_at table at m
    → x ≡ byte_at m.core.storage sel → rest ≡ suc n → nat_eq x 0 ≡ z → is_some (run (search_read table first i rest) m) ≡ target
    → cond z (is_some (run (search_read table first (i + 1) n) m)) true ≡ target
found-rest table first i n rest at sel x m target z e g k s h t = rw (sym h, k, g, e) (sym (found-first table first i n m)) ∙ rw s at t

pub met-read-rest : (q : Question) (p : Profile) (table key first i n rest at sel x : ℕ) (m : Machine) (found now after target : List Place) (z : Bool)
    → at ≡ first + i → sel ≡ selected_at table at m → x ≡ byte_at m.core.storage sel → rest ≡ suc n → nat_eq x 0 ≡ z
    → now ≡ with_decided q (places_read (selecting_met p table key at) m) found → after ≡ with_decided q (Byte sel ∷ []) now
    → with_decided q (places_read (search_met p table key first i rest) m) found ≡ target
    → with_decided q (cond z (places_read (search_met p table key first (i + 1) n) m) []) after ≡ target
met-read-rest q p table key first i n rest at sel x m found now after target z e g k s h f o t =
    let rest-places : List Place = cond z (places_read (search_met p table key first (i + 1) n) m) []
    in let one : List Place = places_read (selecting_met p table key at) m
    in let step : one ++ (Byte sel ∷ rest-places) ≡ places_read (search_met p table key first i rest) m
    = rw (sym h, k, g, e, s) (sym (met-places-first p table key first i n m))
    in ap (with_decided q rest-places) (o ∙ ap (with_decided q (Byte sel ∷ [])) f ∙ decided_both q one (Byte sel ∷ []) found)
    ∙ decided_both q (one ++ Byte sel ∷ []) rest-places found
    ∙ ap (λ ps. with_decided q ps found) (append_assoc one (Byte sel ∷ []) rest-places ∙ step) ∙ t

pub met-rest : (p : Profile) (table key first i n rest at sel x : ℕ) (m : Machine) (met one after target : Checked) (z : Bool)
    → at ≡ first + i → sel ≡ selected_at table at m → x ≡ byte_at m.core.storage sel → rest ≡ suc n → nat_eq x 0 ≡ z
    → one ≡ run (selecting_met p table key at) m → after ≡ met_of_both met one
    → met_of_both met (run (search_met p table key first i rest) m) ≡ target
    → met_of_both after (cond z (run (search_met p table key first (i + 1) n) m) Checked.Clear) ≡ target
met-rest p table key first i n rest at sel x m met one after target z e g k s h f o t =
    let later : Checked = cond z (run (search_met p table key first (i + 1) n) m) Checked.Clear
    in let step : met_of_both (run (selecting_met p table key at) m) later ≡ run (search_met p table key first i rest) m
    = rw (sym h, k, g, e, s) (sym (met-first p table key first i n m))
    in ap (λ c. met_of_both c later) (o ∙ ap (met_of_both met) f) ∙ sym (met-three met (run (selecting_met p table key at) m) later)
    ∙ ap (met_of_both met) step ∙ t

-- a search that is done
plain-altering : (q : Question) (registers : List (ℕ × Reading ℕ)) (code : Reading (Option ℕ)) (next : ℕ) (m : Machine) (found : List Place)
    → walked q (altering_row (record { registers = registers; code = code; overflow = done false; address = done next })) m found
    ≡ with_store q Psw (Psw ∷ (places_read code m ++ [])) (with_stores_of q m (register_stores registers) (with_decided q (Psw ∷ []) found))
plain-altering q registers code next m found =
    let stores : List Store = register_stores registers ++ psw_store code (done next)
    in walked-bind q (ended_altering (done false)) (λ ended. done (record { ended = ended; stores = stores })) m found
    ∙ walked-done q (record { ended = run (ended_altering (done false)) m; stores = stores }) m (with_decided q (places_read (ended_altering
    (done false)) m) found)
    ∙ ap (λ ps. with_stores_of q m stores (with_decided q (Psw ∷ ps) found)) (by (fixed_point_overflow_mask_of m.core.psw))
    ∙ stores-both q m (register_stores registers) (psw_store code (done next)) (with_decided q (Psw ∷ []) found)
    ∙ psw-places code (done next) m (with_stores_of q m (register_stores registers) (with_decided q (Psw ∷ []) found)) q where
      by : (mask : Bool) → places_read (cond mask (done Ended.Done) (done Ended.Done)) m ≡ []
      by true = refl
      by false = refl

searched-by : (q : Question) (search : Reading (Option (ℕ × ℕ))) (first count next : ℕ) (m : Machine) (found ps : List Place) (o : Option (ℕ × ℕ))
    → places_read search m ≡ ps
    → with_store q Psw (Psw ∷ ps) (found_walk q (is_some o) ps (with_decided q (Psw ∷ []) found))
    ≡ walked q (altering_row (found_altering search first count next o)) m found
searched-by q search first count next m found ps None e =
    ap (λ xs. with_store q Psw (Psw ∷ xs) (with_decided q (Psw ∷ []) found)) (sym (append-nil _ ∙ mapped search _ m ∙ e))
    ∙ sym (plain-altering q [] (bind search (λ f. done (Some (found_code count f)))) next m found)
searched-by q search first count next m found ps (Some f) e =
    let registers : List (ℕ × Reading ℕ) = found_registers search first (Some f)
    in ap (λ xs. with_store q Psw (Psw ∷ ps) (with_store q (Register 2) (Register 2 ∷ ps) (with_store q (Register 1) (Register 1 ∷ xs) (with_decided q
    (Psw ∷ []) found))))
    (sym (mapped search (made_of_found (λ word (x : ℕ × ℕ). with_address word (first + x.0)) (get_or m.core.registers 1 0)) m ∙ e))
    ∙ ap (λ xs. with_store q Psw (Psw ∷ ps) (with_store q (Register 2) (Register 2 ∷ xs)
    (with_store q (Register 1) (places_read (found_register search 1 (λ word (x : ℕ × ℕ). with_address word (first + x.0))).1 m) (with_decided q
    (Psw ∷ []) found))))
    (sym (mapped search (made_of_found (λ word (x : ℕ × ℕ). with_low_byte word x.1) (get_or m.core.registers 2 0)) m ∙ e))
    ∙ ap (λ xs. with_store q Psw (Psw ∷ xs) (with_stores_of q m (register_stores registers) (with_decided q (Psw ∷ []) found)))
    (sym (append-nil _ ∙ mapped search _ m ∙ e))
    ∙ sym (plain-altering q registers (bind search (λ x. done (Some (found_code count x)))) next m found)

pub searched-walked : (q : Question) (first table count next : ℕ) (m : Machine) (found now after : List Place)
    → now ≡ with_decided q (places_read (search_read table first 0 count) m) found
    → after ≡ with_store q Psw (Psw ∷ places_read (search_read table first 0 count) m)
    (found_walk q (is_some (run (search_read table first 0 count) m)) (places_read (search_read table first 0 count) m) (with_decided q (Psw ∷ []) now))
    → after ≡ walked q (searched_row first table count next) m found
searched-walked q first table count next m found now after e h =
    let search : Reading (Option (ℕ × ℕ)) = search_read table first 0 count
    in bind-walked q search (λ o. altering_row (found_altering search first count next o)) m found now after (run search m) refl e
    (h ∙ searched-by q search first count next m now (places_read search m) (run search m) refl)
