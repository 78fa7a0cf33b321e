-- Walks over rows: one reading after another, one store after another, and rows that alter registers or store bytes.
use Rattle.std.proofs.Common.{ℕ, zero, suc, ◌+◌, ◌≡◌, ◌<◌, ◌∙◌, ◌++◌, length, take, slice_index_or, not, Bool, true, false, cond, Option, Some, None, List, []}
use Rattle.std.proofs.Common.{◌∷◌, refl, sym, ap, arith}
use Rattle.std.proofs.lemmas.List.{append_assoc, append-nil, take_more}
use Rattle.s360_model.specs.Psw.{fixed_point_overflow_mask_of}
use Rattle.s360_store.specs.declared.place.Place.{Place}
use Rattle.s360_store.specs.declared.place.Place.TheVariants.{Psw, Register, Byte}
use Rattle.s360_store.specs.declared.protection.Access.{Access}
use Rattle.s360_fixed.specs.declared.{ended.Ended.Ended, program_code.ProgramCode.ProgramCode, row.Combination.Combination, setting.CodeSetting.CodeSetting}
use Rattle.s360_fixed.specs.Operands.{access_conditions}
use Rattle.s360_fixed.specs.ProgramCodes.{program_code}
use Rattle.s360_machine.specs.Machine.{Machine}
use Rattle.s360_footprint.specs.Altering.{Altering, altering_row, completed_row, ended_altering, overflow_ending, psw_store, register_stores, unless_refused}
use Rattle.s360_footprint.specs.OperandReadings.{conditions_read, profile_of}
use Rattle.s360_footprint.specs.Readings.{Reading, bind, done, places_read, run}
use Rattle.s360_footprint.specs.RegisterRows.{combination_altering, compares, keeps_code, may_overflow, result_read, word_result}
use Rattle.s360_footprint.specs.Rows.{Made, Row, Store}
use Rattle.s360_footprint.specs.StoringRows.{byte_stores}
use Rattle.s360_footprint.proofs.OperandLemmas.{conditions-are}
use Rattle.s360_footprint.proofs.ReadingLemmas.{places-bind, run-bind}
use Rattle.s360_source.specs.declared.question.Question.{Question}
use Rattle.s360_source.specs.Walks.{altered_walk, combination_walk, places_used, store_walk, walked, with_bytes, with_decided, with_each, with_store}
use Rattle.s360_source.specs.Walks.{with_stores_of}
use Rattle.s360_source.proofs.ReadingPlaces.{mapped, result-places}

-- deciders, one after another
pub decided_none : (q : Question) (found : List Place) → with_decided q [] found ≡ found
decided_none Question.Deciders found = append-nil found
decided_none Question.Stored found = refl
decided_none (Question.Sources p) found = refl

pub decided_both : (q : Question) (ps qs found : List Place) → with_decided q qs (with_decided q ps found) ≡ with_decided q (ps ++ qs) found
decided_both Question.Deciders ps qs found = append_assoc found ps qs
decided_both Question.Stored ps qs found = refl
decided_both (Question.Sources p) ps qs found = refl

-- the conditions of an access
pub conditions-code : (address boundary count : ℕ) (kind : Access) (m : Machine)
    → program_code (run (conditions_read (profile_of m.core) address boundary count kind) m) ≡ program_code
    (access_conditions m.core address boundary count kind)
conditions-code address boundary count kind m = ap program_code (conditions-are address boundary count kind m)

-- a row by what was read before it
pub walked-bind : {X Ending : Type 0} (q : Question) (r : Reading X) (further : X → Row Ending) (m : Machine) (found : List Place)
    → walked q (bind r further) m found ≡ walked q (further (run r m)) m (with_decided q (places_read r m) found)
walked-bind q r further m found =
    ap (λ made. with_stores_of q m made.stores (with_decided q (places_read (bind r further) m) found)) (run-bind r further m)
    ∙ ap (λ ps. with_stores_of q m (run (further (run r m)) m).stores (with_decided q ps found)) (places-bind r further m)
    ∙ ap (with_stores_of q m (run (further (run r m)) m).stores) (sym (decided_both q (places_read r m) (places_read (further (run r m)) m) found))

pub walked-done : {Ending : Type 0} (q : Question) (made : Made Ending) (m : Machine) (found : List Place)
    → walked q (done made) m found ≡ with_stores_of q m made.stores found
walked-done q made m found = ap (with_stores_of q m made.stores) (decided_none q found)

pub stores-both : (q : Question) (m : Machine) (ss ts : List Store) (found : List Place)
    → with_stores_of q m (ss ++ ts) found ≡ with_stores_of q m ts (with_stores_of q m ss found)
stores-both q m [] ts found = refl
stores-both q m (s ∷ ss) ts found = stores-both q m ss ts (with_store q s.place (places_read s.value m) found)

-- what was read, and what follows
pub bind-walked : {X Ending : Type 0} (q : Question) (r : Reading X) (further : X → Row Ending) (m : Machine) (found now after : List Place) (x : X) → x
    ≡ run r m
    → now ≡ with_decided q (places_read r m) found → after ≡ walked q (further x) m now → after ≡ walked q (bind r further) m found
bind-walked q r further m found now after x e h g =
    g ∙ ap (λ y. walked q (further y) m now) e ∙ ap (walked q (further (run r m)) m) h ∙ sym (walked-bind q r further m found)

-- an instruction that is refused by what was read, and one that is done
pub refused-walked : {X : Type 0} (q : Question) (r : Reading X) (met : X → Option ProgramCode) (row : Row Ended) (m : Machine) (found now : List Place)
    (o : Option ProgramCode) (code : ProgramCode) → o ≡ met (run r m) → o ≡ Some code → now ≡ with_decided q (places_read r m) found
    → now ≡ walked q (bind r (λ x. unless_refused (met x) row)) m found
refused-walked q r met row m found now o code e is h =
    bind-walked q r (λ x. unless_refused (met x) row) m found now now (run r m) refl h
    (sym (decided_none q now) ∙ ap (λ p. walked q (unless_refused p row) m now) (sym is ∙ e))

pub done-walked : {X : Type 0} (q : Question) (r : Reading X) (met : X → Option ProgramCode) (row : Row Ended) (m : Machine) (found now after : List Place)
    (o : Option ProgramCode) → o ≡ met (run r m) → o ≡ None → now ≡ with_decided q (places_read r m) found → after ≡ walked q row m now
    → after ≡ walked q (bind r (λ x. unless_refused (met x) row)) m found
done-walked q r met row m found now after o e is h g =
    bind-walked q r (λ x. unless_refused (met x) row) m found now after (run r m) refl h
    (g ∙ ap (λ p. walked q (unless_refused p row) m now) (sym is ∙ e))

-- the PSW
pub psw-places : (code : Reading (Option ℕ)) (address : Reading ℕ) (m : Machine) (found : List Place) (q : Question)
    → with_stores_of q m (psw_store code address) found ≡ with_store q Psw (Psw ∷ (places_read code m ++ places_read address m)) found
psw-places code address m found q =
    ap (λ ps. with_store q Psw (Psw ∷ ps) found) (places-bind code _ m ∙ ap (λ ps. places_read code m ++ ps) (mapped address _ m))

-- a row that alters registers, by the places that they are made of
pub altering-walked : (q : Question) (a : Altering) (m : Machine) (overflow registers words code found : List Place) → places_read a.overflow m ≡ overflow
    → ((before : List Place) → with_stores_of q m (register_stores a.registers) before ≡ with_each q registers words before)
    → places_read a.code m ++ places_read a.address m ≡ code
    → walked q (altering_row a) m found ≡ altered_walk q m.core.psw overflow registers words code found
altering-walked q a m overflow registers words code found e f g =
    let stores : List Store = register_stores a.registers ++ psw_store a.code a.address
    in let decided : List Place
    = with_decided q (cond (fixed_point_overflow_mask_of m.core.psw) overflow []) (with_decided q (Psw ∷ []) found)
    in walked-bind q (ended_altering a.overflow) (λ ended. done (record { ended = ended; stores = stores })) m found
    ∙ walked-done q (record { ended = run (ended_altering a.overflow) m; stores = stores }) m (with_decided q (places_read (ended_altering a.overflow) m) found)
    ∙ ap (with_stores_of q m stores)
    (ap (λ ps. with_decided q (Psw ∷ ps) found) (by (fixed_point_overflow_mask_of m.core.psw))
    ∙ sym (decided_both q (Psw ∷ []) (cond (fixed_point_overflow_mask_of m.core.psw) overflow []) found))
    ∙ stores-both q m (register_stores a.registers) (psw_store a.code a.address) decided
    ∙ ap (with_stores_of q m (psw_store a.code a.address)) (f decided)
    ∙ psw-places a.code a.address m (with_each q registers words decided) q
    ∙ ap (λ ps. with_store q Psw (Psw ∷ ps) (with_each q registers words decided)) g where
      by : (mask : Bool)
          → places_read (cond mask (bind a.overflow (λ o. done (overflow_ending o))) (done Ended.Done)) m ≡ cond mask overflow []
      by true = mapped a.overflow overflow_ending m ∙ e
      by false = refl

-- R1 combined with a second operand
pub combination-walked : (q : Question) (c : Combination) (r1 next : ℕ) (second : Reading ℕ) (m : Machine) (found : List Place)
    → walked q (altering_row (combination_altering c r1 second next)) m found ≡ combination_walk q m.core.psw c r1 (places_read second m) found
combination-walked q c r1 next second m found =
    altering-walked q (combination_altering c r1 second next) m (cond (may_overflow c) used []) (cond (compares c) [] (Register r1 ∷ [])) used
    (cond (not (keeps_code c)) used []) found (overflowing (may_overflow c)) (registers (compares c)) (coded (keeps_code c)) where
      used : List Place
      used = places_used c r1 (places_read second m)

      result : Reading (Option ℕ × CodeSetting)
      result = result_read c r1 second

      overflowing : (z : Bool) → places_read (cond z (bind result (λ x. done x.1.overflow)) (done false)) m ≡ cond z used []
      overflowing true = mapped result (λ x. x.1.overflow) m ∙ result-places c r1 second m
      overflowing false = refl

      registers : (z : Bool) (before : List Place)
          → with_stores_of q m (register_stores (cond z [] ((r1, bind result word_result) ∷ []))) before ≡ with_each q (cond z []
          (Register r1 ∷ [])) used before
      registers true before = refl
      registers false before = ap (λ ps. with_store q (Register r1) ps before) (mapped result _ m ∙ result-places c r1 second m)

      coded : (z : Bool) → places_read (cond z (done None) (bind result (λ x. done x.1.code))) m ++ [] ≡ cond (not z) used []
      coded true = refl
      coded false = append-nil _ ∙ mapped result (λ x. x.1.code) m ∙ result-places c r1 second m

-- one place, and one byte more
each-append : (q : Question) (xs ys ps found : List Place) → with_each q (xs ++ ys) ps found ≡ with_each q ys ps (with_each q xs ps found)
each-append q [] ys ps found = refl
each-append q (x ∷ xs) ys ps found = each-append q xs ys ps (with_store q x ps found)

pub each-more : (q : Question) (places : List Place) (i : ℕ) (d : Place) (ps now before : List Place) → i < length places
    → now ≡ with_each q (take i places) ps before → with_store q (slice_index_or places i d) ps now ≡ with_each q (take (i + 1) places) ps before
each-more q places i d ps now before l e =
    ap (with_store q (slice_index_or places i d) ps) e
    ∙ sym (ap (λ xs. with_each q xs ps before) (take_more places i d l) ∙ each-append q (take i places) (slice_index_or places i d ∷ []) ps before)

-- bytes that are stored
pub bytes-walked : (q : Question) (bytes : Reading (List ℕ)) (m : Machine) (address i n : ℕ) (found : List Place)
    → with_stores_of q m (byte_stores address bytes i n) (with_bytes q address i (places_read bytes m) found)
    ≡ with_bytes q address (i + n) (places_read bytes m) found
bytes-walked q bytes m address i zero found = let none : i ≡ i + 0 = omega arith in ap (λ k. with_bytes q address k (places_read bytes m) found) none
bytes-walked q bytes m address i (suc n) found =
    let one : suc i ≡ i + 1 = omega arith
    in let all : i + 1 + n ≡ i + suc n = omega arith
    in ap (λ ps. with_stores_of q m (byte_stores address bytes (i + 1) n)
    (with_store q (Byte (address + i)) ps (with_bytes q address i (places_read bytes m) found))) (mapped bytes _ m)
    ∙ ap (λ k. with_stores_of q m (byte_stores address bytes (i + 1) n) (with_bytes q address k (places_read bytes m) found)) one
    ∙ bytes-walked q bytes m address (i + 1) n found
    ∙ ap (λ k. with_bytes q address k (places_read bytes m) found) all

pub completed-bytes : (q : Question) (bytes : Reading (List ℕ)) (address count next : ℕ) (m : Machine) (found : List Place)
    → walked q (completed_row (byte_stores address bytes 0 count) next) m found ≡ store_walk q address count (places_read bytes m) found
completed-bytes q bytes address count next m found =
    let stores : List Store = byte_stores address bytes 0 count
    in let all : 0 + count ≡ count = omega arith
    in walked-done q (record { ended = Ended.Done; stores = stores ++ psw_store (done None) (done next) }) m found
    ∙ stores-both q m stores (psw_store (done None) (done next)) found
    ∙ ap (with_store q Psw (Psw ∷ [])) (bytes-walked q bytes m address 0 count found)
    ∙ ap (λ n. store_walk q address n (places_read bytes m) found) all
