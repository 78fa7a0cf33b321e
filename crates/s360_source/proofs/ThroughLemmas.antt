-- What one row after another is made of is followed back through the stores of the first, where the second reads the same places whatever stands there.
use Rattle.std.proofs.Common.{ℕ, zero, suc, ◌+◌, ◌≡◌, ◌∙◌, ◌++◌, Bool, true, false, cond, List, [], ◌∷◌, refl, sym, ap, flat_map, slice_index}
use Rattle.std.proofs.lemmas.List.{append-nil}
use Rattle.s360_model.specs.Psw.{current_psw}
use Rattle.s360_psw.specs.declared.class.Class.{Class}
use Rattle.s360_psw.specs.Class.{new_location_of, old_location_of}
use Rattle.s360_store.specs.declared.place.Place.{Place}
use Rattle.s360_store.specs.{Places.same_place, Spans.byte_places, declared.place.Place.TheVariants.Psw}
use Rattle.s360_machine.specs.Machine.{Machine}
use Rattle.s360_footprint.specs.Readings.{Reading, done, places_read, read}
use Rattle.s360_footprint.specs.{InterruptionRows.interruption_stores, InterruptionRows.new_psw_store, OperandReadings.number_read, Rows.Store}
use Rattle.s360_footprint.specs.{Sequences.stores_through, Sequences.through, StoringRows.byte_stores, Values.value_there}
use Rattle.s360_source.specs.declared.question.Question.{Question}
use Rattle.s360_source.specs.EventWalks.{IsBegun, interrupted_walk, interruption_walk}
use Rattle.s360_source.specs.Walks.{sources_by, with_bytes, with_store, with_stores_of}
use Rattle.s360_source.proofs.SequenceWalkLemmas.{Reads, mapped-reads, number-reads, through-places}
use Rattle.s360_source.proofs.{AnswerLemmas.nothing-decided, ReadingPlaces.mapped, ReadingPlaces.number-places, WalkLemmas.bytes-walked, WalkLemmas.stores-both}

-- a reading of the same places
reads-places : {X : Type 0} (r : Reading X) (ps : List Place) (m : Machine) → Reads r ps → places_read r m ≡ ps
reads-places (done x) [] m h = refl
reads-places (done x) (q ∷ ps) m h = absurd h
reads-places (read p next) [] m h = absurd h
reads-places (read p next) (q ∷ ps) m h =
    ap (λ xs. p ∷ xs) (reads-places (next (value_there m p)) ps m (h.1.1 (value_there m p))) ∙ ap (λ x. x ∷ ps) h.0

-- stores of such readings
pub record StoreReads (s : Store) : Type 0 where
  pub places : List Place
  pub reads : Reads s.value places

abbrev pub StoresRead : List Store → Type 0
StoresRead [] = Unit {0}
StoresRead (s ∷ ss) = StoreReads s × StoresRead ss

sources-through : (p : Place) (ss ts : List Store) (m : Machine) (found : List Place) → StoresRead ts
    → with_stores_of (Question.Sources p) m (stores_through ss ts) (flat_map (sources_by m ss) found)
    ≡ flat_map (sources_by m ss) (with_stores_of (Question.Sources p) m ts found)
sources-through p ss [] m found h = refl
sources-through p ss (t ∷ ts) m found h =
    ap (with_stores_of (Question.Sources p) m (stores_through ss ts)) (by (same_place t.place p))
    ∙ sources-through p ss ts m (with_store (Question.Sources p) t.place (places_read t.value m) found) h.1 where
      by : (z : Bool) → cond z (places_read (through ss t.value) m) (flat_map (sources_by m ss) found)
          ≡ flat_map (sources_by m ss) (cond z (places_read t.value m) found)
      by true =
          through-places t.value h.0.places ss m h.0.reads ∙ ap (flat_map (sources_by m ss)) (sym (reads-places t.value h.0.places m h.0.reads))
      by false = refl

stored-through : (ss ts : List Store) (m : Machine) (found : List Place)
    → with_stores_of Question.Stored m (stores_through ss ts) found ≡ with_stores_of Question.Stored m ts found
stored-through ss [] m found = refl
stored-through ss (t ∷ ts) m found = stored-through ss ts m (found ++ t.place ∷ [])

-- an interruption
bytes-read : (address i n : ℕ) (bytes : Reading (List ℕ)) (ps : List Place) (ts : List Store) → Reads bytes ps → StoresRead ts
    → StoresRead (byte_stores address bytes i n ++ ts)
bytes-read address i zero bytes ps ts h t = t
bytes-read address i (suc n) bytes ps ts h t =
    (record { places = ps; reads = mapped-reads bytes (λ bs. slice_index bs i) ps h }, bytes-read address (i + 1) n bytes ps ts h t)

interruption-reads : (class : Class) (old : Reading (List ℕ)) → Reads old (Psw ∷ []) → StoresRead (interruption_stores class old)
interruption-reads class old h =
    let new : StoreReads (new_psw_store class) = record {
      places = byte_places (new_location_of class) 8;
      reads = mapped-reads (number_read (new_location_of class) 8) current_psw (byte_places (new_location_of class) 8) (number-reads (new_location_of class) 8);
    }
    in bytes-read (old_location_of class) 0 8 old (Psw ∷ []) (new_psw_store class ∷ []) h (new, tt)

pub interruption-walked : (q : Question) (class : Class) (old : Reading (List ℕ)) (m : Machine) (found : List Place) → places_read old m ≡ Psw ∷ []
    → with_stores_of q m (interruption_stores class old) found ≡ interruption_walk q class found
interruption-walked q class old m found h =
    let new : List Place = byte_places (new_location_of class) 8
    in stores-both q m (byte_stores (old_location_of class) old 0 8) (new_psw_store class ∷ []) found
    ∙ ap (with_stores_of q m (new_psw_store class ∷ [])) (bytes-walked q old m (old_location_of class) 0 8 found)
    ∙ ap (λ ps. with_store q Psw ps (with_bytes q (old_location_of class) 8 (places_read old m) found))
    (mapped (number_read (new_location_of class) 8) current_psw m ∙ number-places (new_location_of class) 8 m)
    ∙ ap (λ ps. with_store q Psw new (with_bytes q (old_location_of class) 8 ps found)) h

-- an interruption after stores
pub interrupted-walked : (q : Question) (ss : List Store) (class : Class) (old : Reading (List ℕ)) (m : Machine) (found : List Place)
    → Reads old (Psw ∷ []) → IsBegun q found
    → with_stores_of q m (ss ++ stores_through ss (interruption_stores class old)) found ≡ interrupted_walk q m ss class found
interrupted-walked Question.Deciders ss class old m found h b =
    nothing-decided m (ss ++ stores_through ss (interruption_stores class old)) found ∙ sym (nothing-decided m ss found)
interrupted-walked Question.Stored ss class old m found h b =
    stores-both Question.Stored m ss (stores_through ss (interruption_stores class old)) found
    ∙ stored-through ss (interruption_stores class old) m (with_stores_of Question.Stored m ss found)
    ∙ interruption-walked Question.Stored class old m (with_stores_of Question.Stored m ss found) (reads-places old (Psw ∷ []) m h)
interrupted-walked (Question.Sources p) ss class old m found h b =
    let asked : Question = Question.Sources p
    in let ts : List Store = interruption_stores class old
    in stores-both asked m ss (stores_through ss ts) found
    ∙ ap (λ ps. with_stores_of asked m (stores_through ss ts) (with_stores_of asked m ss ps)) b
    ∙ ap (with_stores_of asked m (stores_through ss ts)) (sym (append-nil (sources_by m ss p)))
    ∙ sources-through p ss ts m (p ∷ []) (interruption-reads class old h)
    ∙ ap (flat_map (sources_by m ss)) (interruption-walked asked class old m (p ∷ []) (reads-places old (Psw ∷ []) m h))
