-- A walk over one row after another: the second is walked over after the first, and what it reads is followed back through the stores of the first.
use Rattle.std.proofs.Common.{ℕ, zero, suc, ◌+◌, ◌≡◌, ◌∙◌, ◌++◌, true, List, [], ◌∷◌, refl, sym, ap}
use Rattle.std.specs.Prelude.{flat_map}
use Rattle.s360_store.specs.declared.place.Place.{Place}
use Rattle.s360_store.specs.Spans.{byte_places}
use Rattle.s360_machine.specs.Machine.{Machine}
use Rattle.s360_footprint.specs.OperandReadings.{number_read}
use Rattle.s360_footprint.specs.Readings.{Reading, bind, done, places_read, read, run, value_read}
use Rattle.s360_footprint.specs.Rows.{Made, Row, Store, value_after}
use Rattle.s360_footprint.specs.Sequences.{made_through, row_through, sequence, stores_through, through}
use Rattle.s360_footprint.specs.Values.{Value}
use Rattle.s360_footprint.proofs.ReadingLemmas.{places-bind, run-bind}
use Rattle.s360_source.specs.declared.question.Question.{Question}
use Rattle.s360_source.specs.Answers.{is_of_unit}
use Rattle.s360_source.specs.Walks.{sources_by, walked, with_decided, with_stores_of}
use Rattle.s360_source.proofs.AnswerLemmas.{nothing-decided, sources-found}
use Rattle.s360_source.proofs.WalkLemmas.{decided_none, stores-both, walked-bind, walked-done}

-- deciders are added before stores or after them
decided-before : (q : Question) (m : Machine) (ss : List Store) (ps found : List Place)
    → with_stores_of q m ss (with_decided q ps found) ≡ with_decided q ps (with_stores_of q m ss found)
decided-before Question.Deciders m ss ps found = nothing-decided m ss (found ++ ps) ∙ sym (ap (λ x. x ++ ps) (nothing-decided m ss found))
decided-before Question.Stored m ss ps found = refl
decided-before (Question.Sources p) m ss ps found = refl

-- what both make
pub sequence-made : {First Ending : Type 0} (first : Row First) (second : First → Row Ending) (m : Machine)
    → run (sequence first second) m
    ≡ made_through (run first m).stores (run (through (run first m).stores (second (run first m).ended)) m)
sequence-made first second m =
    let ss : List Store = (run first m).stores
    in run-bind first (λ made. row_through made.stores (second made.ended)) m
    ∙ run-bind (through ss (second (run first m).ended)) (λ made. done (made_through ss made)) m

-- the second row after the first
pub sequence-walked : {First Ending : Type 0} (q : Question) (first : Row First) (second : First → Row Ending) (m : Machine) (found : List Place)
    → walked q (sequence first second) m found
    ≡ with_stores_of q m (stores_through (run first m).stores (run (through (run first m).stores (second (run first m).ended)) m).stores)
    (with_decided q (places_read (through (run first m).stores (second (run first m).ended)) m) (walked q first m found))
sequence-walked {Ending} q first second m found =
    let ss : List Store = (run first m).stores
    in let row : Reading (Made Ending) = through ss (second (run first m).ended)
    in let decided : List Place = with_decided q (places_read first m) found
    in let last : List Store = stores_through ss (run row m).stores
    in walked-bind q first (λ made. row_through made.stores (second made.ended)) m found
    ∙ walked-bind q row (λ made. done (made_through ss made)) m decided
    ∙ walked-done q (made_through ss (run row m)) m (with_decided q (places_read row m) decided)
    ∙ stores-both q m ss last (with_decided q (places_read row m) decided)
    ∙ ap (with_stores_of q m last) (decided-before q m ss (places_read row m) decided)

-- a second one that reads nothing to know what it stores
pub sequence-stored : {First Ending : Type 0} (q : Question) (first : Row First) (second : First → Made Ending) (m : Machine) (found : List Place)
    → walked q (sequence first (λ e. done (second e))) m found
    ≡ with_stores_of q m (stores_through (run first m).stores (second (run first m).ended).stores) (walked q first m found)
sequence-stored q first second m found =
    sequence-walked q first (λ e. done (second e)) m found
    ∙ ap (with_stores_of q m (stores_through (run first m).stores (second (run first m).ended).stores)) (decided_none q (walked q first m found))

-- a reading of the same places whatever stands there
abbrev pub Reads : {X : Type 0} → Reading X → List Place → Type 0
Reads (done x) [] = Unit {0}
Reads (read p next) (q ∷ ps) = (p ≡ q) × ((is_of_unit p ≡ true) × ((v : Value p) → Reads (next v) ps))
Reads r ps = ⊥

pub mapped-reads : {X Y : Type 0} (r : Reading X) (f : X → Y) (ps : List Place) → Reads r ps → Reads (bind r (λ x. done (f x))) ps
mapped-reads (done x) f [] h = tt
mapped-reads (done x) f (q ∷ ps) h = absurd h
mapped-reads (read p next) f [] h = absurd h
mapped-reads (read p next) f (q ∷ ps) h = (h.0, (h.1.0, λ v. mapped-reads (next v) f ps (h.1.1 v)))

pub number-reads : (address n : ℕ) → Reads (number_read address n) (byte_places address n)
number-reads address zero = tt
number-reads address (suc n) = (refl, (refl, λ b. mapped-reads (number_read (address + 1) n) _ (byte_places (address + 1) n) (number-reads (address + 1) n)))

-- through stores it is a reading of the sources of each place by them
pub through-places : {X : Type 0} (r : Reading X) (ps : List Place) (ss : List Store) (m : Machine) → Reads r ps
    → places_read (through ss r) m ≡ flat_map (sources_by m ss) ps
through-places (done x) [] ss m h = refl
through-places (done x) (q ∷ ps) ss m h = absurd h
through-places (read p next) [] ss m h = absurd h
through-places (read p next) (q ∷ ps) ss m h =
    let v : Value p = run (value_after ss p) m
    in places-bind (value_after ss p) (λ v. through ss (next v)) m
    ∙ ap (λ xs. places_read (value_after ss p) m ++ xs) (through-places (next v) ps ss m (h.1.1 v))
    ∙ ap (λ xs. xs ++ flat_map (sources_by m ss) ps) (sym (sources-found p m ss (value_read p) h.1.0))
    ∙ ap (λ x. sources_by m ss x ++ flat_map (sources_by m ss) ps) h.0
