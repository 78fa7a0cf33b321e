-- Files of decks, and files with a short card.
use Rattle.std.proofs.Common.{◌≡◌, ◌<◌, ◌*◌, ◌/◌, ◌%◌, ◌∙◌, ℕ, List, [], ◌∷◌, Bool, true, false, nat_eq, Some, None, length, take, refl, ap, arith, length-append}
use Rattle.std.specs.List.{concat}
use Rattle.std.proofs.lemmas.Bool.Decides.{nat_tests}
use Rattle.std.proofs.lemmas.Option.{none-some, same_Some}
use Rattle.std.proofs.lemmas.List.Elements.{All-head, All-tail}
use Rattle.std.specs.Simd.{first_chunks}
use Rattle.s360_model.specs.Cards.{columns, AreCards, IsDeckFile, short_card_of}
use Rattle.s360_device.specs.Laws.{HasShortCard}
use Rattle.s360_device.proofs.ChunkLemmas.{All-first_chunks, concat-first_chunks}

-- cards joined have 80 bytes each
length-cards : (cards : List (List ℕ)) → AreCards cards → length (concat cards) ≡ length cards * columns
length-cards [] h = refl
length-cards (card ∷ cards) h =
    let first : length card ≡ columns = All-head (λ (c : List ℕ). length c ≡ columns) card cards h
    in let rest : length (concat cards) ≡ length cards * columns = length-cards cards (All-tail (λ (c : List ℕ). length c ≡ columns) card cards h)
    in omega (arith, length-append card (concat cards))

pub short_card-of_deck : (file : List ℕ) (cards : List (List ℕ)) → IsDeckFile file cards → short_card_of file ≡ None
short_card-of_deck file cards d =
    let n : length file ≡ length cards * columns = rw (← d.joined) (length-cards cards d.whole)
    in let e : length file % columns ≡ 0 = omega arith
    in rw e refl

-- a file whose length is no number of whole cards
by_rest : (file : List ℕ) (start : ℕ) (b : Bool) → nat_eq (length file % columns) 0 ≡ b → short_card_of file ≡ Some start → HasShortCard file start
by_rest file start true e h = absurd (none-some start (rw e at h))
by_rest file start false e h =
    let n : ℕ = length file / columns
    in let s : n * columns ≡ start = same_Some (n * columns) start (rw e at h)
    in let left : 0 < length file % columns = grind (arith, nat_tests)
    in let whole : AreCards (first_chunks columns n file) = All-first_chunks columns n file (omega arith)
    in let joined : concat (first_chunks columns n file) ≡ take start file = concat-first_chunks columns n file ∙ ap (λ i. take i file) s
    in record {
      cards = first_chunks columns n file;
      before = record { whole = whole; joined = joined };
      starts = omega arith;
      ends = omega arith;
    }

pub HasShortCard-from_start : (file : List ℕ) (start : ℕ) → short_card_of file ≡ Some start → HasShortCard file start
HasShortCard-from_start file start h = by_rest file start (nat_eq (length file % columns) 0) refl h
