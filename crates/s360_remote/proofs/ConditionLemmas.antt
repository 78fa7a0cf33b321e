-- A list of conditions, read one after another.
use Rattle.std.proofs.Common.{◌≡◌, ◌<◌, ◌≤◌, ◌+◌, ◌-◌, ◌++◌, ◌∙◌, ℕ, suc, Result, Ok, Err, List, [], ◌∷◌, refl, ap, sym, subst, inl, inr, arith, length, append_assoc, append-nil, length-append, ◌⊎◌, IsOk, MatchResult}
use Rattle.s360_condition.specs.Reading.{reading_of}
use Rattle.s360_condition.specs.declared.instruction.Placed.{Placed}
use Rattle.s360_packet.specs.Conditions.{condition_in}
use Rattle.s360_packet.specs.Requests.{Parsed, and_then}
use Rattle.s360_packet.specs.declared.request.RequestFault.{RequestFault}
use Rattle.s360_packet.specs.declared.request.RequestFault.TheVariants.{Memory}
use Rattle.s360_remote.specs.Conditions.{conditions_from, conditions_in, part_of_reading}

abbrev Condition : Type 0
Condition = List Placed

-- so many first conditions of a text were read, and the rest is left
pub record IsReadSoFar (text : List ℕ) (read : List Condition) (rest : List ℕ) : Type 0 where
  pub few : length rest + length read ≤ length text
  pub whole : conditions_in text ≡ and_then (conditions_from (length text - length read) rest) (λ others. Ok (read ++ others))

pub IsReadSoFar-start : (text : List ℕ) → IsReadSoFar text [] text
IsReadSoFar-start text =
    let all : length text - 0 ≡ length text = omega arith
    in let same : (p : Parsed (List Condition)) → p ≡ and_then p (λ others. Ok ([] ++ others)) = λ p. elim p as (λ q. q ≡ and_then q (λ others. Ok ([] ++ others))) [ Ok x ↦ refl | Err f ↦ refl ]
    in record { few = omega arith; whole = same (conditions_in text) ∙ ap (λ n. and_then (conditions_from n text) (λ others. Ok ([] ++ others))) (sym all) }

one-more : (n : ℕ) (rest : List ℕ) → 0 < length rest
    → conditions_from (suc n) rest ≡ and_then (condition_in rest) (λ first. and_then (part_of_reading (reading_of first.0)) (λ condition. and_then (conditions_from n first.1) (λ others. Ok (condition ∷ others))))
one-more n [] some = absurd (omega (arith, some))
one-more n (b ∷ bs) some = refl

steps-left : (text : List ℕ) (read : List Condition) (rest : List ℕ) → length rest + length read ≤ length text → 0 < length rest → length text - length read ≡ suc (length text - length read - 1)
steps-left text read rest few some = omega (arith, few, some)

pub IsReadSoFar-next : (text : List ℕ) (read : List Condition) (rest bytes behind : List ℕ) (condition : Condition) → IsReadSoFar text read rest → 0 < length rest → length behind < length rest
    → condition_in rest ≡ Ok (bytes, behind) → part_of_reading (reading_of bytes) ≡ Ok condition → IsReadSoFar text (read ++ condition ∷ []) behind
IsReadSoFar-next text read rest bytes behind condition h some less is right =
    let n : ℕ = length text - length read - 1
    in let more : length (read ++ condition ∷ []) ≡ length read + 1 = length-append read (condition ∷ [])
    in let left : length text - length (read ++ condition ∷ []) ≡ n = omega (arith, more)
    in let joined : (p : Parsed (List Condition)) → and_then (and_then p (λ others. Ok (condition ∷ others))) (λ others. Ok (read ++ others)) ≡ and_then p (λ others. Ok ((read ++ condition ∷ []) ++ others))
    = λ p. elim p as (λ q. and_then (and_then q (λ others. Ok (condition ∷ others))) (λ others. Ok (read ++ others)) ≡ and_then q (λ others. Ok ((read ++ condition ∷ []) ++ others)))
    [ Ok x ↦ ap (λ l. Ok l) (sym (append_assoc read (condition ∷ []) x)) | Err f ↦ refl ]
    in record {
      few = omega (arith, h.few, less, more);
      whole = h.whole ∙ ap (λ k. and_then (conditions_from k rest) (λ others. Ok (read ++ others))) (steps-left text read rest h.few some)
          ∙ ap (λ p. and_then p (λ others. Ok (read ++ others))) (one-more n rest some)
          ∙ ap (λ p. and_then (and_then p (λ first. and_then (part_of_reading (reading_of first.0)) (λ c. and_then (conditions_from n first.1) (λ others. Ok (c ∷ others))))) (λ others. Ok (read ++ others))) is
          ∙ ap (λ p. and_then (and_then p (λ c. and_then (conditions_from n behind) (λ others. Ok (c ∷ others)))) (λ others. Ok (read ++ others))) right
          ∙ joined (conditions_from n behind)
          ∙ ap (λ k. and_then (conditions_from k behind) (λ others. Ok ((read ++ condition ∷ []) ++ others))) (sym left);
    }

pub IsReadSoFar-fault : (text : List ℕ) (read : List Condition) (rest : List ℕ) (f : RequestFault) → IsReadSoFar text read rest → 0 < length rest → condition_in rest ≡ Err f → conditions_in text ≡ Err f
IsReadSoFar-fault text read rest f h some is =
    let n : ℕ = length text - length read - 1
    in h.whole ∙ ap (λ k. and_then (conditions_from k rest) (λ others. Ok (read ++ others))) (steps-left text read rest h.few some)
    ∙ ap (λ p. and_then p (λ others. Ok (read ++ others))) (one-more n rest some)
    ∙ ap (λ p. and_then (and_then p (λ first. and_then (part_of_reading (reading_of first.0)) (λ c. and_then (conditions_from n first.1) (λ others. Ok (c ∷ others))))) (λ others. Ok (read ++ others))) is

pub IsReadSoFar-wrong : (text : List ℕ) (read : List Condition) (rest bytes behind : List ℕ) (f : RequestFault) → IsReadSoFar text read rest → 0 < length rest → condition_in rest ≡ Ok (bytes, behind)
    → part_of_reading (reading_of bytes) ≡ Err f → conditions_in text ≡ Err f
IsReadSoFar-wrong text read rest bytes behind f h some is wrong =
    let n : ℕ = length text - length read - 1
    in h.whole ∙ ap (λ k. and_then (conditions_from k rest) (λ others. Ok (read ++ others))) (steps-left text read rest h.few some)
    ∙ ap (λ p. and_then p (λ others. Ok (read ++ others))) (one-more n rest some)
    ∙ ap (λ p. and_then (and_then p (λ first. and_then (part_of_reading (reading_of first.0)) (λ c. and_then (conditions_from n first.1) (λ others. Ok (c ∷ others))))) (λ others. Ok (read ++ others))) is
    ∙ ap (λ p. and_then (and_then p (λ c. and_then (conditions_from n behind) (λ others. Ok (c ∷ others)))) (λ others. Ok (read ++ others))) wrong

all-read : (n : ℕ) (read : List Condition) → and_then (conditions_from n []) (λ others. Ok (read ++ others)) ≡ Ok read
all-read n read = ap (λ l. Ok l) (append-nil read)

pub IsReadSoFar-all : (text : List ℕ) (read : List Condition) (rest : List ℕ) → IsReadSoFar text read rest → rest ≡ [] → conditions_in text ≡ Ok read
IsReadSoFar-all text read rest h none =
    h.whole ∙ ap (λ l. and_then (conditions_from (length text - length read) l) (λ others. Ok (read ++ others))) none ∙ all-read (length text - length read) read

-- ---- why a list is not read

matches-err : {X F : Type 0} (r : Result X F) (P : X → Type 0) (Q : F → Type 0) (f : F) → r ≡ Err f → Q f → MatchResult r P Q
matches-err (Ok x) P Q f h q = absurd (cc)
matches-err (Err g) P Q f h q = let same : f ≡ g = cc in subst Q same q

pub fault-found : {X : Type 0} (r : Result X RequestFault) (P : X → Type 0) (text : List ℕ) (read : List Condition) (rest : List ℕ) (f : RequestFault) → IsReadSoFar text read rest → 0 < length rest → r ≡ Err f
    → (condition_in rest ≡ Err f) ⊎ (IsOk (condition_in rest) × (f ≡ Memory)) → MatchResult r P (λ fault. (conditions_in text ≡ Err fault) ⊎ (fault ≡ Memory))
fault-found r P text read rest f h some is (inl wrong) = matches-err r P _ f is (inl (IsReadSoFar-fault text read rest f h some wrong))
fault-found r P text read rest f h some is (inr lacks) = matches-err r P _ f is (inr lacks.1)

pub wrong-found : {X : Type 0} (r : Result X RequestFault) (P : X → Type 0) (text : List ℕ) (read : List Condition) (rest bytes behind : List ℕ) (f : RequestFault) → IsReadSoFar text read rest → 0 < length rest
    → condition_in rest ≡ Ok (bytes, behind) → r ≡ Err f → (part_of_reading (reading_of bytes) ≡ Err f) ⊎ (f ≡ Memory) → MatchResult r P (λ fault. (conditions_in text ≡ Err fault) ⊎ (fault ≡ Memory))
wrong-found r P text read rest bytes behind f h some first is (inl wrong) = matches-err r P _ f is (inl (IsReadSoFar-wrong text read rest bytes behind f h some first wrong))
wrong-found r P text read rest bytes behind f h some first is (inr lacks) = matches-err r P _ f is (inr lacks)
