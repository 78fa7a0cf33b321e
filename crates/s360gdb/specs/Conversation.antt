-- What gdb sends byte by byte, and what it is answered (gdb manual, "Remote Serial Protocol", "Overview").
use Rattle.std.specs.Prelude.{◌≡◌, ◌≤◌, ◌⊎◌, ℕ, true, false, List, [], ◌∷◌, ◌++◌, length, Option}
use Rattle.std.specs.Io.KnownBytes.{Appends, Consumes, IsAtEnd}
use Rattle.s360_remote.specs.Connecting.{Connected, IsTaken, new_connection}
use Rattle.s360_remote.specs.Driven.{Driven}
use Rattle.s360_remote.specs.declared.errand.Errand.{Errand}
use Rattle.s360gdb.specs.Saving.{Runs, Known}

-- how far a conversation is: its connection and its target, and what is known of the program's host
pub record Talking : Type 0 where
  pub connection : Connected
  pub target : Driven
  pub known : Known

abbrev pub talking : Connected → Driven → Known → Talking
talking connection target known = record { connection = connection; target = target; known = known }

-- a byte came, was answered, and what was left to do is done and answered too; files of the host have these contents, as far as
-- they are known
abbrev pub IsTalk : {F : Type 0} → (F → Option (List ℕ)) → ℕ → Talking → Talking → List ℕ → Type 0
IsTalk contents byte s t answers =
    (errand : Errand) × (first : List ℕ) × (second : List ℕ)
    × IsTaken s.connection.ended byte s.connection s.target t.connection t.target errand first
    × Runs contents errand s.known t.known second × (answers ≡ first ++ second)

-- bytes came one after another, and were answered so
abbrev pub IsConversation : {F : Type 0} → (F → Option (List ℕ)) → List ℕ → Talking → Talking → List ℕ → Type 0
IsConversation contents [] s t answers = (t ≡ s) × (answers ≡ [])
IsConversation contents (byte ∷ bytes) s t answers =
    (mid : Talking) × (first : List ℕ) × (rest : List ℕ)
    × IsTalk contents byte s mid first × IsConversation contents bytes mid t rest × (answers ≡ first ++ rest)

-- the bytes that were read of a reader, of which the last read gave at most 4,096: gdb had not left before it; and their
-- answers, which a writer has
pub record IsServed {F : Type 0} (contents : F → Option (List ℕ)) (old new : Option (List ℕ)) (s t : Talking) (silent answered : Option (List ℕ)) : Type 0 where
  pub before : List ℕ
  pub last : List ℕ
  pub mid : Talking
  pub first : List ℕ
  pub rest : List ℕ
  pub read : Consumes old new (before ++ last)
  pub few : length last ≤ 4096
  pub begun : IsConversation contents before s mid first
  pub stays : mid.connection.ended ≡ false
  pub ended : IsConversation contents last mid t rest
  pub written : Appends silent answered (first ++ rest)

-- until gdb has left, or the reader has no more, or more was read than a file can have
abbrev pub IsServedWhole : {F : Type 0} → (F → Option (List ℕ)) → Option (List ℕ) → Option (List ℕ)
    → Driven → Known → Driven → Known → Option (List ℕ) → Option (List ℕ) → Type 0
IsServedWhole contents old new d k e l silent answered =
    (c : Connected)
    × (s : IsServed contents old new (talking new_connection d k) (talking c e l) silent answered)
    × ((c.ended ≡ true) ⊎ (IsAtEnd new ⊎ (18446744073709551615 ≤ length (s.before ++ s.last))))
