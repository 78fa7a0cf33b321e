-- What gdb finds: a target over a machine, over which a script was carried out first (own profile).
use Rattle.std.specs.Prelude.{◌≡◌, ℕ, IfSome, List, Option}
use Rattle.std.specs.Io.KnownBytes.{Appends}
use Rattle.s360_machine.specs.Machine.{Whole}
use Rattle.s360_journal.specs.Calls.{new_session}
use Rattle.s360_journal.specs.Recorded.{Recorded}
use Rattle.s360_debug.specs.Script.{answers_of, session_after}
use Rattle.s360_remote.specs.Driven.{Driven, new_target}
use Rattle.s360gdb.specs.Conversation.{IsServedWhole}
use Rattle.s360gdb.specs.Saving.{Known}

-- a script of this text, where it is known, was carried out over a machine, and its answers are noted
pub record IsFound (start : Whole) (script : Option (List ℕ)) (k l : Known) (recorded : Recorded) : Type 0 where
  pub stands : IfSome script (λ text. recorded ≡ session_after (new_session start 10000000) text)
  pub noted : IfSome script (λ text. Appends k.noted l.noted (answers_of (new_session start 10000000) text))
  pub asked : l.asked ≡ k.asked

-- and gdb is served over what stands then
abbrev pub IsServedAfter : {F : Type 0} → (F → Option (List ℕ)) → Whole → Option (List ℕ) → Known → Known
    → Option (List ℕ) → Option (List ℕ) → Option (List ℕ) → Option (List ℕ) → Type 0
IsServedAfter contents start script k m old new silent answered =
    (recorded : Recorded) × (l : Known) × (e : Driven)
    × IsFound start script k l recorded × IsServedWhole contents old new (new_target recorded) l e m silent answered
