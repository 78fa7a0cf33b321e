-- Rows that alter registers, the condition code and the instruction address, and rows that are refused.
use Rattle.std.proofs.Common.{ℕ, ◌≡◌, ◌∙◌, ◌&&◌, ◌++◌, Bool, true, false, cond, Option, Some, None, List, [], ◌∷◌, refl, ap, map, set}
use Rattle.std.specs.Option.{option_map_or}
use Rattle.s360_model.specs.{Core.Core, Psw.fixed_point_overflow_mask_of, Psw.with_instruction_address}
use Rattle.s360_fixed.specs.declared.{ended.Ended.Ended, program_code.ProgramCode.ProgramCode}
use Rattle.s360_fixed.specs.Alterations.{Alteration, after_alteration, ended_by, psw_with, with_words}
use Rattle.s360_fixed.specs.Outcomes.{unless_met}
use Rattle.s360_fixed.specs.ProgramCodes.{Conditions, program_code}
use Rattle.s360_fixed.specs.View.{Outcome}
use Rattle.s360_machine.specs.Machine.{Machine}
use Rattle.s360_footprint.specs.Altering.{Altering, altered_in, altering_row, completed_row, ended_altering, happened, happened_by, overflow_ending}
use Rattle.s360_footprint.specs.Altering.{psw_altered, psw_store, register_stores, unless_refused, with_outcome, word_in}
use Rattle.s360_footprint.specs.Readings.{Reading, bind, done, run}
use Rattle.s360_footprint.specs.Rows.{Row, Store, with_stores}
use Rattle.s360_footprint.proofs.ReadingLemmas.{run-bind}
use Rattle.s360_footprint.proofs.SequenceLemmas.{stores-append}

-- what follows a reading, which makes this
pub happened-bind : {X Ending : Type 0} (r : Reading X) (further : X → Row Ending) (m : Machine) (x : X) → run r m ≡ x
    → happened (bind r further) m ≡ happened (further x) m
happened-bind r further m x e = ap (λ made. happened_by made m) (run-bind r further m ∙ ap (λ y. run (further y) m) e)

-- refused, or done
pub refused-when : (o : Option ProgramCode) (row : Row Ended) (m : Machine) (outcome : Outcome) → (o ≡ None → happened row m ≡ with_outcome m outcome)
    → happened (unless_refused o row) m ≡ with_outcome m (option_map_or (λ code. record { ended = Ended.Program code; core = m.core }) o outcome)
refused-when None row m outcome h = h refl
refused-when (Some code) row m outcome h = refl

pub refused-or : (o : Option ProgramCode) (row : Row Ended) (m : Machine) (outcome : Outcome) → happened row m ≡ with_outcome m outcome
    → happened (unless_refused o row) m ≡ with_outcome m (option_map_or (λ code. record { ended = Ended.Program code; core = m.core }) o outcome)
refused-or o row m outcome h = refused-when o row m outcome (λ e. h)

-- under the conditions that are read
pub conditioned-when : (conditions : Reading Conditions) (row : Row Ended) (m : Machine) (c : Conditions) (outcome : Outcome) → run conditions m ≡ c
    → (program_code c ≡ None → happened row m ≡ with_outcome m outcome)
    → happened (bind conditions (λ x. unless_refused (program_code x) row)) m ≡ with_outcome m (unless_met c m.core outcome)
conditioned-when conditions row m c outcome e h =
    happened-bind conditions (λ x. unless_refused (program_code x) row) m c e ∙ refused-when (program_code c) row m outcome h

pub conditioned : (conditions : Reading Conditions) (row : Row Ended) (m : Machine) (c : Conditions) (outcome : Outcome) → run conditions m ≡ c
    → happened row m ≡ with_outcome m outcome
    → happened (bind conditions (λ x. unless_refused (program_code x) row)) m ≡ with_outcome m (unless_met c m.core outcome)
conditioned conditions row m c outcome e h = conditioned-when conditions row m c outcome e (λ n. h)

-- the stores of registers, and the PSW
registers-stored : (before m : Machine) (words : List (ℕ × Reading ℕ))
    → with_stores before m (register_stores words) ≡ record m { core = record m.core { registers = with_words (map (word_in before) words) m.core.registers } }
registers-stored before m [] = refl
registers-stored before m (word ∷ words) =
    registers-stored before (record m { core = record m.core { registers = set m.core.registers word.0 (run word.1 before) } }) words

psw-is : (code : Reading (Option ℕ)) (address : Reading ℕ) (m : Machine)
    → run (psw_altered code address) m ≡ with_instruction_address (psw_with (run code m) m.core.psw) (run address m)
psw-is code address m =
    run-bind code (λ c. bind address (λ next. done (with_instruction_address (psw_with c m.core.psw) next))) m
    ∙ run-bind address (λ next. done (with_instruction_address (psw_with (run code m) m.core.psw) next)) m

ending-is : (overflow : Reading Bool) (m : Machine)
    → run (ended_altering overflow) m ≡ overflow_ending (run overflow m && fixed_point_overflow_mask_of m.core.psw)
ending-is overflow m = by (fixed_point_overflow_mask_of m.core.psw) where
  without : (o : Bool) → Ended.Done ≡ overflow_ending (o && false)
  without true = refl
  without false = refl

  with-mask : (o : Bool) → overflow_ending o ≡ overflow_ending (o && true)
  with-mask true = refl
  with-mask false = refl

  by : (mask : Bool) → run (cond mask (bind overflow (λ o. done (overflow_ending o))) (done Ended.Done)) m ≡ overflow_ending (run overflow m && mask)
  by true = run-bind overflow (λ o. done (overflow_ending o)) m ∙ with-mask (run overflow m)
  by false = without (run overflow m)

-- any stores, and then the PSW
pub psw-stored : (ss : List Store) (code : Reading (Option ℕ)) (address : Reading ℕ) (m : Machine) (c : Core) → with_stores m m ss ≡ record m { core = c }
    → with_stores m m (ss ++ psw_store code address)
    ≡ record m { core = record c { psw = with_instruction_address (psw_with (run code m) m.core.psw) (run address m) } }
psw-stored ss code address m c e =
    stores-append m m ss (psw_store code address)
    ∙ ap (λ (x : Machine). record x { core = record x.core { psw = run (psw_altered code address) m } }) e
    ∙ ap (λ v. record m { core = record c { psw = v } }) (psw-is code address m)

pub altering-is : (a : Altering) (m : Machine) → happened (altering_row a) m ≡ with_outcome m (after_alteration m.core (altered_in a m))
altering-is a m =
    let stores : List Store = register_stores a.registers ++ psw_store a.code a.address
    in happened-bind (ended_altering a.overflow) (λ ended. done (record { ended = ended; stores = stores })) m
    (ended_by (altered_in a m).setting m.core.psw) (ending-is a.overflow m)
    ∙ ap (λ x. record { ended = ended_by (altered_in a m).setting m.core.psw; machine = x })
    (psw-stored (register_stores a.registers) a.code a.address m (record m.core { registers = with_words (map (word_in m) a.registers) m.core.registers })
    (registers-stored m m a.registers))

-- by what is altered
pub altering-as : (a : Altering) (b : Alteration) (m : Machine) → altered_in a m ≡ b → happened (altering_row a) m ≡ with_outcome m (after_alteration m.core b)
altering-as a b m e = altering-is a m ∙ ap (λ x. with_outcome m (after_alteration m.core x)) e

-- an instruction that is completed with stores
pub completed-is : (ss : List Store) (next : ℕ) (m : Machine) (c : Core) → with_stores m m ss ≡ record m { core = c }
    → happened (completed_row ss next) m ≡ with_outcome m (record { ended = Ended.Done; core = record c { psw = with_instruction_address m.core.psw next } })
completed-is ss next m c e = ap (λ x. record { ended = Ended.Done; machine = x }) (psw-stored ss (done None) (done next) m c e)
