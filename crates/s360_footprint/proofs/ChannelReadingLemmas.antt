-- The execution of a channel command word as a reading does what its definition says.
use Rattle.std.proofs.Common.{ℕ, ◌+◌, ◌-◌, ◌≡◌, ◌≤◌, ◌∙◌, not, ◌&&◌, Bool, true, false, cond, nat_eq, nat_le, Option, Some, None, List, [], ◌∷◌, ◌++◌, refl}
use Rattle.std.proofs.Common.{sym, ap, length, take, drop, slice_range, arith}
use Rattle.std.proofs.lemmas.Bool.{eqb-true}
use Rattle.s360_model.specs.Storage.{doubleword_at}
use Rattle.s360_store.specs.declared.{protection.Access.Access, protection.Checked.Checked}
use Rattle.s360_store.specs.Protection.{access}
use Rattle.s360_device.specs.declared.device.Begin.{Begin}
use Rattle.s360_channel.specs.declared.{ccw.Ccw.Ccw, fetching.Fetched.Fetched, program.Program.Program, program.Progress.Progress, transfer.Transfer.Transfer}
use Rattle.s360_channel.specs.Execution.{DeviceView, Execution, WordAtHand, access_of, after_input, channel_execution, command_with, execute_begun}
use Rattle.s360_channel.specs.Execution.{execute_fetched}
use Rattle.s360_channel.specs.Execution.{execute_input, execute_output, input_transfer, lowest_address, output_transfer, run_of, stored_bytes, unless_checked}
use Rattle.s360_channel.specs.Execution.{word_at_hand}
use Rattle.s360_channel.specs.Programs.{ccw_at, executed_at, goes_on_with_record, is_first, is_loading, loading_word, next_ccw, next_ccw_with}
use Rattle.s360_channel.specs.Words.{ccw_of, is_doubleword_address, is_transfer, reads_backward}
use Rattle.s360_machine.specs.Machine.{Machine}
use Rattle.s360_footprint.specs.ChannelReadings.{begin_at, begun_met, begun_read, bytes_met, ccw_read, input_bytes, led_to_by, lowest_of, next_ccw_read}
use Rattle.s360_footprint.specs.ChannelReadings.{output_of}
use Rattle.s360_footprint.specs.ChannelReadings.{output_read, output_with, word_met, word_or_target, word_read}
use Rattle.s360_footprint.specs.OperandReadings.{access_read, bytes_read, number_read, profile_of}
use Rattle.s360_footprint.specs.Readings.{Reading, bind, done, run}
use Rattle.s360_footprint.proofs.InstructionRowLemmas.{bytes-are}
use Rattle.s360_footprint.proofs.OperandLemmas.{access-is, clear-inside, number-is}
use Rattle.s360_footprint.proofs.ReadingLemmas.{run-bind}

-- the word with which a program goes on
ccw-is : (address : ℕ) (m : Machine) → run (ccw_read (profile_of m.core) address) m ≡ ccw_at m.core.storage address
ccw-is address m = by (is_doubleword_address address && nat_le (address + 8) (length m.core.storage.bytes)) where
  by : (z : Bool) → run (cond z (bind (number_read address 8) (λ d. done (Some (ccw_of d)))) (done None)) m
      ≡ cond z (Some (ccw_of (doubleword_at m.core.storage.bytes address))) None
  by true = run-bind (number_read address 8) (λ d. done (Some (ccw_of d))) m ∙ ap (λ d. Some (ccw_of d)) (number-is address 8 m)
  by false = refl

word-is : (progress : Progress) (address : ℕ) (o : Option Ccw) (m : Machine)
    → run (word_or_target (profile_of m.core) progress address o) m ≡ next_ccw_with m.core.storage progress address o
word-is progress address None m = refl
word-is progress address (Some c) m = by (is_transfer c && not (is_first progress)) where
  by : (z : Bool)
      → run (cond z (bind (ccw_read (profile_of m.core) c.address) (λ target. done (led_to_by progress address c target)))
      (done (executed_at (goes_on_with_record progress) address c))) m
      ≡ cond z (led_to_by progress address c (ccw_at m.core.storage c.address)) (executed_at (goes_on_with_record progress) address c)
  by true = run-bind (ccw_read (profile_of m.core) c.address) (λ target. done (led_to_by progress address c target)) m
      ∙ ap (led_to_by progress address c) (ccw-is c.address m)
  by false = refl

pub next-is : (program : Program) (m : Machine) → run (next_ccw_read (profile_of m.core) program) m ≡ next_ccw m.core.storage program
next-is program m = by (is_loading program.progress) where
  by : (z : Bool)
      → run (cond z (done (Fetched.Whole 0 (ccw_of loading_word)))
      (bind (ccw_read (profile_of m.core) program.address) (word_or_target (profile_of m.core) program.progress program.address))) m
      ≡ cond z (Fetched.Whole 0 (ccw_of loading_word)) (next_ccw_with m.core.storage program.progress program.address (ccw_at m.core.storage program.address))
  by true = refl
  by false =
      run-bind (ccw_read (profile_of m.core) program.address) (word_or_target (profile_of m.core) program.progress program.address) m
      ∙ ap (λ o. run (word_or_target (profile_of m.core) program.progress program.address o) m) (ccw-is program.address m)
      ∙ word-is program.progress program.address (ccw_at m.core.storage program.address) m

-- what bytes meet
bytes-met-is : (key : ℕ) (kind : Access) (count : ℕ) (o : Option ℕ) (m : Machine)
    → run (bytes_met (profile_of m.core) key kind count o) m ≡ access_of m.core.storage key kind count o
bytes-met-is key kind count None m = refl
bytes-met-is key kind count (Some address) m = by (nat_eq count 0) where
  by : (z : Bool) → run (cond z (done Checked.Clear) (access_read (profile_of m.core) address count kind key)) m
      ≡ cond z Checked.Clear (access m.core.storage address count kind key)
  by true = refl
  by false = access-is address count kind key m

-- an output: bytes that meet nothing are inside storage, or there is none
fetched-are : (address count key : ℕ) (m : Machine) → access_of m.core.storage key Access.Fetch count (Some address) ≡ Checked.Clear
    → run (bytes_read address count) m ≡ slice_range m.core.storage.bytes address (address + count)
fetched-are address count key m clear = by (nat_eq count 0) refl clear where
  long : count ≡ address + count - address
  long = omega arith

  by : (z : Bool) → nat_eq count 0 ≡ z → cond z Checked.Clear (access m.core.storage address count Access.Fetch key) ≡ Checked.Clear
      → run (bytes_read address count) m ≡ take (address + count - address) (drop address m.core.storage.bytes)
  by true e h =
      let none : count ≡ 0 = eqb-true count 0 e
      in let also : address + count - address ≡ 0 = omega (arith, none)
      in ap (λ n. run (bytes_read address n) m) none ∙ sym (ap (λ n. take n (drop address m.core.storage.bytes)) also)
  by false e h = bytes-are address count m (clear-inside m.core address count Access.Fetch key h) ∙ ap (λ n. take n (drop address m.core.storage.bytes)) long

output-by : (w : WordAtHand) (limit : ℕ) (t : Transfer) (fetched : List ℕ) (m : Machine) (met : Checked)
    → (met ≡ Checked.Clear → run (bytes_read w.ccw.address t.count) m ≡ fetched)
    → run (output_read bytes_read w limit t met) m ≡ unless_checked w met (output_with w limit t fetched)
output-by w limit t fetched m Checked.Clear h =
    run-bind (bytes_read w.ccw.address t.count) (λ bs. done (output_with w limit t bs)) m ∙ ap (output_with w limit t) (h refl)
output-by w limit t fetched m Checked.Addressing h = refl
output-by w limit t fetched m Checked.Protection h = refl

-- a word, by what its bytes meet
begun-is : (w : WordAtHand) (met : Checked) (begin : Begin) (m : Machine) → run (begun_met (profile_of m.core) w begin) m ≡ met
    → run (begun_read bytes_read w met begin) m ≡ execute_begun m.core.storage w begin
begun-is w met (Begin.Input total) m e =
    let bytes : List ℕ = input_bytes w total
    in let is : met ≡ access_of m.core.storage w.program.key Access.Store (length bytes) (lowest_of w bytes)
    = sym e ∙ bytes-met-is w.program.key Access.Store (length bytes) (lowest_of w bytes) m
    in ap (λ x. unless_checked w x (record (after_input w (input_transfer w.ccw (total - w.moved))) { stores = run_of (lowest_of w bytes) bytes })) is
begun-is w met (Begin.Output limit) m e =
    let t : Transfer = output_of w limit
    in let found : Checked = access_of m.core.storage w.program.key Access.Fetch t.count (Some w.ccw.address)
    in let is : met ≡ found = sym e ∙ bytes-met-is w.program.key Access.Fetch t.count (Some w.ccw.address) m
    in ap (λ x. run (output_read bytes_read w limit t x) m) is
    ∙ output-by w limit t (slice_range m.core.storage.bytes w.ccw.address (w.ccw.address + t.count)) m found
    (λ clear. fetched-are w.ccw.address t.count w.program.key m clear)
begun-is w met Begin.Control m e = refl
begun-is w met (Begin.Refused sense) m e = refl
begun-is w met Begin.NotYet m e = refl

fetched-is : (d : DeviceView) (program : Program) (f : Fetched) (met : Checked) (m : Machine) → run (word_met (profile_of m.core) d program f) m ≡ met
    → run (word_read bytes_read d program f met) m ≡ execute_fetched d m.core.storage program f
fetched-is d program (Fetched.Broken last) met m e = refl
fetched-is d program (Fetched.Whole at c) met m e = begun-is (word_at_hand d program at c) met (begin_at d program c) m e

-- the word that is found, and what its bytes meet, in a machine
abbrev pub FoundIn : Machine → DeviceView → Program → Fetched → Checked → Type 0
FoundIn m d program f met = (run (next_ccw_read (profile_of m.core) program) m ≡ f) × (run (word_met (profile_of m.core) d program f) m ≡ met)

pub execution-is : (d : DeviceView) (program : Program) (f : Fetched) (met : Checked) (m : Machine) → FoundIn m d program f met
    → run (word_read bytes_read d program f met) m ≡ channel_execution d m.core.storage program
unfolding channel_execution
execution-is d program f met m h =
    fetched-is d program f met m h.1 ∙ ap (execute_fetched d m.core.storage program) (sym h.0 ∙ next-is program m)
