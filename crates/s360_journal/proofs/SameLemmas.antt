-- The tests of whether events are the same decide whether they are equal.
use Rattle.std.proofs.Common.{◌≡◌, Bool, List, Some, refl, ap, slice_get, ◌↔◌, IsTrue}
use Rattle.std.specs.Cmp.{booleans_Decides, both_ways}
use Rattle.std.proofs.lemmas.Bool.Decides.{Decides-eqb, Decides-like}
use Rattle.std.proofs.lemmas.Slice.Eq.{bytes_eq-Decides}
use Rattle.s360_device.specs.Differences.{DecidesEquality}
use Rattle.s360_device.proofs.EqualityLemmas.{both, by_parts}
use Rattle.s360_word.specs.declared.unit.Unit.{Unit as UnitAddress}
use Rattle.s360_machine.specs.declared.event.Event.{Event}
use Rattle.s360_machine.specs.declared.event.Event.TheVariants.{Cpu, Channel, Tick, Key as key, Patch as patch}
use Rattle.s360_machine.specs.declared.event.Patch.TheVariants.{Bytes, Register, StorageKey, FetchBit, Psw}
use Rattle.s360_machine.specs.declared.operator.Key.TheVariants.{Start, Stop, Reset, Interrupt, EndOfFile, Request, Enter, Load}
use Rattle.s360_journal.specs.Same.{same_event, same_key, same_patch, same_unit_address}
use Rattle.s360_journal.specs.Timelines.{is_first}

same_unit_address-Decides : DecidesEquality same_unit_address
same_unit_address-Decides = by_parts (λ (u : UnitAddress). u.0) (λ n. record { 0 = n }) (λ u. refl) Decides-eqb

same_key-Decides : DecidesEquality same_key
same_key-Decides Start Start = (λ e. refl, λ e. refl)
same_key-Decides Stop Stop = (λ e. refl, λ e. refl)
same_key-Decides Reset Reset = (λ e. refl, λ e. refl)
same_key-Decides Interrupt Interrupt = (λ e. refl, λ e. refl)
same_key-Decides EndOfFile EndOfFile = (λ e. refl, λ e. refl)
same_key-Decides Request Request = (λ e. refl, λ e. refl)
same_key-Decides (Enter line) (Enter other) = Decides-like (same_key (Enter line) (Enter other)) (λ e. ap Enter e) (λ e. cc) (bytes_eq-Decides line other)
same_key-Decides (Load u) (Load v) = Decides-like (same_key (Load u) (Load v)) (λ e. ap Load e) (λ e. cc) (same_unit_address-Decides u v)
same_key-Decides k l = (λ e. absurd (cc), λ e. absurd (cc))

same_patch-Decides : DecidesEquality same_patch
same_patch-Decides (Bytes at bytes) (Bytes to others) =
    Decides-like (same_patch (Bytes at bytes) (Bytes to others)) (λ e i. Bytes (e i).0 (e i).1) (λ e. cc) (both Decides-eqb bytes_eq-Decides (at, bytes) (to, others))
same_patch-Decides (Register r word) (Register s other) =
    Decides-like (same_patch (Register r word) (Register s other)) (λ e i. Register (e i).0 (e i).1) (λ e. cc) (both Decides-eqb Decides-eqb (r, word) (s, other))
same_patch-Decides (StorageKey at k) (StorageKey to l) =
    Decides-like (same_patch (StorageKey at k) (StorageKey to l)) (λ e i. StorageKey (e i).0 (e i).1) (λ e. cc) (both Decides-eqb Decides-eqb (at, k) (to, l))
same_patch-Decides (FetchBit at on) (FetchBit to other) =
    Decides-like (same_patch (FetchBit at on) (FetchBit to other)) (λ e i. FetchBit (e i).0 (e i).1) (λ e. cc) (both Decides-eqb booleans_Decides (at, on) (to, other))
same_patch-Decides (Psw word) (Psw other) = Decides-like (same_patch (Psw word) (Psw other)) (λ e. ap Psw e) (λ e. cc) (Decides-eqb word other)
same_patch-Decides p q = (λ e. absurd (cc), λ e. absurd (cc))

pub same_event-Decides : DecidesEquality same_event
same_event-Decides Cpu Cpu = (λ e. refl, λ e. refl)
same_event-Decides Tick Tick = (λ e. refl, λ e. refl)
same_event-Decides (Channel u) (Channel v) = Decides-like (same_event (Channel u) (Channel v)) (λ e. ap Channel e) (λ e. cc) (same_unit_address-Decides u v)
same_event-Decides (key k) (key l) = Decides-like (same_event (key k) (key l)) (λ e. ap key e) (λ e. cc) (same_key-Decides k l)
same_event-Decides (patch p) (patch q) = Decides-like (same_event (patch p) (patch q)) (λ e. ap patch e) (λ e. cc) (same_patch-Decides p q)
same_event-Decides e f = (λ h. absurd (cc), λ h. absurd (cc))

-- whether an event is equal to the first of the rest
pub is_first_told : (rest : List Event) (e f : Event) (r : Bool) → Some f ≡ slice_get rest 0 → (IsTrue r ↔ (f ≡ e)) → r ≡ is_first rest e
is_first_told rest e f r first told =
    let same : r ≡ same_event f e = both_ways r (same_event f e) (λ h. (same_event-Decides f e).1 (told.0 h)) (λ h. told.1 ((same_event-Decides f e).0 h))
    in rw (← first) same
