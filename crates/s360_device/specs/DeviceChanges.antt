-- What a command or the operator does to a device: the sense bytes, and what is done to its media, if anything, are
-- exchanged with it (kept).
use Rattle.std.specs.Prelude.{◌≡◌, ℕ, Bool}
use Rattle.s360_model.specs.Exchanges.{CanIfAny, after_if_any, back_if_any, need_if_any}
use Rattle.s360_device.specs.declared.device_with.DeviceChange.{DeviceChange}
use Rattle.s360_device.specs.declared.device_with.DeviceWith.{DeviceWith}
use Rattle.s360_device.specs.Kinds.{Kind, MakesMedia, MediaWithRoom}
use Rattle.s360_device.specs.Transfers.{TellsNot}

-- what is seen of a device
abbrev pub seen_device : {S M C : Type 0} → Kind S M C → DeviceWith S → DeviceWith M
seen_device k d = record { sense = d.sense; media = k.see d.media }

-- a change can be exchanged with it
abbrev pub CanSwapDevice : {S M C : Type 0} → Kind S M C → DeviceWith S → DeviceChange C → Type 0
CanSwapDevice k d x = CanIfAny k.can d.media x.media

-- the device after the exchange, and the change
abbrev pub device_after_swap : {S M C : Type 0} → Kind S M C → DeviceWith S → DeviceChange C → DeviceWith S
device_after_swap k d x = record { sense = x.sense; media = after_if_any k.after d.media x.media }

abbrev pub device_change_after_swap : {S M C : Type 0} → Kind S M C → DeviceWith S → DeviceChange C → DeviceChange C
device_change_after_swap k d x = record { sense = d.sense; media = back_if_any k.back d.media x.media }

-- it tells whether the exchange makes the device another, as it is seen
abbrev pub TellsAlteration : {S M C : Type 0} → Kind S M C → DeviceWith S → DeviceChange C → Bool → Type 0
TellsAlteration {M = M} k d x told =
    (n : M) → MakesMedia k d.media n x.media → TellsNot told (seen_device k d ≡ record { sense = x.sense; media = n })

-- the number of items for which it needs room
abbrev pub device_needs : {S M C : Type 0} → Kind S M C → DeviceChange C → ℕ
device_needs k x = need_if_any k.needs x.media

-- a device with a part of its media in their place
abbrev pub with_part : {V S : Type 0} → (V → S) → DeviceWith V → DeviceWith S
with_part part d = record { sense = d.sense; media = part d.media }

-- of a device with room, whose media are a part of theirs: what is seen, and the device after the exchange
abbrev pub device_seen : {V S M C : Type 0} → Kind S M C → (V → S) → DeviceWith V → DeviceWith M
device_seen k whole d = seen_device k (with_part whole d)

abbrev pub room_after_swap : {V S M C : Type 0} → Kind S M C → (V → S) → (V → ℕ) → (S → ℕ → V) → DeviceWith V → DeviceChange C → DeviceWith V
room_after_swap k whole room_of made d x = with_part (λ s. made s (room_of d.media)) (device_after_swap k (with_part whole d) x)

-- a device without the room that was made in it
abbrev pub bare : {S : Type 0} → DeviceWith (MediaWithRoom S) → DeviceWith S
bare d = with_part (λ m. m.media) d
