-- The exchange of a device with a change, done twice (kept).
use Rattle.std.proofs.Common.{◌≡◌, ◌∙◌, ℕ, ap}
use Rattle.std.specs.Prelude.{Option}
use Rattle.s360_model.specs.ExchangeLaws.{CanIfAny-again, after_if_any-twice, back_if_any-twice}
use Rattle.s360_device.specs.declared.device_with.DeviceChange.{DeviceChange}
use Rattle.s360_device.specs.declared.device_with.DeviceWith.{DeviceWith}
use Rattle.s360_device.specs.DeviceChanges.{CanSwapDevice, device_after_swap, device_change_after_swap, room_after_swap, with_part}
use Rattle.s360_device.specs.Kinds.{Kind, RestoresBoth}

pub CanSwapDevice-again : {S M C : Type 0} (k : Kind S M C) → RestoresBoth k → (d : DeviceWith S) (x : DeviceChange C) → CanSwapDevice k d x
    → CanSwapDevice k (device_after_swap k d x) (device_change_after_swap k d x)
CanSwapDevice-again k r d x h = CanIfAny-again k.can k.after k.back r.again d.media x.media h

pub device_after_swap-twice : {S M C : Type 0} (k : Kind S M C) → RestoresBoth k → (d : DeviceWith S) (x : DeviceChange C) → CanSwapDevice k d x
    → device_after_swap k (device_after_swap k d x) (device_change_after_swap k d x) ≡ d
device_after_swap-twice {S = S} k r d x h = ap (λ (m : S). record d { media = m }) (after_if_any-twice k.can k.after k.back r.media d.media x.media h)

pub device_change_after_swap-twice : {S M C : Type 0} (k : Kind S M C) → RestoresBoth k → (d : DeviceWith S) (x : DeviceChange C) → CanSwapDevice k d x
    → device_change_after_swap k (device_after_swap k d x) (device_change_after_swap k d x) ≡ x
device_change_after_swap-twice {C = C} k r d x h =
    ap (λ (m : Option C). record x { media = m }) (back_if_any-twice k.can k.after k.back r.change d.media x.media h)

-- the same of a device in whose media room was made: a value is its whole media and the room in them
pub room-again : {V S M C : Type 0} (k : Kind S M C) → RestoresBoth k → (whole : V → S) (room_of : V → ℕ) (made : S → ℕ → V)
    → ((s : S) (room : ℕ) → whole (made s room) ≡ s) → (d : DeviceWith V) (x : DeviceChange C) → CanSwapDevice k (with_part whole d) x
    → CanSwapDevice k (with_part whole (room_after_swap k whole room_of made d x)) (device_change_after_swap k (with_part whole d) x)
room-again k r whole room_of made h d x can =
    rw (h (device_after_swap k (with_part whole d) x).media (room_of d.media)) (CanSwapDevice-again k r (with_part whole d) x can)

pub room-restores_device : {V S M C : Type 0} (k : Kind S M C) → RestoresBoth k → (whole : V → S) (room_of : V → ℕ) (made : S → ℕ → V)
    → ((s : S) (room : ℕ) → whole (made s room) ≡ s) → ((s : S) (room : ℕ) → room_of (made s room) ≡ room) → ((v : V) → made (whole v) (room_of v) ≡ v)
    → (d : DeviceWith V) (x : DeviceChange C) → CanSwapDevice k (with_part whole d) x
    → room_after_swap k whole room_of made (room_after_swap k whole room_of made d x) (device_change_after_swap k (with_part whole d) x) ≡ d
room-restores_device {V = V} k r whole room_of made h g m d x can =
    let s = (device_after_swap k (with_part whole d) x).media
    in rw (g s (room_of d.media), h s (room_of d.media))
    (ap (λ e. with_part (λ s. made s (room_of d.media)) e) (device_after_swap-twice k r (with_part whole d) x can)
    ∙ ap (λ (v : V). record d { media = v }) (m d.media))

pub room-restores_change : {V S M C : Type 0} (k : Kind S M C) → RestoresBoth k → (whole : V → S) (room_of : V → ℕ) (made : S → ℕ → V)
    → ((s : S) (room : ℕ) → whole (made s room) ≡ s) → (d : DeviceWith V) (x : DeviceChange C) → CanSwapDevice k (with_part whole d) x
    → device_change_after_swap k (with_part whole (room_after_swap k whole room_of made d x)) (device_change_after_swap k (with_part whole d) x) ≡ x
room-restores_change k r whole room_of made h d x can =
    rw (h (device_after_swap k (with_part whole d) x).media (room_of d.media)) (device_change_after_swap-twice k r (with_part whole d) x can)
