-- A kind of media: how they are seen, the rows of their commands, and their exchange with a change, which the same
-- exchange done again takes back (kept).
use Rattle.std.specs.Prelude.{◌≡◌, ◌-◌, ℕ, Option, IfSome, Vec, vec_capacity, vec_len}
use Rattle.s360_model.specs.Exchanges.{CanIfAny, after_if_any, back_if_any, need_if_any}
use Rattle.s360_device.specs.Rows.{Table}

-- S are the media with what they keep out of sight, M what is seen of them, C their changes
pub record Kind (S M C : Type 0) : Type 1 where
  pub see : S → M
  pub table : Table M
  -- the exchange can be made, and what both are afterwards
  pub can : S → C → Type 0
  pub after : S → C → S
  pub back : S → C → C
  -- the number of items, such as cards, for which a change needs room
  pub needs : C → ℕ

-- the exchange can be made again, which restores the media and the change
pub record RestoresBoth {S M C : Type 0} (k : Kind S M C) : Type 0 where
  pub again : (s : S) (x : C) → k.can s x → k.can (k.after s x) (k.back s x)
  pub media : (s : S) (x : C) → k.can s x → k.after (k.after s x) (k.back s x) ≡ s
  pub change : (s : S) (x : C) → k.can s x → k.back (k.after s x) (k.back s x) ≡ x

-- a change that may be there makes media of which these are seen, is there just where they were others, and wants no
-- room to be taken back
pub record MakesMedia {S M C : Type 0} (k : Kind S M C) (s : S) (n : M) (x : Option C) : Type 0 where
  pub can : CanIfAny k.can s x
  pub makes : k.see (after_if_any k.after s x) ≡ n
  pub back : need_if_any k.needs (back_if_any k.back s x) ≡ 0
  pub alters : IfSome x (λ c. k.see s ≡ n → ⊥)

-- media with the number beside them of items, such as cards, for which room was made in them
pub record MediaWithRoom (S : Type 0) : Type 0 where
  pub media : S
  pub room : ℕ

-- for so many items more a list has memory
abbrev pub room_in : {T A : Type 0} → Vec T A → ℕ
room_in items = vec_capacity items - vec_len items
