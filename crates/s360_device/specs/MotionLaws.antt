-- A motion and what takes it back (kept).
use Rattle.std.proofs.Common.{◌≡◌, ◌<◌, ◌+◌, ◌-◌, ◌++◌, ◌∷◌, ℕ, List, [], length, take, refl, arith, length-append}
use Rattle.std.specs.Prelude.{slice_get, Some, get_or}
use Rattle.std.proofs.lemmas.List.{take_at, get_or_at, take_more, take_all}
use Rattle.std.proofs.lemmas.Option.{slice_get-get_or}
use Rattle.s360_device.specs.declared.motion.Motion.{Motion}
use Rattle.s360_device.specs.declared.motion.Motion.TheVariants.{Stay, Put, Take}
use Rattle.s360_device.specs.Kinds.{RestoresBoth}
use Rattle.s360_device.specs.Motions.{CanMove, after_motion, motion_back, motion_kind}
use Rattle.s360_device.specs.Rows.{Table}

-- the last item of a list at whose end one was put
pub slice_get-push : {T : Type 0} (items : List T) (x : T) → slice_get (items ++ x ∷ []) (length (items ++ x ∷ []) - 1) ≡ Some x
slice_get-push items x =
    let k : length items ≡ length (items ++ x ∷ []) - 1 = omega (arith, length-append items (x ∷ []))
    in rw (slice_get-get_or (items ++ x ∷ []) (length (items ++ x ∷ []) - 1) x (omega (arith, length-append items (x ∷ []))))
    (rw (get_or_at items x [] x (length (items ++ x ∷ []) - 1) k) refl)

-- and the others
pub take-push : {T : Type 0} (items : List T) (x : T) → take (length (items ++ x ∷ []) - 1) (items ++ x ∷ []) ≡ items
take-push items x =
    let k : length items ≡ length (items ++ x ∷ []) - 1 = omega (arith, length-append items (x ∷ []))
    in take_at items (x ∷ []) (length (items ++ x ∷ []) - 1) k

-- a list that has a last item is the others with it
pub record HasLast {T : Type 0} (items : List T) : Type 0 where
  pub item : T
  pub last : slice_get items (length items - 1) ≡ Some item
  pub whole : take (length items - 1) items ++ item ∷ [] ≡ items

pub last_of : {T : Type 0} (items : List T) → 0 < length items → HasLast items
last_of [] h = absurd (omega arith)
last_of (x ∷ xs) h =
    let items = x ∷ xs
    in let n : ℕ = length items - 1
    in let l : n < length items = omega arith
    in let k : n + 1 ≡ length items = omega arith
    in let e : slice_get items n ≡ Some (get_or items n x) = slice_get-get_or items n x l
    in let whole : take (n + 1) items ≡ items = rw k (take_all (length items) items (omega arith))
    in record { item = get_or items n x; last = e; whole = rw (← take_more items n x l) whole }

pub CanMove-again : {T : Type 0} (items : List T) (m : Motion T) → CanMove items m → CanMove (after_motion items m) (motion_back items m)
CanMove-again items Stay h = tt
CanMove-again items (Put x) h = omega (arith, length-append items (x ∷ []))
CanMove-again items Take h = let l : HasLast items = last_of items h in rw l.last tt

pub after_motion-twice : {T : Type 0} (items : List T) (m : Motion T) → CanMove items m → after_motion (after_motion items m) (motion_back items m) ≡ items
after_motion-twice items Stay h = refl
after_motion-twice items (Put x) h = take-push items x
after_motion-twice items Take h = let l : HasLast items = last_of items h in rw l.last l.whole

pub motion_back-twice : {T : Type 0} (items : List T) (m : Motion T) → CanMove items m → motion_back (after_motion items m) (motion_back items m) ≡ m
motion_back-twice items Stay h = refl
motion_back-twice items (Put x) h = rw (slice_get-push items x) refl
motion_back-twice items Take h = let l : HasLast items = last_of items h in rw l.last refl

pub motion_restores_both : {T : Type 0} (table : Table (List T)) → RestoresBoth (motion_kind table)
motion_restores_both table = record { again = CanMove-again; media = after_motion-twice; change = motion_back-twice }
