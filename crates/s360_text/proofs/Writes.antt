-- Writes one after another.
use Rattle.std.proofs.Common.{◌+◌, ◌++◌, ℕ, List, [], sym, ap, ◌∙◌, take, drop, Option, Some, None, take-add, append_assoc, append-nil}
use Rattle.std.specs.Io.KnownBytes.{Appends}

pub Appends-join : (old mid new : Option (List ℕ)) (xs ys : List ℕ) → Appends old mid xs → Appends mid new ys → Appends old new (xs ++ ys)
Appends-join None mid new xs ys h k = tt
Appends-join (Some x) None new xs ys h k = absurd h
Appends-join (Some x) (Some y) None xs ys h k = absurd k
Appends-join (Some x) (Some y) (Some z) xs ys h k = k ∙ ap (λ l. l ++ ys) h ∙ append_assoc x xs ys

pub Appends-more : (old mid new : Option (List ℕ)) (xs : List ℕ) (a n : ℕ) → Appends old mid (take a xs) → Appends mid new (take n (drop a xs)) → Appends old new (take (a + n) xs)
Appends-more old mid new xs a n h k = rw (take-add a n xs) (Appends-join old mid new (take a xs) (take n (drop a xs)) h k)

pub Appends-nothing : (old : Option (List ℕ)) → Appends old old []
Appends-nothing None = tt
Appends-nothing (Some x) = sym (append-nil x)
