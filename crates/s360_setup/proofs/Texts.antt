-- Texts that are written one after another.
use Rattle.std.proofs.Common.{◌≡◌, ◌∙◌, ◌<◌, ℕ, zero, suc, map, List, [], ◌∷◌, ◌++◌, take, drop, length, get_or, Option, ap, sym, subst, refl, arith, ◌+◌, add-one, append_assoc, append-nil, take-append-drop}
use Rattle.std.specs.List.{concat}
use Rattle.std.specs.Io.KnownBytes.{Appends}
use Rattle.s360_text.proofs.Writes.{Appends-join}
use Rattle.s360_setup.specs.Partial.{IsBegun}

-- the texts of items, joined: those before an item, its own, and those after it
concat-at : {X : Type 0} (f : X → List ℕ) (xs : List X) (i : ℕ) (d : X) → i < length xs
    → concat (map f xs) ≡ concat (take i (map f xs)) ++ (f (get_or xs i d) ++ concat (map f (drop (suc i) xs)))
concat-at f [] i d h = absurd (omega arith)
concat-at f (x ∷ xs) zero d h = refl
concat-at f (x ∷ xs) (suc i) d h =
    ap (λ rest. f x ++ rest) (concat-at f xs i d (omega arith)) ∙ sym (append_assoc (f x) (concat (take i (map f xs))) _)

concat-take-suc : {X : Type 0} (f : X → List ℕ) (xs : List X) (i : ℕ) (d : X) → i < length xs
    → concat (take (suc i) (map f xs)) ≡ concat (take i (map f xs)) ++ f (get_or xs i d)
concat-take-suc f [] i d h = absurd (omega arith)
concat-take-suc f (x ∷ xs) zero d h = append-nil (f x)
concat-take-suc f (x ∷ xs) (suc i) d h =
    ap (λ rest. f x ++ rest) (concat-take-suc f xs i d (omega arith)) ∙ sym (append_assoc (f x) (concat (take i (map f xs))) (f (get_or xs i d)))

pub IsBegun-whole : (old new : Option (List ℕ)) (text : List ℕ) → Appends old new text → IsBegun old new text
IsBegun-whole old new text h = record { done = text; left = []; split = sym (append-nil text); written = h }

pub IsBegun-at : (old new : Option (List ℕ)) (text : List ℕ) (n : ℕ) → Appends old new (take n text) → IsBegun old new text
IsBegun-at old new text n h =
    record { done = take n text; left = drop n text; split = sym (take-append-drop n text); written = h }

-- a text of which a first part was written after others
pub IsBegun-later : (old mid new : Option (List ℕ)) (before text after : List ℕ) → Appends old mid before
    → IsBegun mid new text → IsBegun old new (before ++ (text ++ after))
IsBegun-later old mid new before text after h k = record {
  done = before ++ k.done;
  left = k.left ++ after;
  split = ap (λ t. before ++ (t ++ after)) k.split ∙ ap (λ t. before ++ t) (append_assoc k.done k.left after) ∙ sym (append_assoc before k.done (k.left ++ after));
  written = Appends-join old mid new before k.done h k.written;
}

pub IsBegun-more : (old new : Option (List ℕ)) (text after : List ℕ) → IsBegun old new text → IsBegun old new (text ++ after)
IsBegun-more old new text after k = record {
  done = k.done;
  left = k.left ++ after;
  split = ap (λ t. t ++ after) k.split ∙ append_assoc k.done k.left after;
  written = k.written;
}

-- what is written in three parts: a name with what separates it, a text, and its end
begun_with : (name separator after : List ℕ) → (name ++ (separator ++ [])) ++ after ≡ name ++ (separator ++ after)
begun_with name separator after =
    append_assoc name (separator ++ []) after ∙ ap (λ s. name ++ (s ++ after)) (append-nil separator)

pub IsBegun-name : (old new : Option (List ℕ)) (name separator after : List ℕ) → IsBegun old new (name ++ (separator ++ []))
    → IsBegun old new (name ++ (separator ++ after))
IsBegun-name old new name separator after k =
    rw (← begun_with name separator after) (IsBegun-more old new (name ++ (separator ++ [])) after k)

pub IsBegun-named : (old mid new : Option (List ℕ)) (name separator text after : List ℕ) → Appends old mid (name ++ (separator ++ []))
    → IsBegun mid new text → IsBegun old new (name ++ (separator ++ (text ++ after)))
IsBegun-named old mid new name separator text after h k =
    rw (← begun_with name separator (text ++ after)) (IsBegun-later old mid new (name ++ (separator ++ [])) text after h k)

pub IsBegun-ended : (old mid last new : Option (List ℕ)) (name separator text after : List ℕ) → Appends old mid (name ++ (separator ++ []))
    → Appends mid last text → IsBegun last new after → IsBegun old new (name ++ (separator ++ (text ++ after)))
IsBegun-ended old mid last new name separator text after h j k =
    let whole : IsBegun mid new (text ++ after) = subst (λ t. IsBegun mid new (text ++ t)) (append-nil after) (IsBegun-later mid last new text after [] j k) in
    subst (λ t. IsBegun old new (name ++ (separator ++ t))) (append-nil (text ++ after)) (IsBegun-named old mid new name separator (text ++ after) [] h whole)

-- the texts of the first items are written, and then that of the next, or a first part of it
pub Appends-next : {X : Type 0} (f : X → List ℕ) (xs : List X) (i : ℕ) (d : X) (old mid new : Option (List ℕ)) (text : List ℕ) → i < length xs
    → text ≡ f (get_or xs i d) → Appends old mid (concat (take i (map f xs))) → Appends mid new text
    → Appends old new (concat (take (i + 1) (map f xs)))
Appends-next f xs i d old mid new text h is before now =
    rw (add-one, concat-take-suc f xs i d h, ← is) (Appends-join old mid new (concat (take i (map f xs))) text before now)

pub IsBegun-next : {X : Type 0} (f : X → List ℕ) (xs : List X) (i : ℕ) (d : X) (old mid new : Option (List ℕ)) (text : List ℕ) → i < length xs
    → text ≡ f (get_or xs i d) → Appends old mid (concat (take i (map f xs))) → IsBegun mid new text
    → IsBegun old new (concat (map f xs))
IsBegun-next f xs i d old mid new text h is before now =
    rw (concat-at f xs i d h, ← is) (IsBegun-later old mid new (concat (take i (map f xs))) text (concat (map f (drop (suc i) xs))) before now)
