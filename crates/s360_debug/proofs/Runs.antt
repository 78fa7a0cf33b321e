-- The lines of a script that are answered so far.
use Rattle.std.proofs.Common.{◌≡◌, ◌≤◌, ◌+◌, ◌++◌, ◌∷◌, [], ℕ, List, refl, sym, ap, ◌∙◌, Option, Some, None, Bool, true, false, nat_eq, length, append_assoc, add_assoc, arith, if◌then◌else◌, IfSome, append-nil, length-append}
use Rattle.std.specs.Io.KnownBytes.{Appends}
use Rattle.s360_journal.specs.Recorded.{Recorded}
use Rattle.s360_language.specs.Reading.{reading_of}
use Rattle.s360_debug.specs.Debugger.{Debugger}
use Rattle.s360_debug.specs.Lines.{lines_from, lines_of, is_skipped, without_return}
use Rattle.s360_debug.specs.Script.{answer_to_reading, state_after_reading, answer_to_line, state_after_line, answers_to_lines, state_after_lines, command_lines, StandsAfterReading, IsStopped, IsCut, WasCut, AreCarriedOut}
use Rattle.s360_text.specs.Writing.{IsPartWritten}
use Rattle.s360_text.proofs.Writes.{Appends-join, Appends-nothing}
use Rattle.s360_debug.proofs.Readings.{unmoved}

answers-push : (s : Debugger) (ls : List (List ℕ)) (l : List ℕ) → answers_to_lines s (ls ++ l ∷ []) ≡ answers_to_lines s ls ++ answer_to_line (state_after_lines s ls) l
answers-push s [] l = append-nil (answer_to_line s l)
answers-push s (k ∷ ls) l = ap (λ x. answer_to_line s k ++ x) (answers-push (state_after_line s k) ls l) ∙ sym (append_assoc (answer_to_line s k) _ _)

state-push : (s : Debugger) (ls : List (List ℕ)) (l : List ℕ) → state_after_lines s (ls ++ l ∷ []) ≡ state_after_line (state_after_lines s ls) l
state-push s [] l = refl
state-push s (k ∷ ls) l = state-push (state_after_line s k) ls l

abbrev counted : List ℕ → ℕ
counted l = if is_skipped l then 0 else 1

count-push : (ls : List (List ℕ)) (l : List ℕ) → command_lines (ls ++ l ∷ []) ≡ command_lines ls + counted l
count-push [] l = omega arith
count-push (k ∷ ls) l = ap (λ n. counted k + n) (count-push ls l) ∙ sym (add_assoc (counted k) (command_lines ls) (counted l))

pub record Answered (old new : Option (List ℕ)) (s t : Debugger) (all left : List (List ℕ)) (count : ℕ) : Type 0 where
  pub done : List (List ℕ)
  pub split : all ≡ done ++ left
  pub written : Appends old new (answers_to_lines s done)
  pub state : t ≡ state_after_lines s done
  pub number : count ≡ command_lines done

pub Answered-start : (old : Option (List ℕ)) (s : Debugger) (all : List (List ℕ)) → Answered old old s s all all 0
Answered-start old s all = record {
  done = [];
  split = refl;
  written = Appends-nothing old;
  state = refl;
  number = refl;
}

-- a line more, of which this much is written
Answered-line : (old mid new : Option (List ℕ)) (s t u : Debugger) (all left : List (List ℕ)) (line : List ℕ) (n m : ℕ)
    → Answered old mid s t all (line ∷ left) n → Appends mid new (answer_to_line t line) → u ≡ state_after_line t line → m ≡ n + counted line
    → Answered old new s u all left m
Answered-line old mid new s t u all left line n m a w e k = record {
  done = a.done ++ line ∷ [];
  split = a.split ∙ sym (append_assoc a.done (line ∷ []) left);
  written = rw (answers-push s a.done line) (Appends-join old mid new _ _ a.written (rw a.state at w));
  state = e ∙ ap (λ v. state_after_line v line) a.state ∙ sym (state-push s a.done line);
  number = k ∙ ap (λ v. v + counted line) a.number ∙ sym (count-push a.done line);
}

pub Answered-skip : (old mid : Option (List ℕ)) (s t : Debugger) (all left : List (List ℕ)) (line : List ℕ) (n : ℕ)
    → Answered old mid s t all (line ∷ left) n → is_skipped line ≡ true → Answered old mid s t all left n
unfolding answer_to_line state_after_line
Answered-skip old mid s t all left line n a h =
    Answered-line old mid mid s t t all left line n n a (rw h (Appends-nothing mid)) (rw h refl) (rw h (omega arith))

pub Answered-more : (old mid new : Option (List ℕ)) (s t u : Debugger) (all left : List (List ℕ)) (line : List ℕ) (n : ℕ)
    → Answered old mid s t all (line ∷ left) n → is_skipped line ≡ false → Appends mid new (answer_to_reading t (reading_of line))
    → u ≡ state_after_reading t (reading_of line) → Answered old new s u all left (n + 1)
unfolding answer_to_line state_after_line
Answered-more old mid new s t u all left line n a h w e =
    Answered-line old mid new s t u all left line n (n + 1) a (rw h w) (rw h e) (rw h refl)

pub Answered-stop : (old new : Option (List ℕ)) (s t : Debugger) (u : Recorded) (all left : List (List ℕ)) (line : List ℕ) (n : ℕ)
    → Answered old new s t all (line ∷ left) n → StandsAfterReading (reading_of line) t u → IsStopped old new s u all
Answered-stop old new s t u all left line n a h = record {
  done = a.done;
  next = line;
  left = left;
  split = a.split;
  written = a.written;
  stands = rw a.state at h;
}

-- a write of the last line's answer failed
pub Answered-cut : (old mid new : Option (List ℕ)) (s t : Debugger) (u : Debugger) (all left : List (List ℕ)) (line : List ℕ) (n : ℕ)
    → Answered old mid s t all (line ∷ left) n → is_skipped line ≡ false → IsPartWritten mid new (answer_to_reading t (reading_of line))
    → u ≡ state_after_reading t (reading_of line) → IsCut old new s u.session all
unfolding answer_to_line state_after_line
Answered-cut old mid new s t u all left line n a h w e = record {
  done = a.done;
  next = line;
  left = left;
  split = a.split;
  count = w.count;
  short = rw (← a.state, h) w.short;
  written = rw (← a.state, h) (Appends-join old mid new _ _ a.written w.written);
  stands = rw (state-push s a.done line, ← a.state, h) (ap (λ (v : Debugger). v.session) e);
}

-- all lines are answered
pub Answered-all : (old new : Option (List ℕ)) (s t : Debugger) (all : List (List ℕ)) (n : ℕ)
    → Answered old new s t all [] n → (Appends old new (answers_to_lines s all)) × (t ≡ state_after_lines s all) × (n ≡ command_lines all)
Answered-all old new s t all n a =
    let whole : all ≡ a.done = a.split ∙ append-nil a.done
    in rw whole (a.written, a.state, a.number)

-- there are at most as many command lines as bytes, and one
one_more : (b : Bool) (n m : ℕ) → n ≤ m → (if b then 0 else 1) + n ≤ m + 1
one_more true n m h = omega (arith, h)
one_more false n m h = omega (arith, h)

command_lines-bound : (ls : List (List ℕ)) → command_lines ls ≤ length ls
command_lines-bound [] = omega arith
command_lines-bound (l ∷ ls) = omega (arith, one_more (is_skipped l) (command_lines ls) (length ls) (command_lines-bound ls))

either_line : (b : Bool) (l : List ℕ) (ls ks : List (List ℕ)) (n : ℕ) → length ls ≤ n → length ks ≤ n → length (if b then l ∷ ls else ks) ≤ n + 1
either_line true l ls ks n h k = omega (arith, h)
either_line false l ls ks n h k = omega (arith, k)

lines_from-bound : (l xs : List ℕ) → length (lines_from l xs) ≤ length xs + 1
lines_from-bound l [] = omega arith
lines_from-bound l (x ∷ xs) =
    omega (arith, either_line (nat_eq x 10) (without_return l) (lines_from [] xs) (lines_from (l ++ x ∷ []) xs) (length xs + 1) (lines_from-bound [] xs) (lines_from-bound (l ++ x ∷ []) xs))

pub Answered-bound : (old new : Option (List ℕ)) (s t : Debugger) (text : List ℕ) (left : List (List ℕ)) (n : ℕ)
    → Answered old new s t (lines_of text) left n → n + length left ≤ length text + 1
Answered-bound old new s t text left n a =
    omega (arith, a.number, command_lines-bound a.done, ap length a.split, length-append a.done left, lines_from-bound [] text)

-- a script has a first line
record HasFirst (ls : List (List ℕ)) : Type 0 where
  next : List ℕ
  left : List (List ℕ)
  split : ls ≡ next ∷ left

either_first : (b : Bool) (l : List ℕ) (ls ks : List (List ℕ)) → HasFirst ks → HasFirst (if b then l ∷ ls else ks)
either_first true l ls ks h = record { next = l; left = ls; split = refl }
either_first false l ls ks h = h

has_first : (begun xs : List ℕ) → HasFirst (lines_from begun xs)
has_first begun [] = record { next = begun; left = []; split = refl }
has_first begun (x ∷ xs) =
    either_first (nat_eq x 10) (without_return begun) (lines_from [] xs) (lines_from (begun ++ x ∷ []) xs) (has_first (begun ++ x ∷ []) xs)

-- a script that is not yet read has stopped before its first line
pub IsStopped-unread : (old remaining : Option (List ℕ)) (d : Debugger) → IfSome remaining (λ text. IsStopped old old d d.session (lines_of text))
IsStopped-unread old None d = tt
IsStopped-unread old (Some text) d =
    let first : HasFirst (lines_of text) = has_first [] text
    in record {
      done = [];
      next = first.next;
      left = first.left;
      split = first.split;
      written = Appends-nothing old;
      stands = unmoved (reading_of first.next) d;
    }

pub AreCarriedOut-cut : (old new remaining : Option (List ℕ)) (r t : Recorded)
    → WasCut remaining old new r t → IfSome remaining (λ text. AreCarriedOut r t text)
AreCarriedOut-cut old new None r t h = tt
AreCarriedOut-cut old new (Some text) r t h = record {
  done = h.done ++ h.next ∷ [];
  left = h.left;
  split = h.split ∙ sym (append_assoc h.done (h.next ∷ []) h.left);
  stands = h.stands;
}
