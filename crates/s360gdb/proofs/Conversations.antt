-- A conversation goes on.
use Rattle.std.proofs.Common.{◌≡◌, ◌≢◌, ◌∙◌, ◌≤◌, ◌<◌, ◌+◌, ap, sym, subst, refl, arith, ℕ, false, List, [], ◌∷◌, ◌++◌, length, take, get_or, inl, inr, zero, suc, Option, append_assoc}
use Rattle.std.proofs.lemmas.List.{append-nil, length-append, length-take-le, take_more}
use Rattle.std.specs.Io.KnownBytes.{Appends, Consumes, IsAtEnd}
use Rattle.std.proofs.KnownBytes.{Consumes-nil, Consumes-trans}
use Rattle.s360_text.proofs.Writes.{Appends-join, Appends-nothing}
use Rattle.s360_remote.specs.Connecting.{Connected, IsTaken, new_connection}
use Rattle.s360_remote.specs.Driven.{Driven}
use Rattle.s360_remote.specs.declared.errand.Errand.{Errand}
use Rattle.s360gdb.specs.Conversation.{IsConversation, IsServed, IsServedWhole, IsTalk, Talking, talking}
use Rattle.s360gdb.specs.Saving.{Runs, Known}

pub IsConversation-join : {F : Type 0} (contents : F → Option (List ℕ)) (xs ys : List ℕ) (s u t : Talking) (answers more : List ℕ)
    → IsConversation contents xs s u answers → IsConversation contents ys u t more → IsConversation contents (xs ++ ys) s t (answers ++ more)
IsConversation-join contents [] ys s u t answers more h k =
    subst (λ a. IsConversation contents ys s t (a ++ more)) (sym h.1) (subst (λ v. IsConversation contents ys v t more) h.0 k)
IsConversation-join contents (x ∷ xs) ys s u t answers more (mid, first, rest, talk, h, is) k =
    (mid, first, rest ++ more, talk, IsConversation-join contents xs ys mid u t rest more h k, ap (λ a. a ++ more) is ∙ append_assoc first rest more)

-- a byte more
pub IsConversation-more : {F : Type 0} (contents : F → Option (List ℕ)) (xs : List ℕ) (x : ℕ) (s u t : Talking) (answers more : List ℕ)
    → IsConversation contents xs s u answers → IsTalk contents x u t more → IsConversation contents (xs ++ x ∷ []) s t (answers ++ more)
IsConversation-more contents xs x s u t answers more h talk =
    IsConversation-join contents xs (x ∷ []) s u t answers more h (t, more, [], talk, (refl, refl), sym (append-nil more))

pub IsServed-none : {F : Type 0} (contents : F → Option (List ℕ)) (old : Option (List ℕ)) (d : Driven) (k : Known) (silent : Option (List ℕ))
    → IsServed contents old old (talking new_connection d k) (talking new_connection d k) silent silent
IsServed-none contents old d k silent = record {
  before = [];
  last = [];
  mid = talking new_connection d k;
  first = [];
  rest = [];
  read = Consumes-nil old;
  few = omega arith;
  begun = (refl, refl);
  stays = refl;
  ended = (refl, refl);
  written = Appends-nothing silent;
}

-- one read more
IsServed-more : {F : Type 0} (contents : F → Option (List ℕ)) (old mid new : Option (List ℕ)) (s u t : Talking) (silent some answered : Option (List ℕ)) (bytes answers : List ℕ)
    → (v : IsServed contents old mid s u silent some) → u.connection.ended ≡ false → Consumes mid new bytes → length bytes ≤ 4096 → IsConversation contents bytes u t answers
    → Appends some answered answers → (w : IsServed contents old new s t silent answered) × ((w.before ++ w.last) ≡ (v.before ++ v.last) ++ bytes)
IsServed-more contents old mid new s u t silent some answered bytes answers v stays read few talk written = (
  record {
    before = v.before ++ v.last;
    last = bytes;
    mid = u;
    first = v.first ++ v.rest;
    rest = answers;
    read = Consumes-trans old mid new (v.before ++ v.last) bytes v.read read;
    few = few;
    begun = IsConversation-join contents v.before v.last s v.mid u v.first v.rest v.begun v.ended;
    stays = stays;
    ended = talk;
    written = Appends-join silent some answered (v.first ++ v.rest) answers v.written written;
  },
  refl,
)

as_many : {F : Type 0} (contents : F → Option (List ℕ)) (old new : Option (List ℕ)) (s t : Talking) (silent answered : Option (List ℕ)) (i : ℕ) (bytes : List ℕ)
    → ((v : IsServed contents old new s t silent answered) × ((v.before ++ v.last) ≡ bytes)) → i ≤ length bytes
    → (v : IsServed contents old new s t silent answered) × (i ≤ length (v.before ++ v.last))
as_many contents old new s t silent answered i bytes (v, same) h = (v, subst (λ b. i ≤ length b) (sym same) h)

-- the next of several bytes
pub IsConversation-next : {F : Type 0} (contents : F → Option (List ℕ)) (xs : List ℕ) (i z : ℕ) (c : Connected) (d : Driven) (k : Known) (f : Connected) (u : Driven) (l : Known) (e : Connected) (t : Driven) (m : Known) (errand : Errand) (old now mid new : List ℕ)
    → i < length xs
    → ((answers : List ℕ) × IsConversation contents (take i xs) (talking c d k) (talking f u l) answers × (now ≡ old ++ answers))
    → ((first : List ℕ) × IsTaken f.ended (get_or xs i z) f u e t errand first × (mid ≡ now ++ first))
    → ((second : List ℕ) × Runs contents errand l m second × (new ≡ mid ++ second))
    → (answers : List ℕ) × IsConversation contents (take (i + 1) xs) (talking c d k) (talking e t m) answers × (new ≡ old ++ answers)
IsConversation-next contents xs i z c d k f u l e t m errand old now mid new h (answers, talk, is) (first, taken, said) (second, run, next) = (
  answers ++ (first ++ second),
  rw (take_more xs i z h)
      (IsConversation-more contents (take i xs) (get_or xs i z) (talking c d k) (talking f u l) (talking e t m)
      answers (first ++ second) talk (errand, first, second, taken, run, refl)),
  next
      ∙ ap (λ a. a ++ second) said
      ∙ append_assoc now first second
      ∙ ap (λ a. a ++ (first ++ second)) is
      ∙ append_assoc old answers (first ++ second),
)

positive : (n : ℕ) → n ≢ 0 → 0 < n
positive zero h = absurd (h refl)
positive (suc n) h = omega arith

-- a read of some bytes more, whose answers are written
pub served_next : {F : Type 0} (contents : F → Option (List ℕ)) (old mid new : Option (List ℕ)) (s u t : Talking) (silent some answered : Option (List ℕ)) (i n : ℕ) (buffer replies now : List ℕ)
    → ((v : IsServed contents old mid s u silent some) × (i ≤ length (v.before ++ v.last))) → replies ≡ [] → u.connection.ended ≡ false
    → Consumes mid new (take n buffer) → n ≢ 0 → n ≤ length buffer → length buffer ≤ 4096
    → ((answers : List ℕ) × IsConversation contents (take n buffer) u t answers × (now ≡ replies ++ answers)) → Appends some answered now
    → (v : IsServed contents old new s t silent answered) × (i + 1 ≤ length (v.before ++ v.last))
served_next contents old mid new s u t silent some answered i n buffer replies now (v, bound) none stays read any inside size (answers, talk, is) written =
    let count : length (take n buffer) ≡ n = length-take-le n buffer inside in
    let said : now ≡ answers = is ∙ ap (λ r. r ++ answers) none in
    let all : length ((v.before ++ v.last) ++ take n buffer) ≡ length (v.before ++ v.last) + length (take n buffer) = length-append (v.before ++ v.last) (take n buffer) in
    let more : 0 < n = positive n any in
    as_many contents old new s t silent answered (i + 1) ((v.before ++ v.last) ++ take n buffer)
    (IsServed-more contents old mid new s u t silent some answered (take n buffer) answers v stays read (omega (arith, count, inside, size)) talk (subst (λ a. Appends some answered a) said written))
    (omega (arith, all, count, more, bound))

-- nothing more is there
IsServed-end : {F : Type 0} (contents : F → Option (List ℕ)) (old mid new : Option (List ℕ)) (s t : Talking) (silent answered : Option (List ℕ))
    → IsServed contents old mid s t silent answered → Consumes mid new [] → IsServed contents old new s t silent answered
IsServed-end contents old mid new s t silent answered v read = record {
  before = v.before;
  last = v.last;
  mid = v.mid;
  first = v.first;
  rest = v.rest;
  read = subst (λ bytes. Consumes old new bytes) (append-nil (v.before ++ v.last)) (Consumes-trans old mid new (v.before ++ v.last) [] v.read read);
  few = v.few;
  begun = v.begun;
  stays = v.stays;
  ended = v.ended;
  written = v.written;
}

pub served_whole-at_end : {F : Type 0} (contents : F → Option (List ℕ)) (old mid new : Option (List ℕ)) (d : Driven) (k : Known) (e : Connected) (t : Driven) (m : Known) (silent answered : Option (List ℕ)) (n : ℕ) (buffer : List ℕ)
    → IsServed contents old mid (talking new_connection d k) (talking e t m) silent answered
    → n ≡ 0 → Consumes mid new (take n buffer) → (n ≡ 0 → 0 < length buffer → IsAtEnd new) → 0 < length buffer
    → IsServedWhole contents old new d k t m silent answered
served_whole-at_end contents old mid new d k e t m silent answered n buffer v none read ends some = (
  e,
  IsServed-end contents old mid new (talking new_connection d k) (talking e t m) silent answered v
      (subst (λ j. Consumes mid new (take j buffer)) none read),
  inr (inl (ends none some)),
)
