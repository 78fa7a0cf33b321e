-- A packet that is sent is received.
use Rattle.std.proofs.Common.{◌≡◌, ◌<◌, ◌≤◌, ◌+◌, ◌-◌, ◌*◌, ◌/◌, ◌%◌, ◌++◌, ℕ, zero, suc, inl, inr, Some, None, List, [], ◌∷◌, Bool, true, false, cond, not, ◌||◌, refl, ap, ◌∙◌, length, map, nat_lt, nat_eq, replicate, sum, bit_xor, arith, rules, eq-eqb, append_assoc}
use Rattle.std.proofs.lemmas.Bool.{and_parts, cases_lt, eqb-true, le-ltb, lt-ltb}
use Rattle.std.proofs.lemmas.Bool.Decides.{nat_tests}
use Rattle.std.proofs.lemmas.List.{append-nil, length-append, replicate-append-replicate}
use Rattle.std.proofs.lemmas.List.Sums.{fold-append}
use Rattle.std.proofs.lemmas.Str.{digit_value-digit_char}
use Rattle.std.specs.List.{fold, list_all}
use Rattle.std.specs.Char.{digit_char}
use Rattle.s360_packet.specs.Framing.{two_digits, escaped_byte, escaped, framed}
use Rattle.s360_packet.specs.Receiving.{Receiving, with_data, after_byte, received_between, received_at, after_bytes, received_along}
use Rattle.s360_packet.specs.declared.receiver.Stage.TheVariants.{Between, Data}
use Rattle.s360_packet.specs.declared.receiver.Received.{Received}
use Rattle.s360_packet.specs.declared.receiver.Received.TheVariants.{Packet, TooLong}
use Rattle.s360_packet.proofs.DigitLemmas.{digit_read, not_true}
use Rattle.s360_packet.specs.Laws.{IsReadBack, at_the_last}

-- some bytes lead from one state to another, and nothing comes of them
record IsQuiet (from : Receiving) (bytes : List ℕ) (to : Receiving) : Type 0 where
  after : after_bytes from bytes ≡ to
  nothing : received_along from bytes ≡ replicate (length bytes) None

after_bytes-append : (r : Receiving) (xs ys : List ℕ) → after_bytes r (xs ++ ys) ≡ after_bytes (after_bytes r xs) ys
after_bytes-append r [] ys = refl
after_bytes-append r (x ∷ xs) ys = after_bytes-append (after_byte r x) xs ys

received_along-append : (r : Receiving) (xs ys : List ℕ) → received_along r (xs ++ ys) ≡ received_along r xs ++ received_along (after_bytes r xs) ys
received_along-append r [] ys = refl
received_along-append r (x ∷ xs) ys = ap (λ l. received_at r x ∷ l) (received_along-append (after_byte r x) xs ys)

IsQuiet-join : (a b c : Receiving) (xs ys : List ℕ) → IsQuiet a xs b → IsQuiet b ys c → IsQuiet a (xs ++ ys) c
IsQuiet-join a b c xs ys h k = record {
  after = after_bytes-append a xs ys ∙ ap (λ r. after_bytes r ys) h.after ∙ k.after;
  nothing =
      received_along-append a xs ys
      ∙ rw (h.after, h.nothing, k.nothing, length-append xs ys) (replicate-append-replicate (length xs) (length ys) None);
}

-- in the data of a packet
abbrev inside : ℕ → List ℕ → ℕ → Bool → Receiving
inside size bytes total over = record { stage = Data; size = size; bytes = bytes; total = total; overlong = over }

-- a byte of the data, as it is sent
abbrev ByteIsSent : ℕ → List ℕ → ℕ → Bool → ℕ → List ℕ → Type 0
ByteIsSent size bytes total over byte text = IsQuiet (inside size bytes total over) text (with_data (inside size bytes ((total + sum text) % 256) over) byte)

special : (size : ℕ) (bytes : List ℕ) (total : ℕ) (over : Bool) (byte value : ℕ) → nat_eq byte 0x23 ≡ false → nat_eq byte 0x24 ≡ false
    → bit_xor byte 0x20 ≡ value → ByteIsSent size bytes total over value (0x7D ∷ byte ∷ [])
special size bytes total over byte value hash dollar is =
    let same : ((total + 0x7D) % 256 + byte) % 256 ≡ (total + (0x7D + byte)) % 256 = omega arith
    in record {
      after = rw (hash, dollar, is, same) refl;
      nothing = rw (hash, dollar) refl;
    }

plain : (size : ℕ) (bytes : List ℕ) (total : ℕ) (over : Bool) (byte : ℕ) → nat_eq byte 0x23 ≡ false → nat_eq byte 0x24 ≡ false → nat_eq byte 0x7D ≡ false
    → ByteIsSent size bytes total over byte (byte ∷ [])
plain size bytes total over byte hash dollar escape =
    let same : 0 + byte ≡ byte = omega arith
    in record {
      after = rw (hash, dollar, escape, same) refl;
      nothing = rw dollar refl;
    }

one_byte : (size : ℕ) (bytes : List ℕ) (total : ℕ) (over : Bool) (byte : ℕ) → ByteIsSent size bytes total over byte (escaped_byte byte)
one_byte size bytes total over byte =
    let otherwise : nat_eq byte 0x23 ≡ false → nat_eq byte 0x24 ≡ false → nat_eq byte 0x2A ≡ false → (d : Bool) → nat_eq byte 0x7D ≡ d
    → ByteIsSent size bytes total over byte (cond d (0x7D ∷ bit_xor byte 0x20 ∷ []) (byte ∷ []))
    = λ a b c d. elim d as (λ x. nat_eq byte 0x7D ≡ x → ByteIsSent size bytes total over byte (cond x (0x7D ∷ bit_xor byte 0x20 ∷ []) (byte ∷ []))) [
      | true ↦ λ e. rw (eqb-true byte 0x7D e) (special size bytes total over 0x5D 0x7D refl refl refl)
      | false ↦ λ e. plain size bytes total over byte a b e
    ]
    in let not_two : nat_eq byte 0x23 ≡ false → nat_eq byte 0x24 ≡ false → (c : Bool) → nat_eq byte 0x2A ≡ c
    → ByteIsSent size bytes total over byte (cond (c || nat_eq byte 0x7D) (0x7D ∷ bit_xor byte 0x20 ∷ []) (byte ∷ []))
    = λ a b c. elim c as (λ x. nat_eq byte 0x2A ≡ x → ByteIsSent size bytes total over byte (cond (x || nat_eq byte 0x7D) (0x7D ∷ bit_xor byte 0x20 ∷ []) (byte ∷ []))) [
      | true ↦ λ e. rw (eqb-true byte 0x2A e) (special size bytes total over 0x0A 0x2A refl refl refl)
      | false ↦ λ e. otherwise a b e (nat_eq byte 0x7D) refl
    ]
    in let not_three : nat_eq byte 0x23 ≡ false → (b : Bool) → nat_eq byte 0x24 ≡ b
    → ByteIsSent size bytes total over byte (cond (b || nat_eq byte 0x2A || nat_eq byte 0x7D) (0x7D ∷ bit_xor byte 0x20 ∷ []) (byte ∷ []))
    = λ a b. elim b as (λ x. nat_eq byte 0x24 ≡ x → ByteIsSent size bytes total over byte (cond (x || nat_eq byte 0x2A || nat_eq byte 0x7D) (0x7D ∷ bit_xor byte 0x20 ∷ []) (byte ∷ []))) [
      | true ↦ λ e. rw (eqb-true byte 0x24 e) (special size bytes total over 0x04 0x24 refl refl refl)
      | false ↦ λ e. not_two a e (nat_eq byte 0x2A) refl
    ]
    in let any : (a : Bool) → nat_eq byte 0x23 ≡ a
    → ByteIsSent size bytes total over byte (cond (a || nat_eq byte 0x24 || nat_eq byte 0x2A || nat_eq byte 0x7D) (0x7D ∷ bit_xor byte 0x20 ∷ []) (byte ∷ []))
    = λ a. elim a as (λ x. nat_eq byte 0x23 ≡ x → ByteIsSent size bytes total over byte (cond (x || nat_eq byte 0x24 || nat_eq byte 0x2A || nat_eq byte 0x7D) (0x7D ∷ bit_xor byte 0x20 ∷ []) (byte ∷ []))) [
      | true ↦ λ e. rw (eqb-true byte 0x23 e) (special size bytes total over 0x03 0x23 refl refl refl)
      | false ↦ λ e. not_three e (nat_eq byte 0x24) refl
    ]
    in any (nat_eq byte 0x23) refl

sum_from : (a : ℕ) (xs : List ℕ) → fold ◌+◌ a xs ≡ a + sum xs
sum_from a [] = omega arith
sum_from a (x ∷ xs) =
    let one = sum_from (a + x) xs
    in let other = sum_from (0 + x) xs
    in omega (arith, one, other)

sum-append : (xs ys : List ℕ) → sum (xs ++ ys) ≡ sum xs + sum ys
sum-append xs ys = fold-append ◌+◌ 0 xs ys ∙ sum_from (sum xs) ys

-- the sum goes on
totals_join : (total : ℕ) (xs ys : List ℕ) → ((total + sum xs) % 256 + sum ys) % 256 ≡ (total + sum (xs ++ ys)) % 256
totals_join total xs ys = rw sum-append (omega arith)

total_stays : (total : ℕ) → total < 256 → (total + 0) % 256 ≡ total
total_stays total low = omega arith

-- the data, as it is sent, where there is room for it
data_sent : (size : ℕ) (before bytes : List ℕ) (total : ℕ) (over : Bool) → total < 256 → length before + length bytes ≤ size
    → IsQuiet (inside size before total over) (escaped bytes) (inside size (before ++ bytes) ((total + sum (escaped bytes)) % 256) over)
data_sent size before [] total over low room = record { after = rw (total_stays total low, append-nil) refl; nothing = refl }
data_sent size before (byte ∷ bytes) total over low room =
    let next : ℕ = (total + sum (escaped_byte byte)) % 256
    in let fits : nat_lt (length before) size ≡ true = lt-ltb (length before) size (omega arith)
    in let longer : length (before ++ byte ∷ []) + length bytes ≤ size = rw length-append (omega arith)
    in let first : IsQuiet (inside size before total over) (escaped_byte byte) (inside size (before ++ byte ∷ []) next over)
    = rw fits at (one_byte size before total over byte)
    in let rest = data_sent size (before ++ byte ∷ []) bytes next over (omega arith) longer
    in IsQuiet-join _ _ _ (escaped_byte byte) (escaped bytes) first
    (rw (append_assoc before (byte ∷ []) bytes, totals_join total (escaped_byte byte) (escaped bytes)) at rest)

-- a byte for which there is no room
byte_left_out : (size : ℕ) (before : List ℕ) (total : ℕ) (over : Bool) (byte : ℕ) → size ≤ length before
    → IsQuiet (inside size before total over) (escaped_byte byte) (inside size before ((total + sum (escaped_byte byte)) % 256) true)
byte_left_out size before total over byte full =
    let none : nat_lt (length before) size ≡ false = le-ltb (length before) size full
    in rw none at (one_byte size before total over byte)

-- data behind a byte for which there was no room
data_left_out : (size : ℕ) (before bytes : List ℕ) (total : ℕ) → total < 256 → size ≤ length before
    → IsQuiet (inside size before total true) (escaped bytes) (inside size before ((total + sum (escaped bytes)) % 256) true)
data_left_out size before [] total low full = record { after = rw (total_stays total low) refl; nothing = refl }
data_left_out size before (byte ∷ bytes) total low full =
    let next : ℕ = (total + sum (escaped_byte byte)) % 256
    in let rest = data_left_out size before bytes next (omega arith) full
    in IsQuiet-join _ _ _ (escaped_byte byte) (escaped bytes) (byte_left_out size before total true byte full)
    (rw (totals_join total (escaped_byte byte) (escaped bytes)) at rest)

-- data for which there is not room enough: some is kept
abbrev IsLeftOut : ℕ → List ℕ → List ℕ → ℕ → Type 0
IsLeftOut size before bytes total =
    (kept : List ℕ) × IsQuiet (inside size before total false) (escaped bytes) (inside size kept ((total + sum (escaped bytes)) % 256) true)

data_over : (size : ℕ) (before bytes : List ℕ) (total : ℕ) → total < 256 → length before ≤ size → size < length before + length bytes
    → IsLeftOut size before bytes total
data_over size before [] total low room over = absurd (omega arith)
data_over size before (byte ∷ bytes) total low room over =
    let next : ℕ = (total + sum (escaped_byte byte)) % 256
    in elim (cases_lt (length before) size) [
      | inl fits ↦
          let lt : nat_lt (length before) size ≡ true = lt-ltb (length before) size fits
          in let first : IsQuiet (inside size before total false) (escaped_byte byte) (inside size (before ++ byte ∷ []) next false)
          = rw lt at (one_byte size before total false byte)
          in let rest = data_over size (before ++ byte ∷ []) bytes next (omega arith) (rw length-append (omega arith)) (rw length-append (omega arith))
          in (rest.0, IsQuiet-join _ _ _ (escaped_byte byte) (escaped bytes) first (rw (totals_join total (escaped_byte byte) (escaped bytes)) at rest.1))
      | inr full ↦
          let rest = data_left_out size before bytes next (omega arith) full
          in (
            before,
            IsQuiet-join _ _ _ (escaped_byte byte) (escaped bytes) (byte_left_out size before total false byte full)
                (rw (totals_join total (escaped_byte byte) (escaped bytes)) at rest),
          )
    ]

-- the end of a packet: what comes with `#` and the two digits, and the state behind them
no_dollar : (d : ℕ) → d < 16 → nat_eq (digit_char d) 0x24 ≡ false
no_dollar d low = search (rules, nat_tests)

read_again : (total : ℕ) → nat_eq (total / 16 * 16 + total % 16) total ≡ true
read_again total = eq-eqb (total / 16 * 16 + total % 16) total (omega arith)

abbrev whole_or : Bool → Received
whole_or over = cond over TooLong Packet

packet_end : (size : ℕ) (bytes : List ℕ) (total : ℕ) (over : Bool) → total < 256
    → received_along (inside size bytes total over) (0x23 ∷ two_digits total) ≡ None ∷ None ∷ Some (whole_or over) ∷ []
packet_end size bytes total over low =
    let high : total / 16 < 16 = omega arith
    in let rest : total % 16 < 16 = omega arith
    in rw (
      no_dollar (total / 16) high,
      digit_read (total / 16) high,
      digit_value-digit_char (total / 16) (omega arith),
      no_dollar (total % 16) rest,
      digit_read (total % 16) rest,
      digit_value-digit_char (total % 16) (omega arith),
      read_again total,
    ) refl

after_end : (size : ℕ) (bytes : List ℕ) (total : ℕ) (over : Bool) → total < 256
    → after_bytes (inside size bytes total over) (0x23 ∷ two_digits total) ≡ record (inside size bytes total over) { stage = Between }
after_end size bytes total over low =
    let high : total / 16 < 16 = omega arith
    in let rest : total % 16 < 16 = omega arith
    in rw (no_dollar (total / 16) high, digit_read (total / 16) high, no_dollar (total % 16) rest) refl

none_till : (came : Received) (n : ℕ) → None ∷ (replicate n None ++ None ∷ None ∷ Some came ∷ []) ≡ replicate (n + 3) None ++ Some came ∷ []
none_till came zero = refl
none_till came (suc n) =
    let next : suc n + 3 ≡ suc (n + 3) = omega arith
    in rw next (ap (λ l. None ∷ l) (none_till came n))

-- what comes with a packet whose data leaves this state
packet_comes : (r : Receiving) (bytes kept : List ℕ) (over : Bool)
    → IsQuiet (inside r.size [] 0 false) (escaped bytes) (inside r.size kept ((0 + sum (escaped bytes)) % 256) over)
    → received_along r (framed bytes) ≡ at_the_last (whole_or over) (length (framed bytes))
packet_comes r bytes kept over quiet =
    let total : ℕ = sum (escaped bytes) % 256
    in let start : 0 + sum (escaped bytes) ≡ sum (escaped bytes) = omega arith
    in let sent : IsQuiet (inside r.size [] 0 false) (escaped bytes) (inside r.size kept total over) = rw start at quiet
    in let ending = packet_end r.size kept total over (omega arith)
    in let came : received_along r (framed bytes) ≡ None ∷ (replicate (length (escaped bytes)) None ++ None ∷ None ∷ Some (whole_or over) ∷ [])
    = ap (λ l. None ∷ l) (received_along-append (inside r.size [] 0 false) (escaped bytes) (0x23 ∷ two_digits total) ∙ rw (sent.nothing, sent.after, ending) refl)
    in let count : length (escaped bytes) + 3 ≡ length (framed bytes) - 1 = simp length-append (omega arith)
    in came ∙ none_till (whole_or over) (length (escaped bytes)) ∙ ap (λ n. replicate n None ++ Some (whole_or over) ∷ []) count

pub packet_read_back : (r : Receiving) (bytes : List ℕ) → length bytes ≤ r.size → IsReadBack r bytes
packet_read_back r bytes room =
    let total : ℕ = sum (escaped bytes) % 256
    in let last : List ℕ = 0x23 ∷ two_digits total
    in let start : 0 + sum (escaped bytes) ≡ sum (escaped bytes) = omega arith
    in let quiet = data_sent r.size [] bytes 0 false (omega arith) (omega arith)
    in let sent : IsQuiet (inside r.size [] 0 false) (escaped bytes) (inside r.size bytes total false) = rw start at quiet
    in let state : after_bytes r (framed bytes) ≡ record (inside r.size bytes total false) { stage = Between }
    = after_bytes-append (inside r.size [] 0 false) (escaped bytes) last ∙ ap (λ q. after_bytes q last) sent.after ∙ after_end r.size bytes total false (omega arith)
    in record {
      received = packet_comes r bytes bytes false quiet;
      same = ap (λ (q : Receiving). q.bytes) state;
      between = ap (λ (q : Receiving). q.stage) state;
    }

pub packet_too_long : (r : Receiving) (bytes : List ℕ) → r.size < length bytes → received_along r (framed bytes) ≡ at_the_last TooLong (length (framed bytes))
packet_too_long r bytes over =
    let found = data_over r.size [] bytes 0 (omega arith) (omega arith) (omega arith)
    in packet_comes r bytes found.0 true found.1

pub between_dropped : (r : Receiving) (bytes : List ℕ) → r.stage ≡ Between → list_all (λ byte. not (nat_eq byte 0x24)) bytes ≡ true
    → (after_bytes r bytes ≡ r) × (received_along r bytes ≡ map received_between bytes)
between_dropped r [] between none = (refl, refl)
between_dropped r (byte ∷ bytes) between none =
    let parts = and_parts (not (nat_eq byte 0x24)) (list_all (λ b. not (nat_eq b 0x24)) bytes) none
    in let other : nat_eq byte 0x24 ≡ false = not_true (nat_eq byte 0x24) parts.0
    in let same : after_byte r byte ≡ r = rw (other, between) refl
    in let only : received_at r byte ≡ received_between byte = rw (other, between) refl
    in let rest = between_dropped r bytes between parts.1
    in (ap (λ q. after_bytes q bytes) same ∙ rest.0, rw (only, same, rest.1) refl)
