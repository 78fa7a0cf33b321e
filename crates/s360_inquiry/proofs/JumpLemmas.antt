-- The line of a jump, which is told a part at a time.
use Rattle.std.proofs.Common.{◌≡◌, ◌-◌, ◌++◌, ℕ, List, [], append_assoc, Option, Some, ap, ◌∙◌, sym, min, length, codes}
use Rattle.std.proofs.lemmas.List.{take_min}
use Rattle.std.specs.Option.{option_map}
use Rattle.s360_model.specs.Psw.{condition_code_of, instruction_address_of}
use Rattle.s360_machine.specs.declared.event.Event.{Event}
use Rattle.s360_machine.specs.Machine.{Machine, seen}
use Rattle.s360_journal.specs.Rerun.{or_else, rerun}
use Rattle.s360_journal.specs.Standing.{machine_of}
use Rattle.s360_journal.specs.Recorded.{Recorded, session_of, with_standing}
use Rattle.s360_inquiry.specs.Changes.{just_before, machine_after, words_of_change}
use Rattle.s360_inquiry.specs.declared.jump.Jump.{Jump}
use Rattle.s360_inquiry.specs.declared.search.Sought.TheVariants.{CodeSettings}
use Rattle.s360_inquiry.specs.CodeSettings.{setter_in, sets_code}
use Rattle.s360_inquiry.specs.Interruptions.{exception_words, interruption_line, interruption_words}
use Rattle.s360_inquiry.specs.Jumps.{decided_words, jump_line, jump_of_change, jump_words, led_if, led_words, line_if_jump}
use Rattle.s360_inquiry.specs.Searches.{last_up_to}
use Rattle.s360_inquiry.specs.Sought.{is_sought}
use Rattle.s360_language.proofs.ShownLemmas.{pushed}

-- the machine of a recording that went to a change, or to the end if there is no such change
pub machine-there : (r x : Recorded) (number : ℕ) (m : Machine) → x ≡ with_standing r (min number (length r.events)) → m ≡ machine_of (session_of x)
    → m ≡ machine_after r number
machine-there r x number m gone is =
    is ∙ ap (λ (y : Recorded). machine_of (session_of y)) gone ∙ ap (λ (es : List Event). rerun (seen r.start) es) (take_min number r.events)

-- and of one that went on from just before a change
pub gone-on : (r x y : Recorded) (number : ℕ) → x ≡ just_before r number → y ≡ with_standing x (min number (length x.events))
    → y ≡ with_standing r (min number (length r.events))
gone-on r x y number before on = on ∙ ap (λ (z : Recorded). with_standing z (min number (length z.events))) before

-- the event of a jump and where it led
pub led-told : (r : Recorded) (number at : ℕ) (jump : Jump) (begun old words first second third : List ℕ) → Some jump ≡ jump_of_change r number
    → words ≡ words_of_change r number → at ≡ instruction_address_of (machine_after r number).core.psw
    → first ≡ old ++ begun → second ≡ first ++ words → third ≡ second ++ jump_words jump at → third ≡ old ++ led_if begun r number (jump_of_change r number)
led-told r number at jump begun old words first second third is event leads begin named more =
    more
    ∙ ap (λ (t : List ℕ). t ++ jump_words jump at) (named ∙ ap (λ (t : List ℕ). t ++ words) begin)
    ∙ append_assoc (old ++ begun) words (jump_words jump at)
    ∙ append_assoc old begun (words ++ jump_words jump at)
    ∙ ap (λ (t : List ℕ). old ++ (begun ++ (t ++ jump_words jump at))) event
    ∙ ap (λ (n : ℕ). old ++ (begun ++ (words_of_change r number ++ jump_words jump n))) leads
    ∙ ap (λ (o : Option Jump). old ++ led_if begun r number o) is

-- behind it what decided the jump, or the exception
pub jump-told : (r : Recorded) (number code : ℕ) (jump : Jump) (setter : Option (List ℕ)) (old first second third : List ℕ)
    → Some jump ≡ jump_of_change r number → first ≡ old ++ led_if [] r number (jump_of_change r number)
    → code ≡ condition_code_of (machine_after r (number - 1)).core.psw → setter ≡ setter_in (just_before r number)
    → second ≡ first ++ decided_words jump code setter → third ≡ second ++ codes "\n" → third ≡ old ++ jump_line r number
jump-told r number code jump setter old first second third is led before by decided end =
    let begun : first ≡ old ++ led_words r number jump = led ∙ ap (λ (o : Option Jump). old ++ led_if [] r number o) (sym is)
    in pushed old second third (led_words r number jump ++ decided_words jump code setter) (codes "\n")
    (pushed old first second (led_words r number jump) (decided_words jump code setter) begun decided) end
    ∙ ap (λ (n : ℕ). old ++ ((led_words r number jump ++ decided_words jump n setter) ++ codes "\n")) before
    ∙ ap (λ (s : Option (List ℕ)). old ++ ((led_words r number jump ++ decided_words jump (condition_code_of (machine_after r (number - 1)).core.psw) s) ++ codes "\n")) by
    ∙ ap (λ (o : Option Jump). old ++ line_if_jump r number o) is

pub interruption-told : (r : Recorded) (number : ℕ) (jump : Jump) (old first second third : List ℕ)
    → Some jump ≡ jump_of_change r number → first ≡ old ++ led_if (codes "last interruption ") r number (jump_of_change r number)
    → second ≡ first ++ exception_words jump → third ≡ second ++ codes "\n" → third ≡ old ++ interruption_line r (Some number)
interruption-told r number jump old first second third is led exception end =
    let begun : first ≡ old ++ (codes "last interruption " ++ led_words r number jump)
    = led ∙ ap (λ (o : Option Jump). old ++ led_if (codes "last interruption ") r number o) (sym is)
    in pushed old second third _ (codes "\n") (pushed old first second _ (exception_words jump) begun exception) end
    ∙ ap (λ (o : Option Jump). old ++ interruption_words r number o) is

-- the last change that set the condition code is found, and its event is told
pub setter-found : (r x y : Recorded) (n m s : ℕ) (found others : Option ℕ) (words : List ℕ) → x ≡ with_standing r n → y ≡ with_standing x y.standing → s ≡ x.standing
    → found ≡ Some m → or_else found others ≡ last_up_to (is_sought CodeSettings x) x.standing → words ≡ words_of_change y m
    → Some words ≡ setter_in (with_standing r s)
setter-found r x y n m s found others words gone left stands is last told =
    let same : words ≡ words_of_change r m
    = told ∙ ap (λ (z : Recorded). words_of_change z m) left ∙ ap (λ (z : Recorded). words_of_change z m) gone
    in let there : Some m ≡ last_up_to (sets_code (with_standing r n)) n
    = sym (ap (λ (o : Option ℕ). or_else o others) is) ∙ last ∙ ap (λ (z : Recorded). last_up_to (is_sought CodeSettings z) z.standing) gone
    in let at : n ≡ s = sym (stands ∙ ap (λ (z : Recorded). z.standing) gone)
    in ap (λ (ws : List ℕ). Some ws) same
    ∙ ap (λ (o : Option ℕ). option_map (words_of_change r) o) there
    ∙ ap (λ (k : ℕ). setter_in (with_standing r k)) at
