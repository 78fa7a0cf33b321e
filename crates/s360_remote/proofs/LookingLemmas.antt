-- Going event by event, and back.
use Rattle.std.proofs.Common.{◌≡◌, ◌≢◌, ◌+◌, ◌-◌, ◌⊎◌, inl, inr, ℕ, zero, suc, Bool, true, false, List, [], Option, Some, None, refl, sym, ap, ◌∙◌, take, nat_eq, append-nil, cond, subst, arith}
use Rattle.std.specs.List.{fold}
use Rattle.s360_machine.specs.declared.event.Event.{Event}
use Rattle.s360_machine.specs.declared.refusal.Refusal.{Refusal}
use Rattle.s360_journal.specs.Offers.{unless_refused}
use Rattle.s360_journal.specs.Recorded.{AreRun, Recorded, after_events, rest_of, session_of, with_standing}
use Rattle.s360_journal.specs.Returning.{Paused, back_of, is_reached_back, one_back}
use Rattle.s360_journal.specs.Running.{WhereToStop, event_of_turn, events_of_turn, pause_of, pause_of_turn, run_by, run_in, run_of}
use Rattle.s360_journal.specs.Standing.{Standing, refusal_in}
use Rattle.s360_journal.specs.declared.running.Pause.{Pause}
use Rattle.s360_journal.specs.declared.running.Pause.TheVariants.{Done, RecordStart, Watch}
use Rattle.s360_journal.specs.declared.running.Reach.{Reach}
use Rattle.s360_journal.specs.declared.running.Reach.TheVariants.{Step, Stop}
use Rattle.s360_journal.specs.declared.running.Turn.TheVariants.{Next}
use Rattle.s360_remote.specs.Accesses.{Accesses, accesses_next, bytes_met, with_accessed}
use Rattle.s360_remote.specs.declared.looking.Paused.{Paused as Stopped}
use Rattle.s360_remote.specs.Moving.{IsMoved, Moved, back_by_one, looking_back, looking_on, met_if, moved_with, one_on, unless_paused, why_met}
use Rattle.s360_remote.specs.declared.points.Met.{Met}
use Rattle.s360_remote.specs.Points.{Points, Watched, bytes_altered, stops_of}

-- ---- whether it pauses

goes : (why : Pause) (moved others : Moved) → why ≡ Done → unless_paused why moved others ≡ others
goes Done moved others is = refl
goes other moved others is = absurd (cc)

pauses : (why : Pause) (moved others : Moved) → why ≢ Done → unless_paused why moved others ≡ moved
pauses Done moved others not = absurd (not refl)
pauses other moved others not = refl

-- ---- on

pub looked-none : (p : Points) (reach : Reach) (r : Recorded) → looking_on p reach r 0 ≡ record { recorded = r; why = Done; met = [] }
unfolding looking_on
looked-none p reach r = refl

pub looked-more : (p : Points) (reach : Reach) (r : Recorded) (n : ℕ) → (one_on p reach r).why ≡ Done
    → looking_on p reach r (suc n) ≡ looking_on p reach (one_on p reach r).recorded n
unfolding looking_on
looked-more p reach r n is = goes (one_on p reach r).why (one_on p reach r) (looking_on p reach (one_on p reach r).recorded n) is

pub looked-paused : (p : Points) (reach : Reach) (r : Recorded) (n : ℕ) → (one_on p reach r).why ≢ Done → looking_on p reach r (suc n) ≡ one_on p reach r
unfolding looking_on
looked-paused p reach r n not = pauses (one_on p reach r).why (one_on p reach r) (looking_on p reach (one_on p reach r).recorded n) not

-- ---- after want of memory

one-or-none : (o : Option Refusal) (e : Event) (n : ℕ) → (take n (unless_refused o e) ≡ []) ⊎ (take n (unless_refused o e) ≡ unless_refused o e)
one-or-none None e zero = inl refl
one-or-none None e (suc zero) = inr refl
one-or-none None e (suc (suc n)) = inr refl
one-or-none (Some r) e zero = inl refl
one-or-none (Some r) e (suc n) = inl refl

events-by : (es : List Event) (o : Option Pause) → (run_by es o (record { events = []; why = Done })).events ≡ es
events-by es (Some why) = refl
events-by es None = append-nil es

events-of-one : (stops : WhereToStop) (reach : Reach) (s : Standing) (rest : List Event) → (run_of stops reach s rest 1).events ≡ events_of_turn s rest
unfolding run_of
events-of-one stops reach s rest = events-by (events_of_turn s rest) (pause_of_turn stops reach s rest)

part-of-one : (s : Standing) (rest : List Event) (n : ℕ) → (take n (events_of_turn s rest) ≡ []) ⊎ (take n (events_of_turn s rest) ≡ events_of_turn s rest)
unfolding events_of_turn
part-of-one s rest n = one-or-none (refusal_in s (event_of_turn s rest)) (event_of_turn s rest) n

looked-one : (p : Points) (reach : Reach) (r : Recorded) → (looking_on p reach r 1).recorded ≡ (one_on p reach r).recorded
unfolding looking_on
looked-one p reach r = by (one_on p reach r).why (one_on p reach r) where
  by : (why : Pause) (moved : Moved) → (unless_paused why moved (looking_on p reach moved.recorded 0)).recorded ≡ moved.recorded
  by Done moved = refl
  by other moved = refl

pub looked-partly : (p : Points) (reach : Reach) (r t : Recorded) (n : ℕ) → AreRun r (take n (run_in (stops_of p) Next reach r 1).events) t
    → (m : ℕ) × (t ≡ (looking_on p reach r m).recorded)
looked-partly p reach r t n ran =
    let s : Standing = session_of r
    in let some : (run_in (stops_of p) Next reach r 1).events ≡ events_of_turn s (rest_of r) = events-of-one (stops_of p) reach s (rest_of r)
    in by some (part-of-one s (rest_of r) n) where
      by : (run_in (stops_of p) Next reach r 1).events ≡ events_of_turn (session_of r) (rest_of r)
          → (take n (events_of_turn (session_of r) (rest_of r)) ≡ []) ⊎ (take n (events_of_turn (session_of r) (rest_of r)) ≡ events_of_turn (session_of r) (rest_of r))
          → (m : ℕ) × (t ≡ (looking_on p reach r m).recorded)
      by some (inl none) = (0, ran.record_of ∙ ap (λ es. after_events r (take n es)) some ∙ ap (λ es. after_events r es) none ∙ sym (ap (λ (x : Moved). x.recorded) (looked-none p reach r)))
      by some (inr all) = (1, ran.record_of ∙ ap (λ es. after_events r (take n es)) some ∙ ap (λ es. after_events r es) (all ∙ sym some) ∙ sym (looked-one p reach r))

-- ---- the loop

-- so many of the events are left to be looked at, and how far it comes after some of them is as far as it comes from the start
pub record IsLooking (p : Points) (reach : Reach) (r s : Recorded) (most left : ℕ) : Type 0 where
  pub whole : looking_on p reach r most ≡ looking_on p reach s left
  pub part : (n : ℕ) → (m : ℕ) × ((looking_on p reach s n).recorded ≡ (looking_on p reach r m).recorded)

pub looking-start : (p : Points) (reach : Reach) (r : Recorded) (most : ℕ) → IsLooking p reach r r most most
looking-start p reach r most = record { whole = refl; part = λ n. (n, refl) }

pub looking-more : (p : Points) (reach : Reach) (r s t : Recorded) (most left rest : ℕ) (why : Pause) (met : List Met) → left ≡ rest + 1
    → IsLooking p reach r s most left → IsMoved why met t (one_on p reach s) → why ≡ Done → IsLooking p reach r t most rest
looking-more p reach r s t most left rest why met more h moved is =
    let done : (one_on p reach s).why ≡ Done = sym moved.0 ∙ is
    in let next : (n : ℕ) → looking_on p reach s (suc n) ≡ looking_on p reach t n
    = λ n. looked-more p reach s n done ∙ ap (λ (x : Recorded). looking_on p reach x n) (sym moved.1.1)
    in let count : left ≡ suc rest = omega (arith, more)
    in record {
      whole = h.whole ∙ ap (λ n. looking_on p reach s n) count ∙ next rest;
      part = λ n. ((h.part (suc n)).0, ap (λ (x : Moved). x.recorded) (sym (next n)) ∙ (h.part (suc n)).1);
    }

pub looking-ended : (p : Points) (reach : Reach) (r s t : Recorded) (most left rest : ℕ) (why : Pause) (met : List Met) → left ≡ rest + 1
    → IsLooking p reach r s most left → IsMoved why met t (one_on p reach s) → why ≢ Done → IsMoved why met t (looking_on p reach r most)
looking-ended p reach r s t most left rest why met more h moved not =
    let count : left ≡ suc rest = omega (arith, more)
    in let paused : looking_on p reach r most ≡ one_on p reach s
    = h.whole ∙ ap (λ n. looking_on p reach s n) count ∙ looked-paused p reach s rest (λ is. not (moved.0 ∙ is))
    in subst (λ (x : Moved). IsMoved why met t x) (sym paused) moved

-- why it pauses, told apart from where it stands
told-so : (z : Stopped) (s : Recorded) (moved : Moved) (why : Pause) → z ≡ record { why = why; met = [] }
    → moved ≡ record { recorded = s; why = why; met = [] } → IsMoved z.why z.met s moved
told-so z s moved why is last =
    subst (λ (x : Moved). IsMoved z.why z.met s x) (sym last)
    (ap (λ (y : Stopped). y.why) is, (ap (λ (y : Stopped). y.met) is, refl))

pub looking-done : (p : Points) (reach : Reach) (r s : Recorded) (most left : ℕ) (z : Stopped) → left ≡ 0 → IsLooking p reach r s most left
    → z ≡ record { why = Done; met = [] } → IsMoved z.why z.met s (looking_on p reach r most)
looking-done p reach r s most left z none h is =
    told-so z s (looking_on p reach r most) Done is (h.whole ∙ ap (λ n. looking_on p reach s n) none ∙ looked-none p reach s)

pub looking-part : (p : Points) (reach : Reach) (r s t : Recorded) (most left : ℕ) → IsLooking p reach r s most left
    → ((n : ℕ) × (t ≡ (looking_on p reach s n).recorded)) → (m : ℕ) × (t ≡ (looking_on p reach r m).recorded)
looking-part p reach r s t most left h far = ((h.part far.0).0, far.1 ∙ (h.part far.0).1)

-- ---- back

pub looked-back-none : (p : Points) (reach : Reach) (r : Recorded) → looking_back p reach r 0 ≡ record { recorded = r; why = Done; met = [] }
unfolding looking_back
looked-back-none p reach r = refl

pub looked-back-more : (p : Points) (reach : Reach) (r : Recorded) (n : ℕ) → nat_eq r.standing 0 ≡ false → (back_by_one p reach r).why ≡ Done
    → looking_back p reach r (suc n) ≡ looking_back p reach (back_by_one p reach r).recorded n
unfolding looking_back
looked-back-more p reach r n some is = rw some (goes (back_by_one p reach r).why (back_by_one p reach r) (looking_back p reach (back_by_one p reach r).recorded n) is)

pub looked-back-paused : (p : Points) (reach : Reach) (r : Recorded) (n : ℕ) → nat_eq r.standing 0 ≡ false → (back_by_one p reach r).why ≢ Done
    → looking_back p reach r (suc n) ≡ back_by_one p reach r
unfolding looking_back
looked-back-paused p reach r n some not = rw some (pauses (back_by_one p reach r).why (back_by_one p reach r) (looking_back p reach (back_by_one p reach r).recorded n) not)

pub looked-back-start : (p : Points) (reach : Reach) (r : Recorded) (n : ℕ) → nat_eq r.standing 0 ≡ true
    → looking_back p reach r (suc n) ≡ record { recorded = r; why = RecordStart; met = [] }
unfolding looking_back
looked-back-start p reach r n none = rw none refl

pub record IsLookingBack (p : Points) (reach : Reach) (r s : Recorded) (most left : ℕ) : Type 0 where
  pub whole : looking_back p reach r most ≡ looking_back p reach s left
  pub kept : s ≡ with_standing r s.standing

pub back-start : (p : Points) (reach : Reach) (r : Recorded) (most : ℕ) → IsLookingBack p reach r r most most
back-start p reach r most = record { whole = refl; kept = refl }

pub back-kept : (r s t : Recorded) → s ≡ with_standing r s.standing → t ≡ one_back s → t ≡ with_standing r t.standing
back-kept r s t kept is =
    let far : t ≡ with_standing r (s.standing - 1) = is ∙ ap (λ (x : Recorded). with_standing x (s.standing - 1)) kept
    in far ∙ ap (λ n. with_standing r n) (sym (ap (λ (x : Recorded). x.standing) far))

pub back-more : (p : Points) (reach : Reach) (r s t : Recorded) (most left rest : ℕ) (why : Pause) (met : List Met) → left ≡ rest + 1
    → IsLookingBack p reach r s most left → nat_eq s.standing 0 ≡ false → IsMoved why met t (back_by_one p reach s) → why ≡ Done
    → IsLookingBack p reach r t most rest
back-more p reach r s t most left rest why met more h some moved is =
    let count : left ≡ suc rest = omega (arith, more)
    in record {
      whole = h.whole ∙ ap (λ n. looking_back p reach s n) count ∙ looked-back-more p reach s rest some (sym moved.0 ∙ is)
          ∙ ap (λ (x : Recorded). looking_back p reach x rest) (sym moved.1.1);
      kept = back-kept r s t h.kept moved.1.1;
    }

pub back-ended : (p : Points) (reach : Reach) (r s t : Recorded) (most left rest : ℕ) (why : Pause) (met : List Met) → left ≡ rest + 1
    → IsLookingBack p reach r s most left → nat_eq s.standing 0 ≡ false → IsMoved why met t (back_by_one p reach s) → why ≢ Done
    → IsMoved why met t (looking_back p reach r most)
back-ended p reach r s t most left rest why met more h some moved not =
    let count : left ≡ suc rest = omega (arith, more)
    in let paused : looking_back p reach r most ≡ back_by_one p reach s
    = h.whole ∙ ap (λ n. looking_back p reach s n) count ∙ looked-back-paused p reach s rest some (λ is. not (moved.0 ∙ is))
    in subst (λ (x : Moved). IsMoved why met t x) (sym paused) moved

pub back-at-start : (p : Points) (reach : Reach) (r s : Recorded) (most left rest : ℕ) (z : Stopped) → left ≡ rest + 1 → IsLookingBack p reach r s most left
    → nat_eq s.standing 0 ≡ true → z ≡ record { why = RecordStart; met = [] } → IsMoved z.why z.met s (looking_back p reach r most)
back-at-start p reach r s most left rest z more h none is =
    let count : left ≡ suc rest = omega (arith, more)
    in told-so z s (looking_back p reach r most) RecordStart is
    (h.whole ∙ ap (λ n. looking_back p reach s n) count ∙ looked-back-start p reach s rest none)

pub back-done : (p : Points) (reach : Reach) (r s : Recorded) (most left : ℕ) (z : Stopped) → left ≡ 0 → IsLookingBack p reach r s most left
    → z ≡ record { why = Done; met = [] } → IsMoved z.why z.met s (looking_back p reach r most)
back-done p reach r s most left z none h is =
    told-so z s (looking_back p reach r most) Done is (h.whole ∙ ap (λ n. looking_back p reach s n) none ∙ looked-back-none p reach s)

-- one change is taken back, or the machine pauses before it
pub taken-one : (stops : WhereToStop) (reach : Reach) (r : Recorded) → nat_eq r.standing 0 ≡ false
    → ((back_of stops reach r 1).why ≡ Watch × ((back_of stops reach r 1).standing ≡ r.standing))
    ⊎ (((back_of stops reach r 1).why ≢ Watch) × ((back_of stops reach r 1).standing ≡ r.standing - 1))
unfolding back_of
taken-one stops reach r some = rw some (by (stops.altered (session_of r)) (is_reached_back stops reach r) reach) where
  by : (altered reached : Bool) (reach : Reach)
      → ((cond {A = Paused} altered (record { standing = r.standing; why = Watch }) (cond reached (record { standing = r.standing - 1; why = pause_of reach }) (record { standing = r.standing - 1; why = Done }))).why ≡ Watch
      × ((cond {A = Paused} altered (record { standing = r.standing; why = Watch }) (cond reached (record { standing = r.standing - 1; why = pause_of reach }) (record { standing = r.standing - 1; why = Done }))).standing ≡ r.standing))
      ⊎ (((cond {A = Paused} altered (record { standing = r.standing; why = Watch }) (cond reached (record { standing = r.standing - 1; why = pause_of reach }) (record { standing = r.standing - 1; why = Done }))).why ≢ Watch)
      × ((cond {A = Paused} altered (record { standing = r.standing; why = Watch }) (cond reached (record { standing = r.standing - 1; why = pause_of reach }) (record { standing = r.standing - 1; why = Done }))).standing ≡ r.standing - 1))
  by true reached reach = inl (refl, refl)
  by false true Step = inr (λ h. absurd (cc), refl)
  by false true Stop = inr (λ h. absurd (cc), refl)
  by false false reach = inr (λ h. absurd (cc), refl)

-- then the change is taken back
pub taken-with : (stops : WhereToStop) (reach : Reach) (r s t : Recorded) (why : Pause) → nat_eq r.standing 0 ≡ false
    → why ≡ (back_of stops reach r 1).why → s ≡ with_standing r (back_of stops reach r 1).standing → why ≡ Watch → t ≡ one_back s → t ≡ one_back r
taken-with stops reach r s t why some is state watch back = by (taken-one stops reach r some) where
  by : ((back_of stops reach r 1).why ≡ Watch × ((back_of stops reach r 1).standing ≡ r.standing))
      ⊎ (((back_of stops reach r 1).why ≢ Watch) × ((back_of stops reach r 1).standing ≡ r.standing - 1)) → t ≡ one_back r
  by (inl h) = back ∙ ap (λ (x : Recorded). one_back x) (state ∙ ap (λ n. with_standing r n) h.1)
  by (inr h) = absurd (h.0 (sym is ∙ watch))

pub taken-without : (stops : WhereToStop) (reach : Reach) (r s : Recorded) (why : Pause) → nat_eq r.standing 0 ≡ false
    → why ≡ (back_of stops reach r 1).why → s ≡ with_standing r (back_of stops reach r 1).standing → why ≢ Watch → s ≡ one_back r
taken-without stops reach r s why some is state not = by (taken-one stops reach r some) where
  by : ((back_of stops reach r 1).why ≡ Watch × ((back_of stops reach r 1).standing ≡ r.standing))
      ⊎ (((back_of stops reach r 1).why ≢ Watch) × ((back_of stops reach r 1).standing ≡ r.standing - 1)) → s ≡ one_back r
  by (inl h) = absurd (not (is ∙ h.0))
  by (inr h) = state ∙ ap (λ n. with_standing r n) h.1

-- ---- what an event met

-- by what was altered, what was accessed and why the machine pauses
told-of : (z : Stopped) (r t : Recorded) (why done : Pause) (met all : List Met) → z ≡ record { why = why_met met why; met = met_if (why_met met why) met }
    → why ≡ done → met ≡ all → t ≡ r → IsMoved z.why z.met t (moved_with r done all)
told-of z r t why done met all is same bytes there =
    let whole : z ≡ record { why = why_met all done; met = met_if (why_met all done) all }
    = is ∙ ap (λ (w : Pause). record { why = why_met met w; met = met_if (why_met met w) met }) same
    ∙ ap (λ (bs : List Met). record { why = why_met bs done; met = met_if (why_met bs done) bs }) bytes
    in (ap (λ (y : Stopped). y.why) whole, (ap (λ (y : Stopped). y.met) whole, there))

-- the bytes that are met
met-of : (x y : Accesses) (watches : List Watched) (s : Standing) (altered met : List Met) → x ≡ y → altered ≡ bytes_altered s watches
    → met ≡ fold (λ told w. with_accessed x told w) altered watches → met ≡ bytes_met y s watches
met-of x y watches s altered met same bytes is =
    is ∙ ap (λ (a : Accesses). fold (λ told w. with_accessed a told w) altered watches) same
    ∙ ap (λ (bs : List Met). fold (λ told w. with_accessed y told w) bs watches) bytes

pub moved-on : (p : Points) (reach : Reach) (r t : Recorded) (x : Accesses) (why : Pause) (z : Stopped) (altered met : List Met)
    → x ≡ accesses_next r → why ≡ (run_in (stops_of p) Next reach r 1).why → AreRun r (run_in (stops_of p) Next reach r 1).events t
    → altered ≡ bytes_altered (session_of t) p.watches → met ≡ fold (λ told w. with_accessed x told w) altered p.watches
    → z ≡ record { why = why_met met why; met = met_if (why_met met why) met } → IsMoved z.why z.met t (one_on p reach r)
moved-on p reach r t x why z altered met same is ran bytes all said =
    let now : Recorded = after_events r (run_in (stops_of p) Next reach r 1).events
    in told-of z now t why (run_in (stops_of p) Next reach r 1).why met (bytes_met (accesses_next r) (session_of now) p.watches) said is
    (met-of x (accesses_next r) p.watches (session_of now) altered met same
    (bytes ∙ ap (λ (k : Recorded). bytes_altered (session_of k) p.watches) ran.record_of) all) ran.record_of

pub moved-back : (p : Points) (reach : Reach) (r t : Recorded) (x : Accesses) (why : Pause) (z : Stopped) (altered met : List Met)
    → t ≡ one_back r → x ≡ accesses_next t → why ≡ (back_of (stops_of p) reach r 1).why
    → altered ≡ bytes_altered (session_of r) p.watches → met ≡ fold (λ told w. with_accessed x told w) altered p.watches
    → z ≡ record { why = why_met met why; met = met_if (why_met met why) met } → IsMoved z.why z.met t (back_by_one p reach r)
moved-back p reach r t x why z altered met there same is bytes all said =
    told-of z (one_back r) t why (back_of (stops_of p) reach r 1).why met (bytes_met (accesses_next (one_back r)) (session_of r) p.watches) said is
    (met-of x (accesses_next (one_back r)) p.watches (session_of r) altered met (same ∙ ap (λ (k : Recorded). accesses_next k) there) bytes all) there
