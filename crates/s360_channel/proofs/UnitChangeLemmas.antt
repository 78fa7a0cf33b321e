-- What an event alters of the units: done twice, the exchange restores both; and what is planned makes the units of it.
use Rattle.std.proofs.Common.{◌≡◌, ◌≢◌, ◌<◌, ◌+◌, ◌++◌, ℕ, zero, suc, Bool, true, false, cond, not, nat_eq, ◌==◌, filter, List, [], ◌∷◌, length, map, take, get_or, refl, sym, ap, subst, ◌∙◌, arith, get_or-set_same, get_or-set_other, set-set, length-set, ext_get_or, if◌then◌else◌, append-nil, Option, Some, None}
use Rattle.std.proofs.lemmas.Bool.Decides.{Decides-eqb}
use Rattle.std.proofs.lemmas.List.Elements.{filter_more}
use Rattle.std.proofs.Math.Seq.{set-get_or}
use Rattle.std.proofs.SliceLists.{any-default}
use Rattle.s360_model.specs.Exchanges.{back_if_any}
use Rattle.s360_channel.specs.declared.configured_unit.ConfiguredUnit.{ConfiguredUnit}
use Rattle.s360_channel.specs.declared.configured_unit.ConfiguredUnit.TheVariants.{Reader, Punch, Printer, Console, Tape0, Tape1}
use Rattle.s360_channel.specs.declared.unit_change.UnitChange.{UnitChange}
use Rattle.s360_channel.specs.declared.unit_change.UnitChange.TheVariants.{One, Attention, Several}
use Rattle.s360_channel.specs.declared.unit_control.UnitControl.{UnitControl}
use Rattle.s360_channel.specs.Units.{idle_unit}
use Rattle.s360_channel.specs.Differences.{same_unit, altered_units, state_place}
use Rattle.s360_channel.specs.ConfiguredUnits.{Units, HasEachUnit, configured_units, control_of, index_of, with_control_of, SeveralUnits}
use Rattle.s360_channel.specs.UnitChanges.{CanSwapUnits, IsUnitsChangeTo, places_of_units, unit_change_after_swap, units_after_swap}
use Rattle.s360_channel.proofs.DifferenceLemmas.{same_unit-Decides}

true_false : true ≡ false → ⊥
true_false e = absurd (cc)

inside : (u : ConfiguredUnit) → index_of u < 6
inside Reader = omega arith
inside Punch = omega arith
inside Printer = omega arith
inside Console = omega arith
inside Tape0 = omega arith
inside Tape1 = omega arith

-- what stands at a unit's place
pub control-at : (us : Units) (u : ConfiguredUnit) (c : UnitControl) → HasEachUnit us → c ≡ get_or us (index_of u) c → c ≡ control_of us u
control-at us u c h is =
    let below : index_of u < length us = omega (arith, h, inside u)
    in is ∙ any-default us (index_of u) c idle_unit below

pub control-set : (us : Units) (u : ConfiguredUnit) (v : UnitControl) → HasEachUnit us → control_of (with_control_of us u v) u ≡ v
control-set us u v h =
    let below : index_of u < length us = omega (arith, h, inside u)
    in get_or-set_same us (index_of u) v idle_unit below

set-again : (us : Units) (u : ConfiguredUnit) (v : UnitControl) → with_control_of (with_control_of us u v) u (control_of us u) ≡ us
set-again us u v = set-set us (index_of u) v (control_of us u) ∙ set-get_or us (index_of u) idle_unit

-- a unit by its place among them
unit-of-index : (u : ConfiguredUnit) → get_or configured_units (index_of u) Reader ≡ u
unit-of-index Reader = refl
unit-of-index Punch = refl
unit-of-index Printer = refl
unit-of-index Console = refl
unit-of-index Tape0 = refl
unit-of-index Tape1 = refl

index-apart : (u w : ConfiguredUnit) → w ≢ u → index_of w ≢ index_of u
index-apart u w n e = n (sym (unit-of-index w) ∙ ap (λ i. get_or configured_units i Reader) e ∙ unit-of-index u)

-- the state of a unit, where a change is not that unit's, or leaves its state
pub state-beside : (us : Units) (u w : ConfiguredUnit) (v : UnitControl) → w ≢ u → (control_of (with_control_of us u v) w).state ≡ (control_of us w).state
state-beside us u w v n = ap (λ (c : UnitControl). c.state) (get_or-set_other us (index_of u) (index_of w) v idle_unit (index-apart u w n))

state-asking-by : (us : Units) (u w : ConfiguredUnit) (v : UnitControl) (here : Bool) → HasEachUnit us → v.state ≡ (control_of us u).state → nat_eq (index_of w) (index_of u) ≡ here
    → (control_of (with_control_of us u v) w).state ≡ (control_of us w).state
state-asking-by us u w v true each h e =
    let at : index_of w ≡ index_of u = (Decides-eqb (index_of w) (index_of u)).0 e
    in rw at (ap (λ (c : UnitControl). c.state) (control-set us u v each) ∙ h)
state-asking-by us u w v false each h e =
    let apart : index_of w ≢ index_of u = λ at. true_false (sym ((Decides-eqb (index_of w) (index_of u)).1 at) ∙ e)
    in ap (λ (c : UnitControl). c.state) (get_or-set_other us (index_of u) (index_of w) v idle_unit apart)

pub state-asking : (us : Units) (u w : ConfiguredUnit) (asks : Bool) → HasEachUnit us
    → (control_of (units_after_swap us (Attention u asks)) w).state ≡ (control_of us w).state
state-asking us u w asks each = state-asking-by us u w (record (control_of us u) { attention = asks }) _ each refl refl

-- the exchange done again
pub CanSwapUnits-again : (us : Units) (x : UnitChange) → CanSwapUnits us x → CanSwapUnits (units_after_swap us x) (unit_change_after_swap us x)
CanSwapUnits-again us (One u v) h = length-set us (index_of u) v ∙ h
CanSwapUnits-again us (Attention u asks) h = length-set us (index_of u) (record (control_of us u) { attention = asks }) ∙ h
CanSwapUnits-again us (Several x) h = (h.1, h.0)

pub units_after_swap-twice : (us : Units) (x : UnitChange) → CanSwapUnits us x → units_after_swap (units_after_swap us x) (unit_change_after_swap us x) ≡ us
units_after_swap-twice us (One u v) h = set-again us u v
units_after_swap-twice us (Attention u asks) h =
    let v : UnitControl = record (control_of us u) { attention = asks }
    in ap (λ (c : UnitControl). with_control_of (with_control_of us u v) u (record c { attention = (control_of us u).attention })) (control-set us u v h) ∙ set-again us u v
units_after_swap-twice us (Several x) h = refl

pub unit_change_after_swap-twice : (us : Units) (x : UnitChange) → CanSwapUnits us x → unit_change_after_swap (units_after_swap us x) (unit_change_after_swap us x) ≡ x
unit_change_after_swap-twice us (One u v) h = ap (λ (c : UnitControl). One u c) (control-set us u v h)
unit_change_after_swap-twice us (Attention u asks) h =
    ap (λ (c : UnitControl). Attention u c.attention) (control-set us u (record (control_of us u) { attention = asks }) h)
unit_change_after_swap-twice us (Several x) h = refl

-- an exchange keeps the places
pub places_of_units-back : (us : Units) (x : Option UnitChange) → places_of_units (back_if_any unit_change_after_swap us x) ≡ places_of_units x
places_of_units-back us None = refl
places_of_units-back us (Some (One u v)) = refl
places_of_units-back us (Some (Attention u asks)) = refl
places_of_units-back us (Some (Several x)) = refl

-- what holds of each of six
six : (P : ℕ → Type 0) → P 0 → P 1 → P 2 → P 3 → P 4 → P 5 → (i : ℕ) → i < 6 → P i
six P a b c d e f zero l = a
six P a b c d e f (suc zero) l = b
six P a b c d e f (suc (suc zero)) l = c
six P a b c d e f (suc (suc (suc zero))) l = d
six P a b c d e f (suc (suc (suc (suc zero)))) l = e
six P a b c d e f (suc (suc (suc (suc (suc zero))))) l = f
six P a b c d e f (suc (suc (suc (suc (suc (suc i)))))) l = absurd (omega (arith, l))

not-false : (b : Bool) → not b ≡ false → b ≡ true
not-false true h = refl
not-false false h = absurd (cc)

unlike-by : (c d : UnitControl) (b : Bool) → same_unit c d ≡ b → c ≢ d → b ≡ false
unlike-by c d true h n = absurd (n ((same_unit-Decides c d).0 h))
unlike-by c d false h n = refl

unlike : (c d : UnitControl) → c ≢ d → same_unit c d ≡ false
unlike c d n = unlike-by c d (same_unit c d) refl n

-- a unit that stays is the same
alike : (c : UnitControl) → same_unit c c ≡ true
alike c = (same_unit-Decides c c).1 refl

pub units-stay : (us : Units) → IsUnitsChangeTo us None us
units-stay us = record {
  can = tt;
  makes = refl;
  lists = rw (alike (control_of us Reader), alike (control_of us Punch), alike (control_of us Printer), alike (control_of us Console), alike (control_of us Tape0), alike (control_of us Tape1)) refl;
}

-- the units of which one stands otherwise: that one alone may differ
same_at : (us : Units) (u w : ConfiguredUnit) (v : UnitControl) (b here : Bool) → HasEachUnit us → same_unit (control_of us u) v ≡ b → nat_eq (index_of w) (index_of u) ≡ here
    → same_unit (control_of us w) (control_of (with_control_of us u v) w) ≡ (if here then b else true)
same_at us u w v b true each h e =
    let at : index_of w ≡ index_of u = (Decides-eqb (index_of w) (index_of u)).0 e
    in rw at (ap (λ (c : UnitControl). same_unit (control_of us u) c) (control-set us u v each) ∙ h)
same_at us u w v b false each h e =
    let apart : index_of w ≢ index_of u = λ at. true_false (sym ((Decides-eqb (index_of w) (index_of u)).1 at) ∙ e)
    in ap (λ (c : UnitControl). same_unit (control_of us w) c) (get_or-set_other us (index_of u) (index_of w) v idle_unit apart) ∙ alike (control_of us w)

abbrev pub just : ConfiguredUnit → Bool → List ConfiguredUnit
just u same = if same then [] else u ∷ []

pub only : (u : ConfiguredUnit) (b : Bool) → filter (λ w. not (if nat_eq (index_of w) (index_of u) then b else true)) configured_units ≡ just u b
only Reader true = refl
only Reader false = refl
only Punch true = refl
only Punch false = refl
only Printer true = refl
only Printer false = refl
only Console true = refl
only Console false = refl
only Tape0 true = refl
only Tape0 false = refl
only Tape1 true = refl
only Tape1 false = refl

altered-one : (us : Units) (u : ConfiguredUnit) (v : UnitControl) (b : Bool) → HasEachUnit us → same_unit (control_of us u) v ≡ b
    → altered_units us (with_control_of us u v) ≡ just u b
altered-one us u v b each h =
    rw (
      same_at us u Reader v b _ each h refl,
      same_at us u Punch v b _ each h refl,
      same_at us u Printer v b _ each h refl,
      same_at us u Console v b _ each h refl,
      same_at us u Tape0 v b _ each h refl,
      same_at us u Tape1 v b _ each h refl,
    ) (only u b)

-- what is planned of one unit
planned-one : (us : Units) (u : ConfiguredUnit) (v : UnitControl) (b : Bool) → HasEachUnit us → same_unit (control_of us u) v ≡ b
    → IsUnitsChangeTo us (if b then None else Some (One u v)) (with_control_of us u v)
planned-one us u v true each h =
    let stays : us ≡ with_control_of us u v
    = sym (ap (λ (c : UnitControl). with_control_of us u c) (sym ((same_unit-Decides (control_of us u) v).0 h)) ∙ set-get_or us (index_of u) idle_unit)
    in subst (λ (vs : Units). IsUnitsChangeTo us None vs) stays (units-stay us)
planned-one us u v false each h = record {
  can = each;
  makes = refl;
  lists = sym (ap (λ (ws : List ConfiguredUnit). map (λ w. state_place w) ws) (altered-one us u v false each h));
}

pub IsUnitsChangeTo-one : (us : Units) (u : ConfiguredUnit) (v : UnitControl) → HasEachUnit us
    → IsUnitsChangeTo us (if same_unit (control_of us u) v then None else Some (One u v)) (with_control_of us u v)
IsUnitsChangeTo-one us u v each = planned-one us u v (same_unit (control_of us u) v) each refl

-- what makes a unit ask for attention
pub asks-already : (us : Units) (u : ConfiguredUnit) → (control_of us u).attention ≡ true → IsUnitsChangeTo us None (with_control_of us u (record (control_of us u) { attention = true }))
asks-already us u h =
    let same : control_of us u ≡ record (control_of us u) { attention = true } = ap (λ (b : Bool). record (control_of us u) { attention = b }) h
    in let stays : us ≡ with_control_of us u (record (control_of us u) { attention = true })
    = sym (ap (λ (c : UnitControl). with_control_of us u c) (sym same) ∙ set-get_or us (index_of u) idle_unit)
    in subst (λ (vs : Units). IsUnitsChangeTo us None vs) stays (units-stay us)

pub asks-now : (us : Units) (u : ConfiguredUnit) → HasEachUnit us → (control_of us u).attention ≡ false
    → IsUnitsChangeTo us (Some (Attention u true)) (with_control_of us u (record (control_of us u) { attention = true }))
asks-now us u each h =
    let v : UnitControl = record (control_of us u) { attention = true }
    in let apart : control_of us u ≢ v = λ e. true_false (sym (ap (λ (c : UnitControl). c.attention) e) ∙ h)
    in record {
      can = each;
      makes = refl;
      lists = sym (ap (λ (ws : List ConfiguredUnit). map (λ w. state_place w) ws) (altered-one us u v false each (unlike (control_of us u) v apart)));
    }

-- what makes all of them stand so
pub IsUnitsChangeTo-several : (us : Units) (x : SeveralUnits) → HasEachUnit us → HasEachUnit x.units → x.altered ≡ altered_units us x.units → IsUnitsChangeTo us (Some (Several x)) x.units
IsUnitsChangeTo-several us x each all h = record {
  can = (each, all);
  makes = refl;
  lists = ap (λ (ws : List ConfiguredUnit). map (λ w. state_place w) ws) h;
}

-- the units that stand otherwise, one after another
abbrev pub altered_among : Units → Units → List ConfiguredUnit → List ConfiguredUnit
altered_among us vs ws = filter (λ (u : ConfiguredUnit). not (same_unit (control_of us u) (control_of vs u))) ws

pub altered-other : (us vs : Units) (i : ℕ) (ws : List ConfiguredUnit) → i < 6 → ws ≡ altered_among us vs (take i configured_units)
    → same_unit (control_of us (get_or configured_units i Reader)) (control_of vs (get_or configured_units i Reader)) ≡ false
    → ws ++ get_or configured_units i Reader ∷ [] ≡ altered_among us vs (take (i + 1) configured_units)
altered-other us vs i ws within h test =
    let u : ConfiguredUnit = get_or configured_units i Reader
    in let more : altered_among us vs (take (i + 1) configured_units) ≡ altered_among us vs (take i configured_units) ++ u ∷ []
    = rw test at (filter_more (λ (w : ConfiguredUnit). not (same_unit (control_of us w) (control_of vs w))) configured_units i Reader within)
    in ap (λ (xs : List ConfiguredUnit). xs ++ u ∷ []) h ∙ sym more

pub altered-same : (us vs : Units) (i : ℕ) (ws : List ConfiguredUnit) → i < 6 → ws ≡ altered_among us vs (take i configured_units)
    → same_unit (control_of us (get_or configured_units i Reader)) (control_of vs (get_or configured_units i Reader)) ≡ true
    → ws ≡ altered_among us vs (take (i + 1) configured_units)
altered-same us vs i ws within h test =
    let more : altered_among us vs (take (i + 1) configured_units) ≡ altered_among us vs (take i configured_units) ++ []
    = rw test at (filter_more (λ (w : ConfiguredUnit). not (same_unit (control_of us w) (control_of vs w))) configured_units i Reader within)
    in h ∙ sym (append-nil (altered_among us vs (take i configured_units))) ∙ sym more

pub is-empty : (ws : List ConfiguredUnit) → true ≡ (length ws == 0) → ws ≡ []
is-empty [] h = refl
is-empty (w ∷ ws) h =
    let e : length (w ∷ ws) ≡ 0 = (Decides-eqb (length (w ∷ ws)) 0).0 (sym h)
    in absurd (omega (arith, e))

-- where none stands otherwise, all are the same
none_first : (b : Bool) (u : ConfiguredUnit) (ws : List ConfiguredUnit) → cond b (u ∷ ws) ws ≡ [] → (b ≡ false) × (ws ≡ [])
none_first true u ws h = absurd (cc)
none_first false u ws h = (refl, h)

same-from : (c d : UnitControl) → not (same_unit c d) ≡ false → c ≡ d
same-from c d h = (same_unit-Decides c d).0 (not-false (same_unit c d) h)

pub none-altered : (us vs : Units) → HasEachUnit us → HasEachUnit vs → altered_units us vs ≡ [] → IsUnitsChangeTo us None vs
none-altered us vs each all h =
    let a = none_first _ _ _ h
    in let b = none_first _ _ _ a.1
    in let c = none_first _ _ _ b.1
    in let d = none_first _ _ _ c.1
    in let e = none_first _ _ _ d.1
    in let f = none_first _ _ _ e.1
    in let at : (i : ℕ) → i < 6 → get_or us i idle_unit ≡ get_or vs i idle_unit = λ i l. six (λ k. get_or us k idle_unit ≡ get_or vs k idle_unit)
    (same-from _ _ a.0) (same-from _ _ b.0) (same-from _ _ c.0) (same-from _ _ d.0) (same-from _ _ e.0) (same-from _ _ f.0) i l
    in let same : us ≡ vs = ext_get_or idle_unit us vs (each ∙ sym all) (λ i l. at i (omega (arith, each, l)))
    in subst (λ (ws : Units). IsUnitsChangeTo us None ws) same (units-stay us)
