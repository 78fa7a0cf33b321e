-- The end of initial program loading.
use Rattle.std.proofs.Common.{◌≡◌, ◌<◌, ◌≤◌, ◌+◌, ◌-◌, ◌∙◌, ◌⊎◌, ℕ, List, ap, arith, drop, get_or, inl, inr, length, refl, set-set, sym, take, IfSome, Option, Some, None, if◌then◌else◌, nat_lt}
use Rattle.std.specs.Int.{bytes_high_first}
use Rattle.std.proofs.lemmas.Bool.{cases_lt, le-ltb, lt-ltb}
use Rattle.std.proofs.lemmas.List.{get_or-drop, get_or-take, get_or_default, length-drop, length-take, same_lists}
use Rattle.s360_model.specs.Core.{Core, core_with_bytes, core_with_psw}
use Rattle.s360_model.specs.Psw.{current_psw}
use Rattle.s360_model.specs.Storage.{doubleword_at, with_run}
use Rattle.s360_store.proofs.StoredRunLemmas.{length-with_run, run-after, run-before, run-inside}
use Rattle.s360_channel.specs.declared.configured_unit.ConfiguredUnit.{ConfiguredUnit}
use Rattle.s360_channel.specs.declared.unit_control.UnitControl.{UnitControl}
use Rattle.s360_channel.specs.declared.unit_state.UnitState.{UnitState}
use Rattle.s360_channel.specs.declared.unit_state.UnitState.TheVariants.{Idle}
use Rattle.s360_channel.specs.ConfiguredUnits.{HasEachUnit, Units, control_of, index_of, with_control_of}
use Rattle.s360_channel.specs.Execution.{Run, core_with_run}
use Rattle.s360_channel.specs.Steps.{LiesIn}
use Rattle.s360_channel.specs.UnitChanges.{IsUnitsChangeTo}
use Rattle.s360_channel.proofs.UnitChangeLemmas.{control-set}
use Rattle.s360_machine.specs.declared.beside.Beside.{Beside}
use Rattle.s360_machine.specs.declared.run_state.RunState.TheVariants.{Operating}
use Rattle.s360_machine.specs.ControlCells.{control_cells}
use Rattle.s360_machine.specs.Loading.{after_load, core_after_loading, with_behind, with_below}
use Rattle.s360_machine.specs.Machine.{Machine, Whole}
use Rattle.s360_machine.specs.Planned.{IsControlChangeTo, MakesOthers}

-- a unit that was altered, and is idle at last
abbrev altered : Units → ConfiguredUnit → UnitState → Units
altered us u state = with_control_of us u (record (control_of us u) { state = state })

idle-at-last : (us : Units) (u : ConfiguredUnit) (state : UnitState) → HasEachUnit us → altered (altered us u state) u Idle ≡ altered us u Idle
idle-at-last us u state each =
    let v : UnitControl = record (control_of us u) { state = state }
    in ap (λ (c : UnitControl). with_control_of (with_control_of us u v) u (record c { state = Idle })) (control-set us u v each)
    ∙ set-set us (index_of u) v (record (control_of us u) { state = Idle })

-- what is beside the core when loading ends
pub loaded-others : (w : Whole) (n : Machine) (u : ConfiguredUnit) (state : UnitState) (b d : Beside) → HasEachUnit w.units → n.units ≡ altered w.units u state → MakesOthers w b n
    → IsControlChangeTo w.control (control_cells d.control) (record n.control { run_state = Operating }) → IsUnitsChangeTo w.units d.units (altered w.units u Idle) → d.media ≡ b.media
    → MakesOthers w d (after_load u n)
loaded-others w n u state b d each is h control units em =
    let last : (after_load u n).units ≡ altered w.units u Idle = ap (λ (us : Units). altered us u Idle) is ∙ idle-at-last w.units u state each
    in record { control = control; units = rw last units; media = rw em h.media }

-- two bytes are stored over a run: what of it lies below them, they, and what lies behind them
parts-inside : (xs run : List ℕ) (at b : ℕ) → at + length run ≤ length xs → 4 ≤ length xs → (at < 4 → b ≡ 4) → (4 ≤ at → b ≡ at) → b + length (drop (4 - at) run) ≤ length xs
parts-inside xs run at b h four low high = elim (cases_lt at 4) [
  | inl l ↦ omega (arith, low l, l, h, four, length-drop (4 - at) run)
  | inr u ↦ omega (arith, high u, u, h, four, length-drop (4 - at) run)
]

byte-behind : (xs run two low : List ℕ) (at b i : ℕ) → at + length run ≤ length xs → 4 ≤ length xs → length two ≡ 2 → length low ≡ length xs → (at < 4 → b ≡ 4) → (4 ≤ at → b ≡ at)
    → get_or low i 0 ≡ get_or xs i 0 → 4 ≤ i → get_or (with_run (with_run low 2 two) b (drop (4 - at) run)) i 0 ≡ get_or (with_run xs at run) i 0
byte-behind xs run two low at b i h four t n lo hi same l =
    let size : length (with_run low 2 two) ≡ length xs = length-with_run low two 2 (omega (arith, t, n, four)) ∙ n
    in let fits : b + length (drop (4 - at) run) ≤ length xs = parts-inside xs run at b h four lo hi
    in let rest : get_or (with_run low 2 two) i 0 ≡ get_or xs i 0 = run-after low two 2 i (omega (arith, t, n, four)) (omega (arith, t, l)) ∙ same
    in let count : length (drop (4 - at) run) ≡ length run - (4 - at) = length-drop (4 - at) run
    in let start : (b ≡ 4) × (at < 4) ⊎ (b ≡ at) × (4 ≤ at) = elim (cases_lt at 4) [ inl k ↦ inl (lo k, k) | inr k ↦ inr (hi k, k) ]
    in elim (cases_lt i at) [
      | inl k ↦ run-before (with_run low 2 two) (drop (4 - at) run) b i (omega (arith, size, fits)) (omega (arith, hi (omega (arith, k, l)), k)) ∙ rest ∙ sym (run-before xs run at i h k)
      | inr k ↦ elim (cases_lt i (at + length run)) [
        | inl u ↦ elim start [
          | inl s ↦
              let there : 4 - at + (i - b) ≡ i - at = omega (arith, s.0, s.1, k, l)
              in run-inside (with_run low 2 two) (drop (4 - at) run) b i (omega (arith, size, fits)) (omega (arith, s.0, l)) (omega (arith, s.0, s.1, count, u, l))
              ∙ get_or-drop (4 - at) run (i - b) 0 ∙ ap (λ j. get_or run j 0) there ∙ sym (run-inside xs run at i h k u)
          | inr s ↦
              let there : 4 - at + (i - b) ≡ i - at = omega (arith, s.0, s.1, k, l)
              in run-inside (with_run low 2 two) (drop (4 - at) run) b i (omega (arith, size, fits)) (omega (arith, s.0, k)) (omega (arith, s.0, s.1, count, u))
              ∙ get_or-drop (4 - at) run (i - b) 0 ∙ ap (λ j. get_or run j 0) there ∙ sym (run-inside xs run at i h k u)
        ]
        | inr u ↦ elim start [
          | inl s ↦ run-after (with_run low 2 two) (drop (4 - at) run) b i (omega (arith, size, fits)) (omega (arith, s.0, s.1, count, u, l)) ∙ rest ∙ sym (run-after xs run at i h u)
          | inr s ↦ run-after (with_run low 2 two) (drop (4 - at) run) b i (omega (arith, size, fits)) (omega (arith, s.0, s.1, count, u)) ∙ rest ∙ sym (run-after xs run at i h u)
        ]
      ]
    ]

parts-stored : (xs run two low : List ℕ) (at b : ℕ) → at + length run ≤ length xs → 4 ≤ length xs → length two ≡ 2 → length low ≡ length xs → (at < 4 → b ≡ 4) → (4 ≤ at → b ≡ at)
    → ((i : ℕ) → i < 2 → get_or low i 0 ≡ get_or (with_run xs at run) i 0) → ((i : ℕ) → 4 ≤ i → get_or low i 0 ≡ get_or xs i 0)
    → with_run (with_run low 2 two) b (drop (4 - at) run) ≡ with_run (with_run xs at run) 2 two
parts-stored xs run two low at b h four t n lo hi below above =
    let one : length (with_run xs at run) ≡ length xs = length-with_run xs run at h
    in let size : length (with_run low 2 two) ≡ length xs = length-with_run low two 2 (omega (arith, t, n, four)) ∙ n
    in let fits : b + length (drop (4 - at) run) ≤ length xs = parts-inside xs run at b h four lo hi
    in let left : length (with_run (with_run low 2 two) b (drop (4 - at) run)) ≡ length xs = length-with_run (with_run low 2 two) (drop (4 - at) run) b (omega (arith, size, fits)) ∙ size
    in let right : length (with_run (with_run xs at run) 2 two) ≡ length xs = length-with_run (with_run xs at run) two 2 (omega (arith, t, one, four)) ∙ one
    in let byte : (i : ℕ) → get_or (with_run (with_run low 2 two) b (drop (4 - at) run)) i 0 ≡ get_or (with_run (with_run xs at run) 2 two) i 0
    = λ i. elim (cases_lt i 4) [
      | inl l ↦
          let four_first : 4 ≤ b = elim (cases_lt at 4) [ inl k ↦ omega (arith, lo k) | inr k ↦ omega (arith, hi k, k) ]
          in run-before (with_run low 2 two) (drop (4 - at) run) b i (omega (arith, size, fits)) (omega (arith, four_first, l))
          ∙ elim (cases_lt i 2) [
            | inl k ↦ run-before low two 2 i (omega (arith, t, n, four)) k ∙ below i k ∙ sym (run-before (with_run xs at run) two 2 i (omega (arith, t, one, four)) k)
            | inr k ↦ run-inside low two 2 i (omega (arith, t, n, four)) k (omega (arith, t, l)) ∙ sym (run-inside (with_run xs at run) two 2 i (omega (arith, t, one, four)) k (omega (arith, t, l)))
          ]
      | inr u ↦ byte-behind xs run two low at b i h four t n lo hi (above i u) u ∙ sym (run-after (with_run xs at run) two 2 i (omega (arith, t, one, four)) (omega (arith, t, u)))
    ]
    in same_lists _ _ (left ∙ sym right) (λ k d l. get_or_default _ k d 0 l ∙ byte k ∙ sym (get_or_default _ k d 0 (omega (arith, l, left, right))))

-- what of a run lies below is stored first
pub parts-from-below : (xs run two : List ℕ) (at b : ℕ) → at + length run ≤ length xs → 4 ≤ length xs → length two ≡ 2 → at < 2 → b ≡ 4
    → with_run (with_run (with_run xs at (take (2 - at) run)) 2 two) b (drop (4 - at) run) ≡ with_run (with_run xs at run) 2 two
parts-from-below xs run two at b h four t l e =
    let few : length (take (2 - at) run) ≤ length run = omega (arith, length-take (2 - at) run)
    in let fits : at + length (take (2 - at) run) ≤ length xs = omega (arith, few, h)
    in parts-stored xs run two (with_run xs at (take (2 - at) run)) at b h four t (length-with_run xs (take (2 - at) run) at fits) (λ k. e) (λ k. absurd (omega (arith, k, l)))
    (λ i u. elim (cases_lt i at) [
      | inl k ↦ run-before xs (take (2 - at) run) at i fits k ∙ sym (run-before xs run at i h k)
      | inr k ↦ elim (cases_lt i (at + length run)) [
        | inl v ↦
            run-inside xs (take (2 - at) run) at i fits k (omega (arith, length-take (2 - at) run, u, v, k)) ∙ get_or-take (2 - at) run (i - at) 0 (omega (arith, u, k))
            ∙ sym (run-inside xs run at i h k v)
        | inr v ↦ run-after xs (take (2 - at) run) at i fits (omega (arith, few, v)) ∙ sym (run-after xs run at i h v)
      ]
    ])
    (λ i u. run-after xs (take (2 - at) run) at i fits (omega (arith, length-take (2 - at) run, u, l)))

pub parts-from-behind : (xs run two : List ℕ) (at b : ℕ) → at + length run ≤ length xs → 4 ≤ length xs → length two ≡ 2 → 2 ≤ at → (at < 4 → b ≡ 4) → (4 ≤ at → b ≡ at)
    → with_run (with_run xs 2 two) b (drop (4 - at) run) ≡ with_run (with_run xs at run) 2 two
parts-from-behind xs run two at b h four t l lo hi =
    parts-stored xs run two xs at b h four t refl lo hi (λ i u. sym (run-before xs run at i h (omega (arith, u, l)))) (λ i u. refl)

-- storage where a run is stored
pub length-core-run : (m : Core) (run : Option Run) → IfSome run (λ r. LiesIn m.storage r) → length (core_with_run run m).storage.bytes ≡ length m.storage.bytes
length-core-run m None h = refl
length-core-run m (Some r) h = length-with_run m.storage.bytes r.bytes r.at h.2

-- the puts of the end of loading
pub loaded-made : (m : Core) (run : Option Run) (address psw : ℕ) (two : List ℕ) → IfSome run (λ r. LiesIn m.storage r) → 4 ≤ length m.storage.bytes → two ≡ bytes_high_first 2 address
    → psw ≡ current_psw (doubleword_at (with_run (core_with_run run m).storage.bytes 2 two) 0)
    → with_behind run (core_with_bytes 2 two (with_below run (core_with_psw psw m))) ≡ core_after_loading address (core_with_run run m)
unfolding core_after_loading
loaded-made m None address psw two h four et ep = rw (ep, et) refl
loaded-made m (Some r) address psw two h four et ep =
    let t : length two ≡ 2 = ap length et
    in let last : core_with_psw psw (core_with_bytes 2 two (core_with_bytes r.at r.bytes m)) ≡ core_after_loading address (core_with_run (Some r) m) = rw (ep, et) refl
    in elim (cases_lt r.at 2) [
      | inl l ↦
          rw (lt-ltb r.at 2 l, lt-ltb r.at 4 (omega (arith, l)))
          (ap (λ bs. core_with_psw psw (record m { storage = record m.storage { bytes = bs } })) (parts-from-below m.storage.bytes r.bytes two r.at 4 h.2 four t l refl) ∙ last)
      | inr u ↦
          rw (le-ltb r.at 2 u)
          (ap (λ bs. core_with_psw psw (record m { storage = record m.storage { bytes = bs } }))
          (parts-from-behind m.storage.bytes r.bytes two r.at (if nat_lt r.at 4 then 4 else r.at) h.2 four t u (λ k. rw (lt-ltb r.at 4 k) refl) (λ k. rw (le-ltb r.at 4 k) refl)) ∙ last)
    ]
