-- Lines that are told, at most so many.
use Rattle.std.proofs.Common.{◌≡◌, ◌<◌, ◌≤◌, ◌+◌, ◌++◌, ℕ, true, false, List, [], ◌∷◌, ap, sym, ◌∙◌, arith, length, length-append, take, codes, flat_map, nat_lt, le-ltb, lt-ltb}
use Rattle.std.proofs.lemmas.List.{append-nil, take-append-le, take_all}
use Rattle.std.proofs.lemmas.Grind.{flat_map-append}
use Rattle.s360_inquiry.specs.declared.telling.Telling.{Telling}
use Rattle.s360_inquiry.specs.Tellings.{IsTold, told_lines}

abbrev joined_lines : List (List ℕ) → List ℕ
joined_lines lines = flat_map (λ line. line) lines

-- ---- one line more

-- where fewer than so many are told
pub told-one : (lines : List (List ℕ)) (line : List ℕ) (t u : Telling) → t.lines < 1000 → u.lines ≡ t.lines + 1 → u.text ≡ t.text ++ line
    → IsTold lines t → IsTold (lines ++ line ∷ []) u
told-one lines line t u less count more told =
    let few : length lines < 1000 = omega (arith, less, told.count)
    in let long : length (lines ++ line ∷ []) ≡ length lines + 1 = length-append lines (line ∷ [])
    in record {
      text =
          more ∙ ap (λ (x : List ℕ). x ++ line) told.text
          ∙ ap (λ (x : List (List ℕ)). joined_lines x ++ line) (take_all 1000 lines (omega (arith, few)))
          ∙ ap (λ (x : List ℕ). joined_lines lines ++ x) (sym (append-nil line))
          ∙ sym (flat_map-append (λ (x : List ℕ). x) lines (line ∷ []))
          ∙ ap joined_lines (sym (take_all 1000 (lines ++ line ∷ []) (omega (arith, few, long))));
      count = omega (arith, few, long, count, told.count);
    }

-- where as many are told as may be, it is counted alone
pub counted-one : (lines : List (List ℕ)) (line : List ℕ) (t u : Telling) → 1000 ≤ t.lines → t.lines ≤ 1000 → u.lines ≡ t.lines + 1
    → u.text ≡ t.text → IsTold lines t → IsTold (lines ++ line ∷ []) u
counted-one lines line t u least most count same told =
    let enough : 1000 ≤ length lines = omega (arith, least, told.count)
    in let long : length (lines ++ line ∷ []) ≡ length lines + 1 = length-append lines (line ∷ [])
    in record {
      text = same ∙ told.text ∙ ap joined_lines (sym (take-append-le 1000 lines (line ∷ []) enough));
      count = omega (arith, enough, long, count, most, least, told.count);
    }

-- ---- where no more is told, further lines are as good as told

pub told-full : (lines more : List (List ℕ)) (t : Telling) → 1000 < t.lines → IsTold lines t → IsTold (lines ++ more) t
told-full lines more t full told =
    let enough : 1001 ≤ length lines = omega (arith, full, told.count)
    in let long : length (lines ++ more) ≡ length lines + length more = length-append lines more
    in record {
      text = told.text ∙ ap joined_lines (sym (take-append-le 1000 lines more (omega (arith, enough))));
      count = omega (arith, enough, long, told.count);
    }

-- ---- the whole text

pub finished-full : (lines : List (List ℕ)) (t : Telling) (text : List ℕ) → 1000 < t.lines → text ≡ t.text ++ codes "and more\n" → IsTold lines t → text ≡ told_lines lines
finished-full lines t text full more told =
    let long : nat_lt 1000 (length lines) ≡ true = lt-ltb 1000 (length lines) (omega (arith, full, told.count))
    in rw long (more ∙ ap (λ (x : List ℕ). x ++ codes "and more\n") told.text)

pub finished : (lines : List (List ℕ)) (t : Telling) → t.lines ≤ 1000 → IsTold lines t → t.text ≡ told_lines lines
finished lines t few told =
    let short : nat_lt 1000 (length lines) ≡ false = le-ltb 1000 (length lines) (omega (arith, few, told.count))
    in rw short (told.text ∙ sym (append-nil (joined_lines (take 1000 lines))))
