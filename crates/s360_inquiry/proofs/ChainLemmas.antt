-- The chain of causes: its nodes one after another.
use Rattle.std.proofs.Common.{◌≡◌, ◌<◌, ◌≤◌, ◌+◌, ◌-◌, ◌++◌, ◌∙◌, ℕ, zero, suc, Bool, false, Option, Result, IfOk, OnOk, Some, None, get_or, List, [], ◌∷◌, ap, sym, subst, refl, arith, append_assoc, codes, length, min, nat_eq, slice_get}
use Rattle.std.proofs.lemmas.List.{append-nil}
use Rattle.std.specs.Option.{option_map_or}
use Rattle.s360_store.specs.declared.place.Place.{Place}
use Rattle.s360_journal.specs.Recorded.{Recorded, with_standing}
use Rattle.s360_inquiry.specs.declared.extent.Extent.{Extent}
use Rattle.s360_inquiry.specs.declared.inquiry.Detail.{Detail}
use Rattle.s360_inquiry.specs.declared.node.Node.{Node}
use Rattle.s360_inquiry.specs.declared.telling.Telling.{Telling}
use Rattle.s360_inquiry.specs.Causes.{IsChain, TellsNode, decided_line, full_line, known_after, most_depth, node_text, node_texts, why_text, why_text_from}
use Rattle.s360_inquiry.specs.Extents.{extent_of}
use Rattle.s360_inquiry.specs.Searches.{last_up_to}
use Rattle.s360_inquiry.specs.Stores.{stores_into}
use Rattle.s360_inquiry.specs.Tellings.{IsTold, most_lines, told_lines}
use Rattle.s360_inquiry.proofs.InquiryLemmas.{if_ok}
use Rattle.s360_inquiry.proofs.WhyLemmas.{same-record}

-- ---- deciders in a line, if there are any

pub decided-some : (items : List (List ℕ)) (empty : Bool) → empty ≡ nat_eq (length items) 0 → empty ≡ false
    → full_line (codes "  decided by") items ≡ decided_line items
decided-some [] empty is some = cc
decided-some (item ∷ items) empty is some = refl

-- ---- nodes that are told one after another

got : {X : Type 0} (xs : List X) (i : ℕ) (x : X) → i < length xs → x ≡ get_or xs i x → slice_get xs i ≡ Some x
got [] i x less is = absurd (omega (arith, less))
got (y ∷ ys) zero x less is = ap (λ z. Some z) (sym is)
got (y ∷ ys) (suc i) x less is = got ys i x (omega (arith, less)) is

not-got : {X : Type 0} (xs : List X) (i : ℕ) → length xs ≤ i → slice_get xs i ≡ None
not-got [] i none = refl
not-got (y ∷ ys) zero none = absurd (omega (arith, none))
not-got (y ∷ ys) (suc i) none = not-got ys i (omega (arith, none))

texts-next : (left told : ℕ) (r : Recorded) (detail : Detail) (known : List Node) (node : Node) → told < length known → node ≡ get_or known told node
    → node_texts (suc left) r detail known told
    ≡ node_text r detail node.number node.extent ∷ node_texts left r detail (known_after r known node.number node.extent node.depth) (told + 1)
texts-next left told r detail known node less is =
    ap (λ (o : Option Node). option_map_or
    (λ (x : Node). node_text r detail x.number x.extent ∷ node_texts left r detail (known_after r known x.number x.extent x.depth) (told + 1))
    o []) (got known told node less is)

-- none is left, or as many are told as may be
pub texts-none : (left told : ℕ) (r : Recorded) (detail : Detail) (known : List Node) → length known ≤ told → node_texts left r detail known told ≡ []
texts-none zero told r detail known none = refl
texts-none (suc left) told r detail known none =
    ap (λ (o : Option Node). option_map_or
    (λ (x : Node). node_text r detail x.number x.extent ∷ node_texts left r detail (known_after r known x.number x.extent x.depth) (told + 1))
    o []) (not-got known told none)

pub texts-full : (r : Recorded) (detail : Detail) (known : List Node) (told : ℕ) → 1001 ≤ told → node_texts (most_lines + 1 - told) r detail known told ≡ []
texts-full r detail known told full =
    let none : most_lines + 1 - told ≡ 0 = omega (arith, full)
    in ap (λ (n : ℕ). node_texts n r detail known told) none

-- a node is told by what its event made
pub tells-same : {T E : Type 0} (result : Result T E) (r s : Recorded) (detail : Detail) (n number : ℕ) (e extent : Extent) (t u : Telling) → s ≡ r
    → number ≡ n → extent ≡ e → OnOk result (TellsNode s detail number extent t u) → OnOk result (TellsNode r detail n e t u)
tells-same result r s detail n number e extent t u same numbered made told = rw (← same, ← numbered, ← made) told

-- none is told yet
pub chain-start : (r : Recorded) (detail : Detail) (first : Node) (known : List Node) (t : Telling) → known ≡ first ∷ [] → t.text ≡ [] → t.lines ≡ 0
    → IsChain r detail first known 0 t
chain-start r detail first known t is text lines =
    ([], record { text = text; count = lines }, ap (λ (ks : List Node). node_texts (most_lines + 1) r detail ks 0) is)

pub chain-more : (r x : Recorded) (detail : Detail) (known new : List Node) (told : ℕ) (node first : Node) (t u : Telling) → told < 1001
    → told < length known → node ≡ get_or known told node → with_standing x 0 ≡ r
    → TellsNode (with_standing x 0) detail node.number node.extent t u
    → new ≡ known_after (with_standing x 0) known node.number node.extent node.depth → IsChain r detail first known told t → IsChain r detail first new (told + 1) u
chain-more r x detail known new told node first t u room less is same tells more (lines, before, whole) =
    let text : List ℕ = node_text r detail node.number node.extent
    in let left : most_lines + 1 - told ≡ suc (most_lines + 1 - (told + 1)) = omega (arith, room)
    in let next : new ≡ known_after r known node.number node.extent node.depth
    = more ∙ ap (λ (y : Recorded). known_after y known node.number node.extent node.depth) same
    in (
      lines ++ text ∷ [],
      subst (λ (y : Recorded). IsTold (lines ++ node_text y detail node.number node.extent ∷ []) u) same (tells lines before),
      append_assoc lines (text ∷ []) (node_texts (most_lines + 1 - (told + 1)) r detail new (told + 1))
          ∙ ap (λ (ns : List Node). lines ++ text ∷ node_texts (most_lines + 1 - (told + 1)) r detail ns (told + 1)) next
          ∙ ap (λ (ts : List (List ℕ)). lines ++ ts) (sym (texts-next (most_lines + 1 - (told + 1)) told r detail known node less is))
          ∙ ap (λ (n : ℕ). lines ++ node_texts n r detail known told) (sym left)
          ∙ whole,
    )

-- no more nodes are told
pub chain-end : {E : Type 0} (r : Recorded) (detail : Detail) (known : List Node) (told : ℕ) (first : Node) (t : Telling) (result : Result (List ℕ) E)
    → node_texts (most_lines + 1 - told) r detail known told ≡ [] → IsChain r detail first known told t
    → IfOk result (λ text. (lines : List (List ℕ)) → IsTold lines t → text ≡ told_lines lines)
    → IfOk result (λ text. text ≡ told_lines (node_texts (most_lines + 1) r detail (first ∷ []) 0))
chain-end r detail known told first t result none (lines, before, whole) finish =
    if_ok result finish (λ text tells.
    tells lines before ∙ ap told_lines (sym (append-nil lines) ∙ ap (λ (ts : List (List ℕ)). lines ++ ts) (sym none) ∙ whole))

-- ---- the whole answer

pub why-told : (r x : Recorded) (place : Place) (depth deep number : ℕ) (detail : Detail) (extent : Extent) (text : List ℕ) → extent ≡ extent_of place
    → x ≡ with_standing r x.standing → deep ≡ min depth most_depth → Some number ≡ last_up_to (stores_into extent r) r.standing
    → text ≡ told_lines (node_texts (most_lines + 1) (with_standing x 0) detail (record { number = number; extent = extent; depth = deep } ∷ []) 0)
    → text ≡ why_text r place depth detail
why-told r x place depth deep number detail extent text is here least last told =
    let chain : Recorded → Extent → ℕ → List ℕ
    = λ (y : Recorded) (e : Extent) (d : ℕ). told_lines (node_texts (most_lines + 1) y detail (record { number = number; extent = e; depth = d } ∷ []) 0)
    in told
    ∙ ap (λ (y : Recorded). chain y extent deep) (same-record r x here)
    ∙ ap (λ (e : Extent). chain (with_standing r 0) e deep) is
    ∙ ap (λ (d : ℕ). chain (with_standing r 0) (extent_of place) d) least
    ∙ ap (λ (o : Option ℕ). why_text_from r place (min depth most_depth) detail o) (last ∙ ap (λ (e : Extent). last_up_to (stores_into e r) r.standing) is)

pub why-start : (r : Recorded) (place : Place) (depth : ℕ) (detail : Detail) (extent : Extent) (text : List ℕ) → extent ≡ extent_of place
    → None ≡ last_up_to (stores_into extent r) r.standing → text ≡ why_text_from r place (min depth most_depth) detail None → text ≡ why_text r place depth detail
why-start r place depth detail extent text is last told =
    told
    ∙ ap (λ (o : Option ℕ). why_text_from r place (min depth most_depth) detail o) (last ∙ ap (λ (e : Extent). last_up_to (stores_into e r) r.standing) is)
