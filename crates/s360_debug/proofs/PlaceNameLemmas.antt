-- The names of places, one more at the end.
use Rattle.std.proofs.Common.{◌≡◌, ◌++◌, List, [], ◌∷◌, ap, sym, ◌∙◌, append_assoc, codes, append-nil}
use Rattle.s360_store.specs.declared.place.Place.{Place}
use Rattle.s360_language.specs.Names.{place_name}
use Rattle.s360_debug.specs.Answers.{place_names}

pub place_names-push : (ps : List Place) (p : Place) → place_names (ps ++ p ∷ []) ≡ place_names ps ++ (codes " " ++ place_name p)
place_names-push [] p = append-nil (codes " " ++ place_name p)
place_names-push (q ∷ ps) p =
    ap (λ l. (codes " " ++ place_name q) ++ l) (place_names-push ps p) ∙ sym (append_assoc (codes " " ++ place_name q) (place_names ps) (codes " " ++ place_name p))
