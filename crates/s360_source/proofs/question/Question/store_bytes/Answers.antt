use Rattle.std.proofs.Common.{◌∙◌, ◌++◌, sym, ap, false, true}
use Rattle.s360_source.specs.Parts.{places_of_parts}
use Rattle.s360_source.proofs.QuestionLemmas.{bytes-told}
use Rattle.s360_source.proofs.question.Question.store_bytes.Goals as goal

pub returns-then-is_one_of : goal.returns-then-is_one_of
returns-then-is_one_of c =
    c.in_ok-push_parts.ensures
    ∙ ap (λ ps. ps ++ places_of_parts c.args.parts.now) c.clear.ensures.items
    ∙ bytes-told c.args.self c.in-Sources.asked c.args.address c.args.count c.number.result c.from-count.result true (places_of_parts c.args.parts.now)
    c.args.found.now.items c.in-Sources.is c.number.ensures.value c.from-count.ensures (sym c.if-is_one_of.true ∙ c.is_one_of.ensures)

pub returns-in-Sources : goal.returns-in-Sources
returns-in-Sources c =
    bytes-told c.args.self c.in-Sources.asked c.args.address c.args.count c.number.result c.from-count.result false (places_of_parts c.args.parts.now)
    c.args.found.now.items c.in-Sources.is c.number.ensures.value c.from-count.ensures (sym c.if-is_one_of.false ∙ c.is_one_of.ensures)
