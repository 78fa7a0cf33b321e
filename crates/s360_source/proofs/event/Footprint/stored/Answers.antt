use Rattle.std.proofs.Common.{◌∙◌, ap}
use Rattle.s360_footprint.specs.EventRows.{EventEnd, row_in}
use Rattle.s360_source.specs.declared.question.Question.{Question}
use Rattle.s360_source.specs.Footprints.{Footprint}
use Rattle.s360_source.specs.Walks.{walked}
use Rattle.s360_source.proofs.AnswerLemmas.{walks-answer}
use Rattle.s360_source.proofs.event.Footprint.stored.Goals as goal

pub returns : goal.returns
returns c =
    let f : Footprint = c.args.self.now
    in let row = row_in f.machine f.event
    in c.in_ok-push.ensures ∙ ap (walked Question.Stored row f.machine) c.new-found.ensures.items ∙ walks-answer EventEnd Question.Stored row f.machine tt
