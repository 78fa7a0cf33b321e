use Rattle.s360_source.proofs.AnswerLemmas.{walks-answer}
use Rattle.s360_source.proofs.laws.walks_answer.Goals as goal

pub returns : goal.returns
returns g c = walks-answer _
