use Rattle.std.proofs.Common.{◌≡◌, ◌++◌, ◌∙◌, Err, Ok, ap, rules, subst, sym}
use Rattle.s360_packet.specs.Requests.{Reads, reading_of}
use Rattle.s360_remote.specs.Connecting.{Connected, answer_to_fault}
use Rattle.s360_remote.specs.ErrorNumbers.{error_of}
use Rattle.s360_remote.specs.Replies.{packet_of}
use Rattle.s360_remote.specs.declared.error_number.ErrorNumber.TheVariants.{Memory}
use Rattle.s360_remote.proofs.ServingLemmas.{answered-fault, answered-interrupted, answered-memory, answered-request}
use Rattle.s360_remote.proofs.connection.Connection.answer.Goals as goal

pub returns-in-Err : goal.returns-in-Err
returns-in-Err c =
    let bytes : c.data.result.now ≡ c.args.self.now.receiving.bytes = c.data.ensures.bytes ∙ ap (λ (x : Connected). x.receiving.bytes) c.self.view_is
    in let reads : Reads (reading_of c.args.self.now.receiving.bytes) (Err c.in-Err.fault) = subst (λ b. Reads (reading_of b) (Err c.in-Err.fault)) bytes c.in-Err.ensures
    in let pushed : c.push_packet.new.text ≡ c.args.replies.now ++ packet_of (answer_to_fault c.in-Err.fault) = rw c.answer_to_fault.ensures at c.in_ok-push_packet-in-Err.ensures
    in answered-fault (reading_of c.args.self.now.receiving.bytes) c.args.self.now c.args.target.now c.in-Err.fault c.args.replies.now c.push_packet.new.text reads pushed

pub returns-then-is_interrupted : goal.returns-then-is_interrupted
returns-then-is_interrupted c =
    let bytes : c.data.result.now ≡ c.args.self.now.receiving.bytes = c.data.ensures.bytes ∙ ap (λ (x : Connected). x.receiving.bytes) c.self.view_is
    in let reads : Reads (reading_of c.args.self.now.receiving.bytes) (Ok c.in-Ok.request) = subst (λ b. Reads (reading_of b) (Ok c.in-Ok.request)) bytes c.in-Ok.ensures
    in let told = c.in_ok-tell_interruption.ensures
    in (
      told.0,
      answered-interrupted (reading_of c.args.self.now.receiving.bytes) c.args.self.now c.tell_interruption.new.self c.args.target.now c.in-Ok.request told.0 reads
          (sym c.is_interrupted.ensures ∙ c.if-is_interrupted.true) told.1,
      told.2,
    )

pub returns-in-Ok-serve : goal.returns-in-Ok-serve
returns-in-Ok-serve c =
    let bytes : c.data.result.now ≡ c.args.self.now.receiving.bytes = c.data.ensures.bytes ∙ ap (λ (x : Connected). x.receiving.bytes) c.self.view_is
    in let reads : Reads (reading_of c.args.self.now.receiving.bytes) (Ok c.in-Ok.request) = subst (λ b. Reads (reading_of b) (Ok c.in-Ok.request)) bytes c.in-Ok.ensures
    in let served = c.in-Ok-serve.ensures.served
    in let whole : c.push_bytes.new.self ≡ c.args.replies.now ++ served.0 = search rules
    in (
      served.0,
      answered-request (reading_of c.args.self.now.receiving.bytes) c.args.self.now c.go_on.new.self c.args.target.now c.serve.new.self c.in-Ok.request c.in-Ok-serve.next c.go_on.result served.0
          reads (sym c.is_interrupted.ensures ∙ c.if-is_interrupted.false) served.1 c.go_on.ensures.state c.go_on.ensures.errand,
      whole,
    )

pub returns : goal.returns
returns c =
    let bytes : c.data.result.now ≡ c.args.self.now.receiving.bytes = c.data.ensures.bytes ∙ ap (λ (x : Connected). x.receiving.bytes) c.self.view_is
    in let reads : Reads (reading_of c.args.self.now.receiving.bytes) (Ok c.in-Ok.request) = subst (λ b. Reads (reading_of b) (Ok c.in-Ok.request)) bytes c.in-Ok.ensures
    in (
      packet_of (error_of Memory),
      answered-memory (reading_of c.args.self.now.receiving.bytes) c.args.self.now c.args.target.now c.serve.new.self c.in-Ok.request reads (sym c.is_interrupted.ensures ∙ c.if-is_interrupted.false) c.in-Err-serve.ensures.begun,
      rw c.answer.ensures at c.in_ok-push_packet-in-Err-serve.ensures,
    )
