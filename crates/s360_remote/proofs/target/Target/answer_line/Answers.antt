use Rattle.std.proofs.Common.{◌≡◌, ◌∙◌, ℕ, Some, None, ap, sym}
use Rattle.s360_saving.specs.Reading.{saving_of}
use Rattle.s360_remote.proofs.CommandLemmas.{at_once-begun, at_once-served, saved-begun, saved-served}
use Rattle.s360_remote.specs.Serving.{with_moved, with_moved_from}
use Rattle.s360_remote.proofs.target.Target.answer_line.Goals as goal

pub returns-in-Some : goal.returns-in-Some
returns-in-Some c =
    let is : saving_of c.args.line.now ≡ Some c.in-Some.asked = sym (rw c.as_slice.ensures at (rw c.in-Some.is at c.read_saving.ensures))
    in let moved : c.note_moved.new.self ≡ with_moved c.args.self.now c.save-next.new.target
    = c.note_moved.ensures ∙ ap (λ (n : ℕ). with_moved_from n c.save-next.new.target) c.standing-standing.ensures.standing
    in record {
      served = saved-served c.save-next.result _ c.in-Some.asked c.args.line.now c.args.self.now c.save-next.new.target c.note_moved.new.self c.args.replies.now c.save-next.new.replies
          c.save-next.ensures.state moved is c.save-next.ensures.served;
      begun = saved-begun c.save-next.result _ c.in-Some.asked c.args.line.now c.args.self.now c.save-next.new.target c.note_moved.new.self c.save-next.ensures.begun moved is;
    }

pub returns-in-None : goal.returns-in-None
returns-in-None c =
    let is : saving_of c.args.line.now ≡ None = sym (rw c.as_slice.ensures at (rw c.in-None.is at c.read_saving.ensures))
    in record {
      served = at_once-served c.answer_at_once.result _ c.args.line.now c.args.self.now c.answer_at_once.new.self c.args.replies.now c.answer_at_once.new.replies is
          (rw c.as_slice-in-None.ensures at c.answer_at_once.ensures.served);
      begun = at_once-begun c.answer_at_once.result _ c.args.line.now c.args.self.now c.answer_at_once.new.self is (rw c.as_slice-in-None.ensures at c.answer_at_once.ensures.begun);
    }
