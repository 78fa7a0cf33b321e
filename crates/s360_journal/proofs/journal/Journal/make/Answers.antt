use Rattle.std.proofs.Common.{sym, subst}
use Rattle.std.proofs.lemmas.Result.{on_ok_weaker}
use Rattle.s360_machine.specs.Change.{CanSwap, HasRoom}
use Rattle.s360_machine.specs.Machine.{Whole}
use Rattle.s360_journal.proofs.IndexLemmas.{index-appended}
use Rattle.s360_journal.proofs.SessionLemmas.{if-appended, leads-on, some-appended}
use Rattle.s360_journal.proofs.journal.Journal.make.Goals as goal

pub make_last-requires-clause-some : goal.make_last-requires-clause-some
make_last-requires-clause-some c = some-appended c.self.inside.changes c.append_event.new.self c.in_ok-append_event.ensures.ok.change c.in_ok-append_event.ensures.ok.appended

pub make_last-requires-clause-index : goal.make_last-requires-clause-index
make_last-requires-clause-index c = index-appended c.self.inside.index c.self.inside.changes c.append_event.new.self c.in_ok-append_event.ensures.ok.change c.in_ok-append_event.ensures.ok.appended c.self.invariant

pub make_last-requires-clause-can : goal.make_last-requires-clause-can
make_last-requires-clause-can c =
    if-appended c.self.inside.changes c.append_event.new.self c.in_ok-append_event.ensures.ok.change (λ x. CanSwap c.append_event.new.machine.whole x) c.in_ok-append_event.ensures.ok.appended
    (subst (λ (k : Whole). CanSwap k c.in_ok-append_event.ensures.ok.change) (sym c.append_event.ensures.whole) c.in_ok-append_event.ensures.ok.change_to.can)

pub make_last-requires-clause-room : goal.make_last-requires-clause-room
make_last-requires-clause-room c =
    if-appended c.self.inside.changes c.append_event.new.self c.in_ok-append_event.ensures.ok.change (λ x. HasRoom c.append_event.new.machine.spare x) c.in_ok-append_event.ensures.ok.appended c.in_ok-append_event.ensures.ok.room

pub returns-clause-ok : goal.returns-clause-ok
returns-clause-ok c = rw (← c.self.view_is) (on_ok_weaker c.make_last.result (λ made.
    leads-on c.self.inside.machine.whole c.append_event.new.machine.whole c.make_last.new.machine.whole c.self.inside.changes c.append_event.new.self c.make_last.new.changes c.args.event.now
    c.in_ok-append_event.ensures.ok.change (rw (← c.self.view_is) at c.requires.accepted) c.in_ok-append_event.ensures.ok.change_to c.append_event.ensures.whole c.in_ok-append_event.ensures.ok.appended made) c.make_last.ensures.made)
