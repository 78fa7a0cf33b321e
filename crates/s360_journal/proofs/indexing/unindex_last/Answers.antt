use Rattle.std.proofs.Common.{◌-◌, ◌∷◌, [], take, append-nil}
use Rattle.s360_store.specs.declared.place.Place.TheVariants.{Psw, Register}
use Rattle.s360_store.specs.declared.span.Span.{Span}
use Rattle.s360_store.specs.declared.span.Span.TheVariants.{Place as OnePlace, Bytes}
use Rattle.s360_store.specs.Spans.{places_of_span}
use Rattle.s360_machine.specs.Change.{Change}
use Rattle.s360_machine.specs.ChangeSpans.{AreSpansOf, spans_apart}
use Rattle.s360_journal.specs.Indexed.{MayIndex}
use Rattle.s360_journal.proofs.IndexLemmas.{IsLastOf, last-of, unindex-all, unindex-within, unindexing-all, unindexing-begun, unindexing-more}
use Rattle.s360_journal.proofs.indexing.unindex_last.Goals as goal

abbrev PSW : Span
PSW = OnePlace Psw

pub returns-in-Within-Psw : goal.returns-in-Within-Psw
returns-in-Within-Psw c =
    let last : (x : Change) × IsLastOf c.args.changes.now c.args.number x = last-of c.args.changes.now c.args.number c.requires.some c.requires.last
    in let spans : AreSpansOf (PSW ∷ []) last.0 = rw c.in-Within-Psw.field-0-is at (rw last.1.found_last at c.in-Within-Psw.ensures)
    in let may : MayIndex c.args.index.now (take (c.args.number - 1) c.args.changes.now) last.0 = rw last.1.found at c.requires.index
    in unindex-all c.args.index.now c.take.new.self (take (c.args.number - 1) c.args.changes.now) last.0 c.args.number (PSW ∷ []) last.1.count spans may c.take.ensures

pub returns-in-Within-Register : goal.returns-in-Within-Register
returns-in-Within-Register c =
    let last : (x : Change) × IsLastOf c.args.changes.now c.args.number x = last-of c.args.changes.now c.args.number c.requires.some c.requires.last
    in let other : Span = OnePlace (Register c.in-Within-Register.register)
    in let spans : AreSpansOf (PSW ∷ (other ∷ [])) last.0 = rw c.in-Within-Register.field-0-is at (rw last.1.found_last at c.in-Within-Register.ensures)
    in let may : MayIndex c.args.index.now (take (c.args.number - 1) c.args.changes.now) last.0 = rw last.1.found at c.requires.index
    in unindex-within c.args.index.now c.take-in-Within-Register.new.self c.take-in-Within-Register-2.new.self (take (c.args.number - 1) c.args.changes.now) last.0 c.args.number (PSW ∷ []) (other ∷ [])
    last.1.count spans may c.take-in-Within-Register.ensures c.take-in-Within-Register-2.ensures

pub returns-in-Within-Bytes : goal.returns-in-Within-Bytes
returns-in-Within-Bytes c =
    let last : (x : Change) × IsLastOf c.args.changes.now c.args.number x = last-of c.args.changes.now c.args.number c.requires.some c.requires.last
    in let other : Span = Bytes c.in-Within-Bytes.address c.in-Within-Bytes.count
    in let spans : AreSpansOf (PSW ∷ (other ∷ [])) last.0 = rw c.in-Within-Bytes.field-0-is at (rw last.1.found_last at c.in-Within-Bytes.ensures)
    in let may : MayIndex c.args.index.now (take (c.args.number - 1) c.args.changes.now) last.0 = rw last.1.found at c.requires.index
    in unindex-within c.args.index.now c.take-in-Within-Bytes.new.self c.take-in-Within-Bytes-2.new.self (take (c.args.number - 1) c.args.changes.now) last.0 c.args.number (PSW ∷ []) (other ∷ [])
    last.1.count spans may c.take-in-Within-Bytes.ensures (rw (append-nil (places_of_span other)) c.take-in-Within-Bytes-2.ensures)

pub loop-span-init : goal.loop-span-init
loop-span-init c =
    let last : (x : Change) × IsLastOf c.args.changes.now c.args.number x = last-of c.args.changes.now c.args.number c.requires.some c.requires.last
    in let spans : AreSpansOf (spans_apart c.into_iter-span-iterator.result) last.0 = rw c.into_iter-span-iterator.ensures.into_iter_gives (rw last.1.found_last at c.in-Apart.ensures)
    in unindexing-begun c.args.number c.args.index.now (spans_apart c.into_iter-span-iterator.result) spans.whole

pub loop-span-preserved : goal.loop-span-preserved
loop-span-preserved c =
    let last : (x : Change) × IsLastOf c.args.changes.now c.args.number x = last-of c.args.changes.now c.args.number c.requires.some c.requires.last
    in let may : MayIndex c.args.index.now (take (c.args.number - 1) c.args.changes.now) last.0 = rw last.1.found at c.requires.index
    in unindexing-more c.args.index.now c.loop-span.index c.take-in-loop-span.new.self (take (c.args.number - 1) c.args.changes.now) last.0 c.args.number (spans_apart c.into_iter-span-iterator.result) (spans_apart c.loop-span.span-iterator)
    (spans_apart c.next.new.self) c.in-Some.span c.in-Some.ensures.steps last.1.count may c.loop-span.invariant c.take-in-loop-span.ensures

pub returns-in-None : goal.returns-in-None
returns-in-None c =
    let last : (x : Change) × IsLastOf c.args.changes.now c.args.number x = last-of c.args.changes.now c.args.number c.requires.some c.requires.last
    in let spans : AreSpansOf (spans_apart c.into_iter-span-iterator.result) last.0 = rw c.into_iter-span-iterator.ensures.into_iter_gives (rw last.1.found_last at c.in-Apart.ensures)
    in let may : MayIndex c.args.index.now (take (c.args.number - 1) c.args.changes.now) last.0 = rw last.1.found at c.requires.index
    in unindexing-all c.args.index.now c.loop-span.index (take (c.args.number - 1) c.args.changes.now) last.0 c.args.number (spans_apart c.into_iter-span-iterator.result) (spans_apart c.loop-span.span-iterator)
    c.in-None.ensures.steps.0 last.1.count spans may c.loop-span.invariant
