use Rattle.std.proofs.Common.{ℕ, List, ◌≡◌, ◌∙◌, ap, sym, length, Some, None}
use Rattle.std.specs.List.{position, refill}
use Rattle.s360_store.specs.declared.items.Item.{Item}
use Rattle.s360_store.specs.declared.place.Cell.{Cell}
use Rattle.s360_store.specs.declared.place.Place.{Place}
use Rattle.s360_store.specs.Cells.{IsFresh}
use Rattle.s360_store.specs.Items.{cells_of_items, has_place}
use Rattle.s360_store.proofs.ItemLemmas.{IsFresh-none, Replaced, Replaced-from, refill-same, room-new}
use Rattle.s360_store.proofs.PlanPartLemmas.{after_put-fresh}
use Rattle.s360_store.proofs.cells.Cells.put.Goals as goal

replaced : (c : goal.After-self-1) → Replaced c.self.inside.items.items c.replace.new.items c.self.inside.bytes.items c.args.place c.args.value c.replace.result
replaced c =
    let at : position (λ i. has_place i c.args.place) c.self.inside.items.items ≡ Some c.in-Some.at = rw c.as_slice.ensures.value at (sym c.in-Some.ensures)
    in Replaced-from c.self.inside.items.items c.replace.new.items c.self.inside.bytes.items c.in-Some.at c.args.place c.args.value c.replace.result at c.self.invariant.whole (rw c.as_mut_slice.ensures.value at c.replace.ensures)

written : (c : goal.After-self-1) → refill c.self.inside.items.len c.self.inside.items.items c.replace.new.items ≡ c.replace.new.items
written c = refill-same c.self.inside.items.len c.self.inside.items.items c.replace.new.items (
    (replaced c).long ∙ sym (ap length c.as_mut_slice.ensures.value) ∙ c.as_mut_slice.ensures.len
    )

pub invariant_of-self : goal.invariant_of-self
invariant_of-self c = rw (written c) (record {
  whole = (replaced c).whole;
  all = (replaced c).all ∙ c.self.invariant.all;
  counted = c.self.invariant.counted ∙ sym (replaced c).count;
  few = c.self.invariant.few;
})

fresh : (is : List Item) (bs : List ℕ) (p : Place) (cs : List Cell) → cells_of_items is bs ≡ cs → None ≡ position (λ i. has_place i p) is → IsFresh p cs
fresh is bs p cs e none = rw e at (IsFresh-none is bs p none)

pub push-requires : goal.push-requires
push-requires c = record { room = room-new c.args.self.now c.args.place 1000000 (fresh c.self.inside.items.items c.self.inside.bytes.items c.args.place c.args.self.now c.self.view_is (rw c.as_slice.ensures.value at c.in-None.ensures)) c.requires.room }

pub returns-in-Some-clause-ok : goal.returns-in-Some-clause-ok
returns-in-Some-clause-ok c = rw (written c, ← c.self.view_is) (replaced c).cells

pub returns-in_ok-push-in-None-clause-ok : goal.returns-in_ok-push-in-None-clause-ok
returns-in_ok-push-in-None-clause-ok c =
    c.in_ok-push-in-None.ensures.ok
    ∙ sym (after_put-fresh c.args.self.now c.args.place c.args.value (fresh c.self.inside.items.items c.self.inside.bytes.items c.args.place c.args.self.now c.self.view_is (rw c.as_slice.ensures.value at c.in-None.ensures)))
