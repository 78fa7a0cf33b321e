use Rattle.std.proofs.Common.{◌≡◌, ◌∙◌, List, ap, take, arith, length}
use Rattle.s360_machine.specs.Change.{Change}
use Rattle.s360_machine.specs.Packed.{IsEnd, Lists, changes_of_rows, lists, lists_to}
use Rattle.s360_machine.proofs.PackedLemmas.{first-changes, length-changes, same-lists}
use Rattle.s360_machine.proofs.packed.Packed.keep.Goals as goal
use Rattle.s360_machine.proofs.packed.Packed.keep.Goals.{After-truncate-4}

pub end_of-end-requires-clause-inside : goal.end_of-end-requires-clause-inside
end_of-end-requires-clause-inside c =
    let inside = rw (← c.self.view_is) at c.requires
    in omega (arith, inside, ap length c.deref.ensures.value, length-changes c.self.inside.rows.items (lists c.self.inside.items.items c.self.inside.bytes.items c.self.inside.beside.items))

ended : (c : After-truncate-4) → IsEnd c.self.inside.rows.items (lists c.self.inside.items.items c.self.inside.bytes.items c.self.inside.beside.items) c.end_of-end.result
ended c = rw (c.deref.ensures.value, c.deref-2.ensures.value, c.deref-3.ensures.value, c.deref-4.ensures.value) at c.end_of-end.ensures.end

pub returns : goal.returns
returns c =
    let ls : Lists = lists c.self.inside.items.items c.self.inside.bytes.items c.self.inside.beside.items
    in let new : Lists = lists c.truncate-2.new.self.items c.truncate-3.new.self.items c.truncate-4.new.self.items
    in let here : IsEnd c.self.inside.rows.items ls c.end_of-end.result = ended (goal.at.returns c).After-truncate-4
    in let first : changes_of_rows (take c.end_of-end.result.rows c.self.inside.rows.items) (lists_to c.end_of-end.result ls) ≡ take c.end_of-end.result.rows (changes_of_rows c.self.inside.rows.items ls)
    = first-changes c.self.inside.rows.items ls c.end_of-end.result here
    in let kept : new ≡ lists_to c.end_of-end.result ls = same-lists new (lists_to c.end_of-end.result ls) c.truncate-2.ensures.items c.truncate-3.ensures.items c.truncate-4.ensures.items
    in ap (λ rs. changes_of_rows rs new) c.truncate.ensures.items ∙ ap (λ k. changes_of_rows (take c.end_of-end.result.rows c.self.inside.rows.items) k) kept ∙ first
    ∙ ap (λ n. take n (changes_of_rows c.self.inside.rows.items ls)) c.end_of-end.ensures.rows ∙ ap (λ (xs : List Change). take c.args.count xs) c.self.view_is
