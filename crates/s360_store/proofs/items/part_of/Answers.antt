use Rattle.std.proofs.Common.{◌≡◌, ◌∙◌, ◌-◌, ◌+◌, ap, sym, take, drop, arith}
use Rattle.std.proofs.lemmas.List.{drop-take}
use Rattle.s360_store.specs.Cells.{byte_cells}
use Rattle.s360_store.proofs.ItemLemmas.{byte_cells-drop}
use Rattle.s360_store.proofs.items.part_of.Goals as goal

pub returns-in-Run-clause-is : goal.returns-in-Run-clause-is
returns-in-Run-clause-is c =
    let whole : c.in-Run.count ≡ c.args.within + (c.in-Run.count - c.args.within) = (let few = rw c.in-Run.is at c.requires.within in omega (arith, few))
    in let part : drop c.args.within (take c.in-Run.count c.args.bytes.now) ≡ take (c.in-Run.count - c.args.within) (drop c.args.within c.args.bytes.now)
    = ap (λ n. drop c.args.within (take n c.args.bytes.now)) whole ∙ drop-take c.args.within (c.in-Run.count - c.args.within) c.args.bytes.now
    in rw c.in-Run.is (sym (byte_cells-drop c.in-Run.address c.args.within (take c.in-Run.count c.args.bytes.now) ∙ ap (byte_cells (c.in-Run.address + c.args.within)) part))
