use Rattle.std.proofs.Common.{◌≡◌, ◌≤◌, ◌∙◌, ◌+◌, ap, arith, length, refl, length-set}
use Rattle.s360_logic.specs.Operands.{stored_in}
use Rattle.s360_logic.specs.RightToLeft.{DigitMove, storage_before}
use Rattle.s360_logic.proofs.RightToLeftLemmas.{HasMade-first, HasMade-next}
use Rattle.s360_logic.proofs.right_to_left.make_digits.Goals as goal

pub loop-i-init : goal.loop-i-init
loop-i-init c =
    let o = c.args.operand.now
    in rw (c.digits-held.ensures, c.byte_from_right.ensures) (record {
      made = HasMade-first (record { row = c.args.row; zone = c.args.zone; first = c.args.first; second = c.args.second }) (stored_in o);
      storage = refl;
      address = c.requires.address;
      count = c.requires.count;
      n = c.len-count.ensures.len ∙ c.requires.count;
    })

pub loop-i-preserved : goal.loop-i-preserved
loop-i-preserved c =
    let o = c.loop-i.operand
    in let i = c.loop-i.invariant
    in let d : DigitMove = record { row = c.args.row; zone = c.args.zone; first = c.args.first; second = c.args.second }
    in let inside : o.address + length o.bytes ≤ length o.storage.bytes = rw (i.address, i.count, i.storage) (omega (arith, c.len-count.ensures.inside, c.len-count.ensures.len, c.requires.address, c.requires.count))
    in rw (c.set.ensures, i.n) (record {
      made = HasMade-next d (stored_in c.args.operand.now) c.loop-i.i c.loop-i.held c.next_byte-next.result o (omega (arith, c.len-count.ensures.len, c.requires.count)) i.count i.address inside c.next_byte-next.ensures i.made;
      storage = i.storage;
      address = i.address;
      count = length-set o.bytes _ c.next_byte-next.result.byte ∙ i.count;
      n = refl;
    })

pub returns-clause-stored : goal.returns-clause-stored
returns-clause-stored c =
    let d : DigitMove = record { row = c.args.row; zone = c.args.zone; first = c.args.first; second = c.args.second }
    in let all : c.loop-i.i ≡ d.first.count = omega (arith, c.loop-i.invariant.n)
    in c.loop-i.invariant.made.stored ∙ ap (λ k. storage_before d (stored_in c.args.operand.now) k k) all
