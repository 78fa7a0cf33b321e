use Rattle.std.proofs.Common.{◌≡◌, ◌∷◌, [], ℕ, ap, get_or}
use Rattle.std.specs.Int.{bytes_high_first}
use Rattle.s360_fixed.specs.declared.second_operand.Width.TheVariants.{Byte, Halfword, Word}
use Rattle.s360_fixed.specs.Storing.{bytes_outcome, store_outcome}
use Rattle.s360_fixed.proofs.load_store.put_register.Goals as goal

pub returns-in-Byte : goal.returns-in-Byte
returns-in-Byte g c =
    let same : bytes_outcome (get_or c.to_be_bytes.result 3 0 ∷ []) c.args.view.now c.args.address ≡ store_outcome Byte c.args.view.now c.args.r1 c.args.address
    = rw c.to_be_bytes.ensures (ap (λ (w : ℕ). bytes_outcome (bytes_high_first 1 w) c.args.view.now c.args.address) c.register.ensures.word)
    in rw c.in-Byte.is (rw same at c.put_store.ensures)

pub returns-in-Halfword : goal.returns-in-Halfword
returns-in-Halfword g c =
    let same : bytes_outcome (get_or c.to_be_bytes.result 2 0 ∷ get_or c.to_be_bytes.result 3 0 ∷ []) c.args.view.now c.args.address ≡ store_outcome Halfword c.args.view.now c.args.r1 c.args.address
    = rw c.to_be_bytes.ensures (ap (λ (w : ℕ). bytes_outcome (bytes_high_first 2 w) c.args.view.now c.args.address) c.register.ensures.word)
    in rw c.in-Halfword.is (rw same at c.put_store-in-Halfword.ensures)

pub returns-in-Word : goal.returns-in-Word
returns-in-Word g c =
    let same : bytes_outcome (get_or c.to_be_bytes.result 0 0 ∷ get_or c.to_be_bytes.result 1 0 ∷ get_or c.to_be_bytes.result 2 0 ∷ get_or c.to_be_bytes.result 3 0 ∷ []) c.args.view.now c.args.address ≡ store_outcome Word c.args.view.now c.args.r1 c.args.address
    = rw c.to_be_bytes.ensures (ap (λ (w : ℕ). bytes_outcome (bytes_high_first 4 w) c.args.view.now c.args.address) c.register.ensures.word)
    in rw c.in-Word.is (rw same at c.put_store-in-Word.ensures)
