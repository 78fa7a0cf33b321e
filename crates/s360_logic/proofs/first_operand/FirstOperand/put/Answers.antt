use Rattle.std.proofs.Common.{ap, arith, length, refl}
use Rattle.s360_logic.proofs.FieldLemmas.{stored-made}
use Rattle.s360_logic.proofs.first_operand.FirstOperand.put.Goals as goal

pub returns : goal.returns
returns g c = record {
  ends = refl;
  makes = stored-made c.args.view.now c.args.self.now c.args.code _ _ _ _ c.requires.none.same (rw c.core.ensures at c.in_ok-put_psw.ensures.made)
      (rw (c.core-2.ensures, c.address-2.ensures, c.bytes.ensures.bytes) at c.in_ok-put_bytes.ensures.made)
      (rw (c.psw_with.ensures, c.psw.ensures.psw, c.next_address.ensures) at c.with_instruction_address-psw.ensures)
      c.requires.storage;
  allowed = rw c.core-2.ensures at c.in_ok-put_bytes.ensures.may;
  few = omega (arith, c.in_ok-put_bytes.ensures.few, c.in_ok-put_psw.ensures.few, c.requires.none.none, ap length c.bytes.ensures.bytes, c.len.ensures.len, c.len.ensures.few);
  follow = tt;
}
