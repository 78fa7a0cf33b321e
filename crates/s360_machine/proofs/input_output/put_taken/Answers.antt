use Rattle.std.proofs.Common.{◌≡◌, ◌≤◌, ◌∙◌, ap, arith, length}
use Rattle.std.specs.Int.{bytes_high_first}
use Rattle.s360_model.specs.Core.{Core, core_with_psw}
use Rattle.s360_model.specs.Psw.{current_psw, stored_psw}
use Rattle.s360_model.specs.Storage.{Storage, doubleword_at}
use Rattle.s360_psw.specs.declared.instruction_length.InstructionLength.TheVariants.{NotAvailable}
use Rattle.s360_psw.specs.InstructionLength.{length_code_of}
use Rattle.s360_channel.specs.Words.{csw_doubleword}
use Rattle.s360_machine.proofs.InterruptionLemmas.{taken-made}
use Rattle.s360_machine.proofs.input_output.put_taken.Goals as goal

pub returns-clause-made : goal.returns-clause-made
returns-clause-made g c =
    let same : length c.storage.result.now.bytes ≡ length c.args.core.now.storage.bytes = ap (λ (s : Storage). length s.bytes) c.storage.ensures.storage
    in let size : 128 ≤ length c.args.core.now.storage.bytes = omega (arith, same, c.size.ensures.size, c.size.ensures.least)
    in let next : c.from_u64-next.result ≡ current_psw (doubleword_at c.args.core.now.storage.bytes 120)
    = c.from_u64-next.ensures ∙ ap current_psw (rw (c.storage-2.ensures.storage, c.new_location.ensures.location) at c.double.ensures)
    in let old : c.to_be_bytes.result ≡ bytes_high_first 8 (stored_psw c.args.core.now.psw c.args.address (length_code_of NotAvailable)) = rw (c.stored-stored.ensures.value, c.psw.ensures.psw) at c.to_be_bytes.ensures
    in let csw : c.to_be_bytes-2.result ≡ bytes_high_first 8 (csw_doubleword c.args.csw) = rw c.to_u64.ensures at c.to_be_bytes-2.ensures
    in rw csw at (taken-made c.args.core.now (g.P.Puts.made c.put_psw.new.self c.args.core.now) (g.P.Puts.made c.put_bytes.new.self c.args.core.now) (g.P.Puts.made c.put_bytes-2.new.self c.args.core.now) c.args.address c.from_u64-next.result
    c.to_be_bytes.result c.to_be_bytes-2.result size (ap length csw) (c.in_ok-put_psw.ensures.made ∙ ap (λ (k : Core). core_with_psw c.from_u64-next.result k) c.requires.none.same)
    (rw c.old_location.ensures.location at c.in_ok-put_bytes.ensures.made) c.in_ok-put_bytes-2.ensures.made next old)
