use Rattle.std.proofs.Common.{◌≡◌, ◌%◌, ◌+◌, ◌++◌, ap, length, slice_index, refl, arith, length-append}
use Rattle.arrayvec.specs.ArrayVec.{array_vec_len}
use Rattle.std.specs.Int.{bytes_high_first}
use Rattle.s360_fixed.proofs.PutLemmas.{with_registers_stored-more}
use Rattle.s360_fixed.proofs.puts.put_words.Goals as goal

pub loop-i-preserved : goal.loop-i-preserved
loop-i-preserved g c =
    let word : c.to_be_bytes-word.result ≡ bytes_high_first 4 (slice_index c.args.view.now.core.registers ((c.args.words.now.r1 + c.loop-i.i) % 16))
    = rw (c.to_be_bytes-word.ensures, c.register.ensures.word, c.register_after.ensures) refl
    in let count : length c.to_be_bytes-word.result ≡ 4 = rw word refl
    in let added : c.try_extend_from_slice.new.self.items ≡ c.loop-i.bytes.items ++ c.to_be_bytes-word.result = rw c.unwrap.ensures at c.try_extend_from_slice.ensures.ok
    in let held : array_vec_len c.try_extend_from_slice.new.self ≡ array_vec_len c.loop-i.bytes + length c.to_be_bytes-word.result = rw c.unwrap.ensures at c.try_extend_from_slice.ensures.len
    in record {
      stored = rw added (with_registers_stored-more _ c.args.view.now.core.registers c.loop-i.bytes.items c.to_be_bytes-word.result c.args.words.now.r1 c.args.words.now.address c.loop-i.i word
          c.loop-i.invariant.count c.loop-i.invariant.stored);
      count = omega (arith, ap length added, length-append c.loop-i.bytes.items c.to_be_bytes-word.result, count, c.loop-i.invariant.count);
      held = omega (arith, held, count, c.loop-i.invariant.held);
    }
