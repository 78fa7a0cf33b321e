use Rattle.std.proofs.Common.{◌<◌, length, arith}
use Rattle.s360_language.proofs.ShownLemmas.{digits-pushed}
use Rattle.s360_language.proofs.show_bytes.push_digits.Goals as goal

pub loop-byte-preserved : goal.loop-byte-preserved
loop-byte-preserved c =
    let inside : c.loop-byte.byte-index < length c.args.bytes.now = omega arith
    in digits-pushed c.args.bytes.now c.args.text.now _ _ c.loop-byte.byte-index c.from.result c.loop-byte.invariant inside c.from.ensures c.in_ok-push_hex.ensures
