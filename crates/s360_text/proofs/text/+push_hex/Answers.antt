use Rattle.std.proofs.Common.{append_assoc, ◌≢◌, arith}
use Rattle.s360_text.proofs.HexTextLemmas.{hex_text-last}
use Rattle.s360_text.proofs.text.+push_hex.Goals as goal

pub returns : goal.returns
returns t c =
    let some : c.args.width ≢ 0 = omega arith
    in rw (c.in_ok-push.ensures.items, c.in_ok-push_hex.ensures, c.digit_of.ensures, hex_text-last c.args.width c.args.number some) (simp append_assoc)
