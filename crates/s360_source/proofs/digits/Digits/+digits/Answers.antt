use Rattle.std.proofs.Common.{suc, ◌-◌, ◌≡◌, ◌++◌, ◌∙◌, ap, arith, sym}
use Rattle.s360_source.specs.Fields.{operands_of}
use Rattle.s360_source.proofs.DigitLemmas.{made-is, source-early, source-late, stored-here}
use Rattle.s360_source.proofs.digits.Digits.+digits.Goals as goal

pub push_stored-returns-then-from_right-address : goal.push_stored-returns-then-from_right-address
push_stored-returns-then-from_right-address t c m =
    let last : c.args.stored ≡ suc (c.args.stored - 1) = omega (arith, c.if-stored-eq0.false)
    in c.in_ok-push_made.ensures m
    ∙ ap (λ ps. c.args.found.now.items ++ ps) (made-is c.args.self.now (c.args.stored - 1) m (omega (arith, c.if-stored-eq0.false, c.requires.inside))
    ∙ stored-here (operands_of c.args.self.now) c.args.stored (c.args.stored - 1) c.args.address m last (sym c.from_right.ensures
    ∙ c.if-from_right-address.true))

pub push_source-returns-then-user-i : goal.push_source-returns-then-user-i
push_source-returns-then-user-i t c m =
    c.in_ok-push_stored.ensures m
    ∙ ap (λ ps. c.args.found.now.items ++ ps) (source-early (operands_of c.args.self.now) c.args.i c.args.j _ _ m (omega
    (arith, c.if-j-from.false, c.from.ensures))
    c.first_user-user.ensures c.from_right-address.ensures (omega (arith, c.if-user-i.true)))

pub push_source-returns : goal.push_source-returns
push_source-returns t c m =
    c.in_ok-push_stored-2.ensures m
    ∙ ap (λ ps. c.args.found.now.items ++ ps) (source-late (operands_of c.args.self.now) c.args.i c.args.j _ _ m (omega
    (arith, c.if-j-from.false, c.from.ensures))
    c.first_user-user.ensures c.from_right-address.ensures (omega (arith, c.if-user-i.false)))
