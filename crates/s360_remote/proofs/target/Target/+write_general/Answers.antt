use Rattle.std.proofs.Common.{◌≡◌, ◌<◌, ◌+◌, Err, arith, rules}
use Rattle.s360_remote.specs.Writing.{IsMadeOrBegun, patches_from_register, register_patches}
use Rattle.s360_remote.specs.declared.error_number.ErrorNumber.TheVariants.{Memory}
use Rattle.s360_remote.proofs.WritingLemmas.{general-more, made-both, made-from}
use Rattle.s360_remote.proofs.target.Target.+write_general.Goals as goal

pub returns-in_err-patch_if : goal.returns-in_err-patch_if
returns-in_err-patch_if t c =
    let r = c.args.register
    in let less : r < 16 = omega (arith, c.requires.number, c.if-register-eq16.false)
    in let same : c.from_residual.result ≡ Err Memory = search rules
    in let made : IsMadeOrBegun c.args.self.now (register_patches c.args.before.now c.args.words.now r) c.patch_if.new.self (Err c.in_err-patch_if.field-0.0)
    = rw (c.from-number.ensures, c.new.ensures) at c.in_err-patch_if.ensures.made
    in rw (general-more c.args.before.now c.args.words.now r less)
    (made-from (register_patches c.args.before.now c.args.words.now r) (patches_from_register c.args.before.now c.args.words.now (r + 1)) c.args.self.now c.patch_if.new.self _ c.from_residual.result same made)

pub returns : goal.returns
returns t c =
    let r = c.args.register
    in let less : r < 16 = omega (arith, c.requires.number, c.if-register-eq16.false)
    in rw (general-more c.args.before.now c.args.words.now r less)
    (made-both (register_patches c.args.before.now c.args.words.now r) (patches_from_register c.args.before.now c.args.words.now (r + 1)) c.args.self.now c.patch_if.new.self c.write_general.new.self c.write_general.result
    (rw (c.from-number.ensures, c.new.ensures) at c.in_ok-patch_if.ensures.made) c.write_general.ensures)
