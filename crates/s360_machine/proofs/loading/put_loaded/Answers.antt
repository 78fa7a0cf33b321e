use Rattle.std.proofs.Common.{◌≡◌, ◌≤◌, ◌∙◌, ap, arith, length}
use Rattle.s360_model.specs.Core.{Core, core_with_bytes, core_with_psw}
use Rattle.s360_model.specs.Storage.{Storage}
use Rattle.s360_machine.specs.Loading.{with_behind, with_below}
use Rattle.s360_machine.proofs.LoadingLemmas.{loaded-made}
use Rattle.s360_machine.proofs.loading.put_loaded.Goals as goal

pub returns-clause-made : goal.returns-clause-made
returns-clause-made g c =
    let m : Core = c.args.core.now
    in let same : length c.storage.result.now.bytes ≡ length m.storage.bytes = ap (λ (s : Storage). length s.bytes) c.storage.ensures.storage
    in let four : 4 ≤ length m.storage.bytes = omega (arith, same, c.size.ensures.size, c.size.ensures.least)
    in c.in_ok-put_behind.ensures.made
    ∙ ap (λ (k : Core). with_behind c.args.run.now k) (c.in_ok-put_bytes.ensures.made
    ∙ ap (λ (k : Core). core_with_bytes 2 c.to_be_bytes-unit.result k) (c.in_ok-put_below.ensures.made
    ∙ ap (λ (k : Core). with_below c.args.run.now k) (c.in_ok-put_psw.ensures.made ∙ ap (λ (k : Core). core_with_psw c.initial_psw.result k) c.requires.none.same)))
    ∙ loaded-made m c.args.run.now c.args.address c.initial_psw.result c.to_be_bytes-unit.result c.requires.inside four c.to_be_bytes-unit.ensures c.initial_psw.ensures
