use Rattle.std.proofs.Common.{◌≡◌, ◌∙◌, ◌∷◌, List, ap}
use Rattle.s360_model.specs.Psw.{protection_key_of}
use Rattle.s360_store.specs.declared.place.Place.{Place}
use Rattle.s360_store.specs.declared.place.Place.TheVariants.{Byte, Psw}
use Rattle.s360_store.specs.declared.protection.{Access.Access, Checked.Checked}
use Rattle.s360_store.specs.Protection.{access}
use Rattle.s360_fixed.specs.Fetching.{length_at}
use Rattle.s360_machine.specs.Machine.{Machine, seen}
use Rattle.s360_source.specs.Walks.{with_decided}
use Rattle.s360_source.proofs.InstructionLemmas.{fetch-decided, fetch-stopped, keys_fetched}
use Rattle.s360_source.proofs.fetching.push_fetch_conditions.Goals as goal

pub returns-in_ok-decide-in-Clear : goal.returns-in_ok-decide-in-Clear
returns-in_ok-decide-in-Clear c =
    let m : Machine = seen c.args.machine.now.whole
    in let met : Checked.Clear ≡ access m.core.storage c.args.address 2 Access.Fetch (protection_key_of m.core.psw) = cc
    in let count : c.from-count.result ≡ length_at m.core.storage c.args.address = cc
    in fetch-decided c.args.question m c.args.address Checked.Clear c.args.found.now.items _ _ met
    (c.in_ok-decide.ensures ∙ ap (λ (ps : List Place). with_decided c.args.question (Psw ∷ ps) c.args.found.now.items) c.keys_looked_at-halfword.ensures)
    (c.in_ok-decide-in-Clear.ensures
    ∙ ap (λ (ps : List Place). with_decided c.args.question (Byte c.args.address ∷ ps) c.decide.new.found.items)
    (c.keys_looked_at-whole.ensures ∙ ap (keys_fetched m c.args.address) count))

pub returns-in-Addressing : goal.returns-in-Addressing
returns-in-Addressing c =
    let m : Machine = seen c.args.machine.now.whole
    in let met : c.check.result ≡ access m.core.storage c.args.address 2 Access.Fetch (protection_key_of m.core.psw) = cc
    in fetch-stopped c.args.question m c.args.address c.check.result c.args.found.now.items _ c.in-Addressing.is met
    (c.in_ok-decide.ensures ∙ ap (λ (ps : List Place). with_decided c.args.question (Psw ∷ ps) c.args.found.now.items) c.keys_looked_at-halfword.ensures)
