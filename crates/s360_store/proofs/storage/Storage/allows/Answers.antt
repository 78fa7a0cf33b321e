use Rattle.std.proofs.Common.{◌≢◌, ◌<◌, ◌≤◌, length, ◌+◌, ◌-◌, ◌/◌, ap, ◌∙◌, arith}
use Rattle.std.specs.List.{list_all, slice_range}
use Rattle.s360_model.specs.Storage.{Storage}
use Rattle.s360_store.specs.Protection.{block_allows, is_allowed}
use Rattle.s360_store.proofs.ProtectionLemmas.{is_allowed-blocks, last_block-inside}
use Rattle.s360_store.proofs.storage.Storage.allows.Goals as goal

pub returns : goal.returns
returns c =
    let s : Storage = record { bytes = c.self.inside.bytes.items; keys = c.self.inside.keys.items; fetch_protection = c.self.inside.fetch_protection }
    in let nonzero : c.args.key ≢ 0 = λ e. c.if-number-eq0.false (c.number.ensures.value ∙ e)
    in let size : c.args.address + c.args.count ≤ length c.self.inside.bytes.items = rw (← c.self.view_is) at c.requires.inside
    in let inside : (c.args.address + c.args.count - 1) / 2048 < length c.self.inside.keys.items
    = last_block-inside (length c.self.inside.bytes.items) (length c.self.inside.keys.items) c.args.address c.args.count c.self.invariant.0 c.self.invariant.1 (omega arith) size
    in c.all_allow.ensures
    ∙ ap (λ ks. list_all (block_allows c.args.kind c.args.key) (slice_range ks (c.args.address / 2048) ((c.args.address + c.args.count - 1) / 2048 + 1))) c.deref.ensures.value
    ∙ is_allowed-blocks s c.args.address c.args.count c.args.kind c.args.key (omega arith) nonzero inside
    ∙ ap (λ (m : Storage). is_allowed m c.args.address c.args.count c.args.kind c.args.key) c.self.view_is
