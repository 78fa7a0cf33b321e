use Rattle.std.proofs.Common.{rules}
use Rattle.std.proofs.lemmas.List.{set-set, set-get_or}
use Rattle.s360_store.proofs.storage.Storage.swap.Goals as goal

pub returns-in-Byte-clause-restores_storage : goal.returns-in-Byte-clause-restores_storage
returns-in-Byte-clause-restores_storage c = search (rules, set-set, set-get_or)

pub returns-in-Key-clause-restores_storage : goal.returns-in-Key-clause-restores_storage
returns-in-Key-clause-restores_storage c = search (rules, set-set, set-get_or)
