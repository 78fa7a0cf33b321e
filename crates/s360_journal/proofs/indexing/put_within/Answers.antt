use Rattle.std.proofs.Common.{◌++◌, ◌∷◌, [], List, append-nil}
use Rattle.std.proofs.lemmas.Result.{on_err_weaker, on_ok_weaker}
use Rattle.s360_store.specs.declared.place.Place.{Place}
use Rattle.s360_store.specs.declared.span.Span.TheVariants.{Bytes}
use Rattle.s360_store.specs.declared.place.Place.TheVariants.{Psw}
use Rattle.s360_store.specs.Spans.{places_of_span}
use Rattle.s360_journal.proofs.IndexLemmas.{gains-more, gains-then-part}
use Rattle.s360_journal.proofs.indexing.put_within.Goals as goal

pub returns-in-Bytes-clause-ok : goal.returns-in-Bytes-clause-ok
returns-in-Bytes-clause-ok c =
    let bytes : List Place = places_of_span (Bytes c.in-Bytes.address c.in-Bytes.count)
    in rw c.in-Bytes.is (on_ok_weaker c.put-in-Bytes.result
    (λ a. gains-more c.args.number (Psw ∷ []) (bytes ++ []) c.args.index.now c.put.new.self c.put-in-Bytes.new.self c.in_ok-put.ensures.ok (rw (append-nil bytes) a)) c.put-in-Bytes.ensures.ok)

pub returns-in-Bytes-clause-err : goal.returns-in-Bytes-clause-err
returns-in-Bytes-clause-err c =
    let bytes : List Place = places_of_span (Bytes c.in-Bytes.address c.in-Bytes.count)
    in rw c.in-Bytes.is (on_err_weaker c.put-in-Bytes.result
    (λ a. gains-then-part c.args.number (Psw ∷ []) (bytes ++ []) c.args.index.now c.put.new.self c.put-in-Bytes.new.self c.in_ok-put.ensures.ok (rw (append-nil bytes) a)) c.put-in-Bytes.ensures.err)
