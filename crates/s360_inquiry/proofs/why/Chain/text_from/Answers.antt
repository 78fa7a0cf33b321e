use Rattle.std.proofs.Common.{All, arith, refl, rules, subst, sym}
use Rattle.s360_journal.specs.Recorded.{Recorded, with_standing}
use Rattle.s360_inquiry.specs.Causes.{IsMaking}
use Rattle.s360_inquiry.proofs.ChainLemmas.{chain-end, chain-more, chain-start, texts-full, texts-none}
use Rattle.s360_inquiry.proofs.WhyLemmas.{kept-more, same-record}
use Rattle.s360_inquiry.proofs.why.Chain.text_from.Goals as goal

pub loop-told-init : goal.loop-told-init
loop-told-init c = record {
  told = chain-start (with_standing c.args.recording.now 0) c.args.self.detail c.args.first _ _ (search rules) c.new-telling.ensures.text c.new-telling.ensures.lines;
  kept = refl;
}

pub tell-requires-clause-makings : goal.tell-requires-clause-makings
tell-requires-clause-makings c =
    subst (λ (r : Recorded). All (IsMaking r) c.args.self.makings.now)
    (sym (same-record c.args.recording.now c.loop-told.recording c.loop-told.invariant.kept)) c.requires.makings

pub loop-told-preserved : goal.loop-told-preserved
loop-told-preserved c = record {
  told = chain-more (with_standing c.args.recording.now 0) c.loop-told.recording c.args.self.detail c.loop-told.known.items _ c.loop-told.told
      c.index-node.result.now c.args.first c.loop-told.telling _ (omega arith) (omega arith) c.index-node.ensures
      (same-record c.args.recording.now c.loop-told.recording c.loop-told.invariant.kept)
      c.in_ok-tell.ensures.told c.in_ok-tell.ensures.known c.loop-told.invariant.told;
  kept = kept-more c.args.recording.now c.loop-told.recording c.tell.new.recording _ c.loop-told.invariant.kept c.in_ok-tell.ensures.state;
}

pub returns-then-told-len-clause-text : goal.returns-then-told-len-clause-text
returns-then-told-len-clause-text c =
    chain-end (with_standing c.args.recording.now 0) c.args.self.detail c.loop-told.known.items c.loop-told.told c.args.first c.loop-told.telling _
    (texts-none _ c.loop-told.told (with_standing c.args.recording.now 0) c.args.self.detail c.loop-told.known.items (omega arith))
    c.loop-told.invariant.told c.finish.ensures

pub returns-clause-text : goal.returns-clause-text
returns-clause-text c =
    chain-end (with_standing c.args.recording.now 0) c.args.self.detail c.loop-told.known.items c.loop-told.told c.args.first c.loop-told.telling _
    (texts-full (with_standing c.args.recording.now 0) c.args.self.detail c.loop-told.known.items c.loop-told.told (omega arith))
    c.loop-told.invariant.told c.finish-2.ensures
