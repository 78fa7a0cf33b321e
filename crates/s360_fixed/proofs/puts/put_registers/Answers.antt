use Rattle.std.proofs.Common.{◌≡◌, arith}
use Rattle.s360_fixed.proofs.RegisterLemmas.{loaded_below-all, loaded_below-first, loaded_below-more, loaded_below-past}
use Rattle.s360_fixed.proofs.puts.put_registers.Goals as goal

pub loop-number-init : goal.loop-number-init
loop-number-init g c = record {
  made = loaded_below-first _ _ _ _ _ _ c.loaded_numbers-first.ensures.before;
  may = c.requires.may;
  past = λ k l. c.requires.past _;
  few = omega arith;
}

pub loop-number-preserved : goal.loop-number-preserved
loop-number-preserved g c = record {
  made = loaded_below-more _ _ _ _ c.loop-number.number _ _ _ c.loop-number.invariant.made (rw c.new.ensures at c.in_ok-put_loaded.ensures.made);
  may = c.in_ok-put_loaded.ensures.may;
  past = λ k l. c.in_ok-put_loaded.ensures.past k (rw c.new.ensures (omega (arith, l)));
  few = omega (arith, c.loop-number.invariant.few, c.in_ok-put_loaded.ensures.few);
}

pub returns-clause-made : goal.returns-clause-made
returns-clause-made g c =
    let all : c.loop-number.number ≡ c.loaded_numbers-first.result.1 = omega (arith, c.loaded_numbers-first.ensures.order)
    in loaded_below-all _ c.args.words.now.r1 _ c.args.words.now.count _ _ (omega arith) c.requires.count c.requires.sixteen
    (loaded_below-past _ _ _ _ c.loaded_numbers-first.result.1 _ _ c.loaded_numbers-first.ensures.most c.loaded_numbers-first.ensures.behind (rw all at c.loop-number.invariant.made))
