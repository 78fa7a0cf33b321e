use Rattle.std.proofs.Common.{◌≡◌, ◌≤◌, ◌+◌, ℕ}
use Rattle.s360_store.specs.declared.place.Place.TheVariants.{Register}
use Rattle.s360_fixed.proofs.RegisterLemmas.{loaded_below}
use Rattle.s360_fixed.proofs.puts.put_registers.Given as goal

abbrev pub invariant-loop-number : goal.invariant-loop-number
invariant-loop-number g l = record {
  made : g.P.Puts.made l.puts l.view.core ≡ loaded_below l.view.core.storage.bytes l.words.r1 l.words.address l.words.count l.number (g.P.Puts.made l.initial.puts l.view.core);
  may : g.P.Puts.may l.puts l.view.core;
  past : (k : ℕ) → l.number ≤ k → g.P.Puts.past l.puts (Register k);
  few : g.P.Puts.count l.puts ≤ g.P.Puts.count l.initial.puts + l.number;
}
