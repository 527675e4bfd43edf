use Rattle.std.proofs.Common.{◌≡◌, map, take, true, neg_ℤ}
use Rattle.exact128.specs.Fits.{fits}
use Rattle.linear_rows.specs.Blown.{all_of}
use Rattle.simplex.proofs.systems.all_negated.Given as goal

abbrev pub invariant-loop-k : goal.invariant-loop-k
invariant-loop-k l = (l.all ≡ map neg_ℤ (take l.k l.numbers)) × (all_of fits (take l.k l.numbers) ≡ true)
