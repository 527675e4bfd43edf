use Rattle.std.proofs.Common.{◌≡◌, ◌≤◌, ◌-◌, ◌++◌, map, drop, length}
use Rattle.cert_structure.specs.Walk.{pair_end}
use Rattle.prove_parts.specs.Shape.{Ascend}
use Rattle.prove_structure.specs.Walk.{scan}
use Rattle.prove_structure.proofs.PairLemmas.{last_of}
use Rattle.prove_structure.proofs.pairs.group_pairs.Given as goal

-- the pairs so far, and those of the facts that are left, after the last of them
abbrev pub invariant-loop-fact : goal.invariant-loop-fact
invariant-loop-fact l = record {
  value : map pair_end l.pairs.items ++ scan (pair_end l.last) (l.count - length l.pairs.items) (drop l.fact-index l.facts) ≡ scan (0, 0) l.count l.facts;
  few : length l.pairs.items ≤ l.count;
  ascend : Ascend pair_end (0, 0) l.pairs.items;
  last : last_of (0, 0) l.pairs.items ≡ pair_end l.last;
}
