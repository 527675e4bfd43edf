use Rattle.std.proofs.Common.{◌≡◌, map, length}
use Rattle.cert_structure.specs.Walk.{pair_end}
use Rattle.prove_parts.specs.Shape.{Ascend, is_among}
use Rattle.prove_structure.proofs.pairs.is_among.Given as goal

-- the pair is among the rest exactly where it is among all, and the rest ascends
abbrev pub invariant-loop-rest : goal.invariant-loop-rest
invariant-loop-rest l = record {
  same : is_among (map pair_end l.rest) (pair_end l.pair) ≡ is_among (map pair_end l.pairs) (pair_end l.pair);
  ascend : Ascend pair_end (0, 0) l.rest;
}

abbrev pub decreases-loop-rest : goal.decreases-loop-rest
decreases-loop-rest l = length l.rest
