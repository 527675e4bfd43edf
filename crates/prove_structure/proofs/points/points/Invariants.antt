use Rattle.std.proofs.Common.{◌≡◌, map, length}
use Rattle.cert_structure.specs.Walk.{pair_end}
use Rattle.fact_reading.specs.Walk.{with_all}
use Rattle.prove_structure.specs.Walk.{read_points}
use Rattle.prove_structure.proofs.points.points.Given as goal

-- what is read in all is the points so far and what is read of the rest
abbrev pub invariant-loop-fact : goal.invariant-loop-fact
invariant-loop-fact l =
    with_all l.points (read_points l.calls.p.now (map pair_end l.pairs) (pair_end l.last) l.rest)
    ≡ read_points l.calls.p.now (map pair_end l.pairs) (0, 0) l.facts

abbrev pub decreases-loop-fact : goal.decreases-loop-fact
decreases-loop-fact l = length l.rest
