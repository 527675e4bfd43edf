use Rattle.std.proofs.Common.{◌≡◌, ◌-◌}
use Rattle.cert_structure.specs.Walk.{read_points}
use Rattle.fact_reading.specs.Walk.{with_all}
use Rattle.cert_structure.proofs.refutations.points.Given as goal

-- what is read in all is the points so far and what is read of the rest
abbrev pub invariant-loop : goal.invariant-loop
invariant-loop g l =
    with_all l.points (read_points (g.F.PointFacts.read_point l.calls.p.now l.calls.comps.now l.pred) (l.last.clause, l.last.call) (l.count - l.counter) l.rest)
    ≡ read_points (g.F.PointFacts.read_point l.calls.p.now l.calls.comps.now l.pred) (0, 0) l.count l.facts
