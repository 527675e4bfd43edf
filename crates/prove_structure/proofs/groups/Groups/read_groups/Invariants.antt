use Rattle.std.proofs.Common.{◌≡◌, ◌-◌, map}
use Rattle.cert_structure.specs.Walk.{pair_end}
use Rattle.fact_reading.specs.Walk.{with_all}
use Rattle.prove_structure.specs.Walk.{read_groups}
use Rattle.prove_structure.proofs.groups.Groups.read_groups.Given as goal

-- what is read in all is the groups so far and what is read of the rest
abbrev pub invariant-loop : goal.invariant-loop
invariant-loop l =
    with_all l.groups (read_groups l.self.calls.p.now l.self.calls.comps.now l.self.pred (map pair_end l.self.pairs.now) (pair_end l.last) (l.count - l.counter) l.rest)
    ≡ read_groups l.self.calls.p.now l.self.calls.comps.now l.self.pred (map pair_end l.self.pairs.now) (0, 0) l.count l.facts
