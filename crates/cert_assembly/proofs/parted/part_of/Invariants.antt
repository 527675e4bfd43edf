use Rattle.std.proofs.Common.{◌≡◌, drop}
use Rattle.level_systems.specs.Mappings.{level_in}
use Rattle.cert_assembly.proofs.parted.part_of.Given as goal

-- none of the measures so far is the predicate's
abbrev pub invariant-loop-measure : goal.invariant-loop-measure
invariant-loop-measure l = level_in (drop l.measure-index l.measures) l.q.0 ≡ level_in l.measures l.q.0
