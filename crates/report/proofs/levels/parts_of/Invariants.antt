use Rattle.std.proofs.Common.{◌≡◌, map, take}
use Rattle.cert_structure.specs.Shape.{arity_in}
use Rattle.level_systems.specs.Mappings.{level_in}
use Rattle.cert_assembly.specs.Parted.{part_or_zero}
use Rattle.report.proofs.levels.parts_of.Given as goal

abbrev pub invariant-loop-mapping : goal.invariant-loop-mapping
invariant-loop-mapping l = l.parts ≡ map (λ m. part_or_zero (arity_in l.p l.q.0) (level_in m.measures l.q.0)) (take l.mapping-index l.mappings)
