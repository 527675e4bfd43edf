use Rattle.std.proofs.Common.{◌≡◌, map, take}
use Rattle.cert_assembly.specs.Parted.{part_or_zero}
use Rattle.cert_structure.specs.Shape.{arity_in}
use Rattle.level_systems.specs.Mappings.{level_in}
use Rattle.lex_measures.proofs.places.list_of.Given as goal

abbrev pub invariant-loop-measures : goal.invariant-loop-measures
invariant-loop-measures l = l.parts ≡ map (λ ms. part_or_zero (arity_in l.p l.q.0) (level_in ms l.q.0)) (take l.measures-index l.measures-items)
