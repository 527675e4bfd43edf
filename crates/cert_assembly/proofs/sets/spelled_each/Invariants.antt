use Rattle.std.proofs.Common.{◌≡◌, map, take}
use Rattle.bool_diagrams.specs.Cubes.{cubes, truth_rows}
use Rattle.cert_assembly.proofs.sets.spelled_each.Given as goal

abbrev pub invariant-loop-set : goal.invariant-loop-set
invariant-loop-set l = l.lists ≡ map (λ d. cubes l.arity (truth_rows l.table d)) (take l.set-index l.sets)
