use Rattle.std.proofs.Common.{take}
use Rattle.std.specs.List.{AllByRecursion}
use Rattle.report.specs.Levels.{IsFallAt}
use Rattle.report.proofs.levels.are_at.Given as goal

abbrev pub invariant-loop-mapping : goal.invariant-loop-mapping
invariant-loop-mapping l = AllByRecursion (λ m. IsFallAt m.falls l.at l.clause l.call) (take l.mapping-index l.mappings)
