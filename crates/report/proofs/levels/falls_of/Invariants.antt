use Rattle.std.proofs.Common.{◌≡◌, map, take}
use Rattle.report.specs.Levels.{by_or_none, fall_in}
use Rattle.report.proofs.levels.falls_of.Given as goal

abbrev pub invariant-loop-mapping : goal.invariant-loop-mapping
invariant-loop-mapping l = l.falls ≡ map (λ m. by_or_none (fall_in m.falls l.clause l.call)) (take l.mapping-index l.mappings)
