use Rattle.std.specs.List.{AllByRecursion}
use Rattle.termination_model.specs.claims.Claims.{Mapping}
use Rattle.level_dual.specs.Vanishing.{KeepsRays, Vanishes}
use Rattle.level_dual.proofs.vanishing.spread_back.Given as goal

abbrev pub invariant-loop-i : goal.invariant-loop-i
invariant-loop-i l = (m : Mapping) → AllByRecursion (KeepsRays m) l.calls → Vanishes l.places.positions.now l.fn.marks.items m → Vanishes l.places.positions.now l.marks.items m
