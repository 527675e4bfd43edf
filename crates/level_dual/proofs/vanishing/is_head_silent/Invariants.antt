use Rattle.termination_model.specs.claims.Claims.{Mapping}
use Rattle.level_dual.specs.Vanishing.{IsSilent, Vanishes}
use Rattle.level_dual.proofs.vanishing.is_head_silent.Given as goal

abbrev pub invariant-loop-argument : goal.invariant-loop-argument
invariant-loop-argument l = (m : Mapping) → Vanishes l.places.positions.now l.marks m → IsSilent m l.own.caller.0 l.own.caller_sizes l.ray l.argument
