use Rattle.std.proofs.Common.{◌≡◌, [], map, take}
use Rattle.std.specs.List.{AllByRecursion}
use Rattle.call_components.specs.Numbers.{number_of}
use Rattle.level_systems.specs.Valued.{IsPartOf}
use Rattle.level_systems.specs.declared.measure.Measure.{Measure}
use Rattle.termination_model.specs.mappings.Ready.{arity_in}
use Rattle.termination_model.specs.mappings.SupportSystem.{mapping_at}
use Rattle.lex_turns.proofs.zeros.zero_measures.Given as goal

abbrev pub invariant-loop-member : goal.invariant-loop-member
invariant-loop-member l = record {
  each : map (λ (m : Measure). m.pred.0) l.measures ≡ map number_of (take l.member-index l.members);
  parts : AllByRecursion (λ (m : Measure). IsPartOf (mapping_at (arity_in l.p) [] [] [] []) m.pred.0 m.part) l.measures;
}
