use Rattle.std.proofs.Common.{◌≡◌, ℕ, List, drop, length, map, pos, take}
use Rattle.std.specs.List.{AllByRecursion}
use Rattle.call_components.specs.Numbers.{number_of}
use Rattle.number_tests.specs.Shape.{IsLevelPart}
use Rattle.termination_model.specs.mappings.Ready.{arity_in}
use Rattle.termination_model.specs.mappings.SupportSystem.{mapping_at}
use Rattle.level_systems.specs.Held.{spelled}
use Rattle.level_systems.specs.Valued.{IsPartOf}
use Rattle.level_systems.specs.declared.measure.Measure.{Measure}
use Rattle.level_dual.proofs.searching.measures_at.Given as goal

abbrev pub invariant-loop-member : goal.invariant-loop-member
invariant-loop-member l =
    record {
      each : map (λ (m : Measure). m.pred.0) l.measures ≡ map number_of (take l.member-index l.component.members.items);
      shape : AllByRecursion (λ (m : Measure). IsLevelPart (arity_in l.p m.pred.0) m.part) l.measures;
      parts : (cs os : List ℕ) → length cs ≡ length l.at → length os ≡ length l.component.by_clauses.items
          → take (length l.at) l.values ≡ map pos cs → take (length l.component.by_clauses.items) (drop (length l.at) l.values) ≡ map pos os
          → AllByRecursion (λ (m : Measure). IsPartOf (mapping_at (arity_in l.p) (map spelled l.at) (map number_of l.component.by_clauses.items) cs os) m.pred.0 m.part) l.measures;
    }
