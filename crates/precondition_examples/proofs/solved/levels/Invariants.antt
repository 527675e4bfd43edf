use Rattle.std.proofs.Common.{◌≡◌, ℕ, Bool, List, if◌then◌else◌, length, slice_get, Some}
use Rattle.call_components.specs.Partition.{IsIn}
use Rattle.cti_terms.specs.declared.predicates.Pred.{Pred}
use Rattle.number_tests.specs.declared.level_part.LevelPart.{LevelPart}
use Rattle.precondition_examples.proofs.solved.levels.Given as goal

-- the parts of the predicates so far
abbrev pub invariant-loop-q : goal.invariant-loop-q
invariant-loop-q l =
    record {
      count : length l.levels.items ≡ l.q;
      wide : (q : ℕ) (own : List LevelPart) → slice_get l.levels.items q ≡ Some own → (m : ℕ) (x : Pred) (part : LevelPart) → slice_get l.p.preds q ≡ Some x → slice_get own m ≡ Some part → length part.coeffs ≡ x.arity;
      each : (q : ℕ) (own : List LevelPart) → slice_get l.levels.items q ≡ Some own → (c : ℕ) (recursive : Bool) → IsIn l.comps c q → slice_get l.comps.recursive c ≡ Some recursive
          → length own ≡ (if recursive then length l.mappings else 1);
    }
