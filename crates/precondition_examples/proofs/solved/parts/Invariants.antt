use Rattle.std.proofs.Common.{◌≡◌, ℕ, length, slice_get, Some}
use Rattle.number_tests.specs.declared.level_part.LevelPart.{LevelPart}
use Rattle.precondition_examples.proofs.solved.parts.Given as goal

-- the parts so far
abbrev pub invariant-loop-coefficients : goal.invariant-loop-coefficients
invariant-loop-coefficients l =
    record {
      count : length l.list ≡ l.coefficients-index;
      wide : (m : ℕ) (part : LevelPart) → slice_get l.list m ≡ Some part → length part.coeffs ≡ l.arity;
    }
