use Rattle.std.proofs.Common.{◌≡◌, ℕ, List, length, map, pos, take}
use Rattle.level_systems.specs.Held.{spelled}
use Rattle.linear_rows.specs.Step.{columns}
use Rattle.termination_model.specs.mappings.SupportSystem.{value_of_position}
use Rattle.level_systems.proofs.values.coefficients.Given as goal

abbrev pub invariant-loop-argument : goal.invariant-loop-argument
invariant-loop-argument l =
    (cs : List ℕ) → length cs ≡ length l.positions → take (length l.positions) l.values ≡ map pos cs
    → l.numbers ≡ map pos (map (value_of_position (map spelled l.positions) cs l.pred.0) (columns 0 l.argument))
