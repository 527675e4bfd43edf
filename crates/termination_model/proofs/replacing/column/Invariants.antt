use Rattle.std.proofs.Common.{◌≡◌, ◌∷◌, map, take}
use Rattle.exact128.specs.Sums.{entry}
use Rattle.linear_rows.specs.Plain.{plain_rows}
use Rattle.termination_model.specs.sizes.Replacing.{unit_at}
use Rattle.termination_model.proofs.replacing.column.Given as goal

abbrev pub invariant-loop-expression : goal.invariant-loop-expression
invariant-loop-expression l = l.numbers ≡ unit_at l.x ∷ map (λ e. entry e l.x) (take l.expression-index (plain_rows l.expressions.list))
