-- Multipliers whose test says Holds refute the rows.
use Rattle.std.proofs.Common.{◌≡◌, ℕ, zero, suc, ◌+◌, ◌<◌, ℤ, pos, ◌-ℤ◌, List, length, refl, ap, subst, ◌∙◌, arith}
use Rattle.std.specs.Prelude.{All, ◌≤ℤ◌}
use Rattle.exact128.specs.Sums.{dot}
use Rattle.linear_rows.specs.Proves.{goal_number}
use Rattle.linear_rows.specs.Rows.{column}
use Rattle.linear_rows.specs.Showing.{bottom_row}
use Rattle.linear_rows.specs.Verdict.{Says}
use Rattle.linear_rows.specs.declared.multipliers.Proof.TheVariants.{Holds}
use Rattle.linear_rows.specs.declared.solved.Solved.TheVariants.{Refuted}
use Rattle.tableaux.specs.Finding.{Solves}
use Rattle.linear_rows.proofs.Refutes.{length-zeros}

same_goal : (a b : List ℤ) (k : ℕ) → goal_number (pos 0) a k ≡ goal_number (pos 0) b k
same_goal a b zero = refl
same_goal a b (suc k) = refl

pub length-bottom : (n : ℕ) → length (bottom_row n) ≡ n + 1
length-bottom n = ap suc (length-zeros n) ∙ omega arith

pub refutes_rows : (n : ℕ) (rows : List (List ℤ)) (ms : List ℤ) → length ms ≡ length rows → All (λ m. pos 0 ≤ℤ m) ms → Says rows ms (bottom_row n) (pos 0) Holds → Solves n rows (Refuted (record { scale = pos 0; list = ms }))
refutes_rows n rows ms long natural says = record {
  decides = (refl, record { long = long; natural = natural; proves = proves });
  proved = λ k l. (says k l).0;
}
  where
    proves : (target : List ℤ) → length target ≡ n + 1 → (k : ℕ) → k < length target → pos 0 ≤ℤ (goal_number (pos 0) target k -ℤ dot ms (column rows k))
    proves target e k l = subst (λ (g : ℤ). pos 0 ≤ℤ (g -ℤ dot ms (column rows k))) (same_goal (bottom_row n) target k) (says k (omega (arith, l, e, length-bottom n))).1
