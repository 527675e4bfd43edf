use Rattle.std.proofs.Common.{◌≡◌, ◌+◌, ◌++◌, ◌∷◌, [], ℕ, List, ap, sym, ◌∙◌, arith}
use Rattle.linear_rows.specs.Step.{columns}
use Rattle.level_systems.proofs.RowLengths.{columns_on}
use Rattle.level_dual.proofs.finding.all_numbers.Goals as goal

pub loop-number-preserved : goal.loop-number-preserved
loop-number-preserved c =
    let n = c.loop-number.number in
    let more : n + 1 ≡ 1 + n = omega arith in
    c.in_ok-push.ensures.items ∙ ap (λ (xs : List ℕ). xs ++ (n + 1) ∷ []) c.loop-number.invariant ∙ ap (λ (m : ℕ). columns 1 n ++ m ∷ []) more ∙ sym (columns_on 1 n)
