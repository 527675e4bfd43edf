-- Lists of columns.
use Rattle.std.proofs.Common.{◌≡◌, ◌+◌, ◌++◌, ℕ, suc, [], ◌∷◌, map, ap, ◌∙◌, arith}
use Rattle.linear_rows.specs.Step.{columns}
use Rattle.termination_model.proofs.Lists.{map_push}
use Rattle.level_systems.proofs.RowLengths.{columns_on}
use Rattle.transitions.specs.StuckSets.{Feature}

abbrev pub numbered : ℕ → ℕ → Feature
numbered q i = (q, suc i)

-- one column more
pub columns_next : (q k n m : ℕ) → m ≡ k + n + 1 → map (numbered q) (columns k (n + 1)) ≡ map (numbered q) (columns k n) ++ (q, m) ∷ []
columns_next q k n m is =
    let same : suc (k + n) ≡ m = omega (arith, is) in
    ap (map (numbered q)) (columns_on k n) ∙ map_push (numbered q) (columns k n) (k + n)
    ∙ ap (λ (x : ℕ). let last : Feature = (q, x) in map (numbered q) (columns k n) ++ last ∷ []) same
