-- To believe, for the command.
-- What the test of multipliers says: the first column decides that fails or has a number that does not fit.
use Rattle.std.specs.Prelude.{ℕ, ℤ, pos, List, ◌<◌, ◌≤ℤ◌, ◌<ℤ◌, length}
use Rattle.linear_rows.specs.Proves.{rest_number, ColumnFits}
use Rattle.linear_rows.specs.declared.multipliers.Proof.{Proof}
use Rattle.linear_rows.specs.declared.multipliers.Proof.TheVariants.{Holds, Fails, Wide}

-- what one column says: Wide where a number does not fit, else Fails where the difference is below 0
abbrev pub ColumnSays : List (List ℤ) → List ℤ → List ℤ → ℤ → Proof → ℕ → Type 0
ColumnSays rows ms target scale Holds k = ColumnFits rows ms target scale k × (pos 0 ≤ℤ rest_number rows ms target scale k)
ColumnSays rows ms target scale Fails k = ColumnFits rows ms target scale k × (rest_number rows ms target scale k <ℤ pos 0)
ColumnSays rows ms target scale Wide k = ¬ ColumnFits rows ms target scale k

-- the first column that does not say Holds says this
abbrev pub FirstSays : List (List ℤ) → List ℤ → List ℤ → ℤ → Proof → Type 0
FirstSays rows ms target scale p =
    (k : ℕ) × (k < length target) × ((j : ℕ) → j < k → ColumnSays rows ms target scale Holds j) × ColumnSays rows ms target scale p k

-- what the whole test says: Holds where each column does, else what the first other column says
abbrev pub Says : List (List ℤ) → List ℤ → List ℤ → ℤ → Proof → Type 0
Says rows ms target scale Holds = (k : ℕ) → k < length target → ColumnSays rows ms target scale Holds k
Says rows ms target scale Fails = FirstSays rows ms target scale Fails
Says rows ms target scale Wide = FirstSays rows ms target scale Wide
