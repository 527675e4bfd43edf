-- To believe, for the modes.
-- Sums and multiples of rows, rows over expressions, and rows of truth values.
--
-- To believe: `IsUpper`, `Covers`.
use Rattle.std.specs.Prelude.{◌≡◌, ℕ, ◌<◌, Bool, true, List, [], ◌∷◌}
pub use Rattle.linear_rows.specs.RowSums.{scaled, added}
pub use Rattle.linear_rows.specs.Replacing.{combined, substituted}

-- the first row is as long as the second, and true wherever that one is: 110 is upper to 100
abbrev pub IsUpper : List Bool → List Bool → Type 0
IsUpper [] [] = Unit {0}
IsUpper [] (b ∷ bs) = ⊥
IsUpper (u ∷ us) [] = ⊥
IsUpper (u ∷ us) (b ∷ bs) = (b ≡ true → u ≡ true) × IsUpper us bs

-- true at each argument with a positive coefficient
abbrev pub Covers : List ℕ → List Bool → Type 0
Covers [] bs = Unit {0}
Covers (a ∷ cs) [] = Unit {0}
Covers (a ∷ cs) (b ∷ bs) = (0 < a → b ≡ true) × Covers cs bs
