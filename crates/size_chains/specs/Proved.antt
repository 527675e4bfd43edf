-- Private.
-- What multipliers prove of clauses: the size rows of a clause's head, over the short system of its body.
--
-- In a row of the head a number above 0 at a column without an expression counts as 0, since a column is a natural. A
-- row with a number below 0 there is proved by multipliers of scale 0 alone, which show that the system is empty.
--
-- To believe: `IsProved`, `AreProved`.
use Rattle.std.specs.Prelude.{◌≡◌, ℕ, ◌⊎◌, ◌≤ℤ◌, ℤ, pos, List, [], ◌∷◌, map, Option, None, Some}
use Rattle.cti_terms.specs.declared.clauses.Clause.{Clause}
use Rattle.linear_rows.specs.Replacing.{substituted}
use Rattle.linear_rows.specs.Showing.{Shows}
use Rattle.linear_rows.specs.Solving.{coefficients}
use Rattle.linear_rows.specs.declared.multipliers.Multipliers.{Multipliers}
use Rattle.termination_model.specs.columns.ColumnRows.{or_zeros}
use Rattle.termination_model.specs.sizes.ShortSystems.{short_row}
use Rattle.size_chains.specs.Systems.{Systems, system}

-- a row over the head's columns, over the clause's naturals; columns without an expression count nothing
abbrev pub target : Systems → Clause → List ℤ → List ℤ
target s k = substituted (s.naturals k) (map (or_zeros (s.naturals k)) (s.heads k))

-- no number below 0 stands at a column without an expression
abbrev pub AreNaturalThere : List ℤ → List (Option (List ℤ)) → Type 0
AreNaturalThere [] es = Unit {0}
AreNaturalThere (c ∷ cs) [] = Unit {0}
AreNaturalThere (c ∷ cs) (None ∷ es) = (pos 0 ≤ℤ c) × AreNaturalThere cs es
AreNaturalThere (c ∷ cs) (Some e ∷ es) = AreNaturalThere cs es

-- what multipliers show of a row of the head, over these rows
pub record IsShownFor (s : Systems) (k : Clause) (rows : List (List ℤ)) (row : List ℤ) (m : Multipliers) : Type 0 where
  pub shown : Shows rows (target s k row) m
  pub free : (m.scale ≡ pos 0) ⊎ AreNaturalThere (coefficients row) (s.heads k)

-- multipliers for each row, in order
abbrev pub AreShownFor : Systems → Clause → List (List ℤ) → List (List ℤ) → List Multipliers → Type 0
AreShownFor s k rows [] [] = Unit {0}
AreShownFor s k rows [] (m ∷ ms) = ⊥
AreShownFor s k rows (r ∷ rs) [] = ⊥
AreShownFor s k rows (r ∷ rs) (m ∷ ms) = IsShownFor s k rows r m × AreShownFor s k rows rs ms

module _ (systems : Systems) (rows : ℕ → List (List ℤ)) where
  -- multipliers for the rows of a clause's head, over the system of its whole body
  abbrev pub IsProved : Clause → List Multipliers → Type 0
  IsProved k = AreShownFor systems k (map short_row (system systems rows k k.body)) (rows k.head.pred.0)

  -- the same for each clause, in order
  abbrev pub AreProved : List Clause → List (List Multipliers) → Type 0
  AreProved [] [] = Unit {0}
  AreProved [] (m ∷ ms) = ⊥
  AreProved (k ∷ ks) [] = ⊥
  AreProved (k ∷ ks) (m ∷ ms) = IsProved k m × AreProved ks ms
