-- Private.
-- A component as its measures see it, over columns: View.antt, with the columns of each atom.
--
-- To believe: all of this file, where mappings of a component are spoken of.
use Rattle.std.specs.Prelude.{ℕ, zero, suc, ◌*◌, ℤ, Bool, List, [], ◌∷◌, ◌++◌, map, Option}
use Rattle.cti_terms.specs.Tree.{Tree}
use Rattle.termination_model.specs.mappings.View.{Place}
use Rattle.termination_model.specs.columns.Columns.{columns_of}
use Rattle.termination_model.specs.columns.ColumnRows.{row_over, or_zeros}
use Rattle.termination_model.specs.columns.ColumnClaims.{Mapping, difference, RowHoldsOn}

-- a call in a body, with how many columns each argument has
pub record Call : Type 0 where
  pub args : List Tree
  pub kinds : List ℕ
  pub rows : List (List ℤ)
  pub grounds : List Bool → Bool
  pub place : Place

-- a clause, with how many columns each argument of its head has
pub record Rule : Type 0 where
  pub member : ℕ
  pub args : List Tree
  pub kinds : List ℕ
  pub vars : ℕ
  pub body : List Call

module _ (width : ℕ) (expression : ℕ → Tree → ℕ → Option (List ℤ)) where
  -- the columns of arguments, over so many variables
  abbrev pub columns_in : ℕ → List ℕ → List Tree → List (Option (List ℤ))
  columns_in n ks ts = columns_of ks (map (expression n) ts)

  abbrev pub row_in : ℕ → List ℕ → List Tree → List ℤ → Option (List ℤ)
  row_in n ks ts = row_over (n * width) (columns_in n ks ts)

  abbrev pub system_of : ℕ → List Call → List (List ℤ)
  system_of n [] = []
  system_of n (b ∷ bs) = map (λ r. or_zeros (n * width) (row_in n b.kinds b.args r)) b.rows ++ system_of n bs

  abbrev pub level_over : ℕ → ℕ → List ℕ → List Tree → Mapping → Option (List ℤ)
  level_over n q ks ts l = row_in n ks ts (l.offset q ∷ l.coefficients q)

  abbrev pub head_over : Rule → Mapping → Option (List ℤ)
  head_over k l = level_over k.vars k.member k.kinds k.args l

  abbrev pub fall_over : Rule → ℕ → Call → ℕ → Mapping → Option (List ℤ)
  fall_over k q b d l = difference d (head_over k l) (level_over k.vars q b.kinds b.args l)

  -- where the rows hold, the mapping at place i falls and is at least 0 on the head, and none before it rises
  abbrev pub FallsOver : Rule → List (List ℤ) → ℕ → Call → ℕ → List Mapping → Type 0
  FallsOver k rows q b i [] = ⊥
  FallsOver k rows q b zero (l ∷ ls) = RowHoldsOn (suc (k.vars * width)) rows (fall_over k q b 1 l) × RowHoldsOn (suc (k.vars * width)) rows (head_over k l)
  FallsOver k rows q b (suc i) (l ∷ ls) = RowHoldsOn (suc (k.vars * width)) rows (fall_over k q b 0 l) × FallsOver k rows q b i ls
