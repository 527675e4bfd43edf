-- Private.
-- What multipliers prove of clauses: the size rows of a clause's head, over the short system of its body.
--
-- To believe: `IsProved`, `AreProved`.
use Rattle.std.specs.Prelude.{ℕ, ℤ, List, [], ◌∷◌}
use Rattle.cti_terms.specs.Tree.{Tree}
use Rattle.cti_terms.specs.declared.clauses.Clause.{Clause}
use Rattle.linear_rows.specs.declared.multipliers.Multipliers.{Multipliers}
use Rattle.linear_rows.specs.Showing.{Shows}
use Rattle.termination_model.specs.sizes.Systems.{row_over}
use Rattle.termination_model.specs.sizes.ShortSystems.{short_system}

-- for each row, in order, multipliers that prove what becomes of it over the system
abbrev pub AreShownOver : List (List ℤ) → (List ℤ → List ℤ) → List (List ℤ) → List Multipliers → Type 0
AreShownOver system over [] [] = Unit {0}
AreShownOver system over [] (m ∷ ms) = ⊥
AreShownOver system over (r ∷ rs) [] = ⊥
AreShownOver system over (r ∷ rs) (m ∷ ms) = Shows system (over r) m × AreShownOver system over rs ms

module _ (expression : ℕ → Tree → List ℤ) (rows : ℕ → List (List ℤ)) where
  -- multipliers for the rows of a clause's head, over the system of its whole body
  abbrev pub IsProved : Clause → List Multipliers → Type 0
  IsProved k = AreShownOver (short_system expression rows k.vars k.body) (row_over expression k.vars k.head.args) (rows k.head.pred.0)

  -- the same for each clause, in order
  abbrev pub AreProved : List Clause → List (List Multipliers) → Type 0
  AreProved [] [] = Unit {0}
  AreProved [] (m ∷ ms) = ⊥
  AreProved (k ∷ ks) [] = ⊥
  AreProved (k ∷ ks) (m ∷ ms) = IsProved k m × AreProved ks ms
