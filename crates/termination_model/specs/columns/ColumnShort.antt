-- Private.
-- What is shown by multipliers, over short systems of columns.
--
-- To believe: nothing.
use Rattle.std.specs.Prelude.{◌≡◌, ℕ, zero, suc, ℤ, List, [], ◌∷◌, map, take, slice_get, Option, None, Some}
use Rattle.std.specs.List.{AllByRecursion}
use Rattle.cti_terms.specs.Arithmetic.{kind_of}
use Rattle.cti_terms.specs.declared.atom_list.Atom.{Atom}
use Rattle.cti_terms.specs.declared.builtins.Builtin.{Builtin}
use Rattle.cti_terms.specs.declared.clauses.Clause.{Clause}
use Rattle.cti_terms.specs.Listing.{Listing, IsProgram}
use Rattle.termination_model.specs.grounds.Grounds.{IsClosed}
use Rattle.linear_rows.specs.Showing.{bottom_row}
use Rattle.termination_model.specs.sizes.Short.{Provable}
use Rattle.termination_model.specs.sizes.ShortSystems.{short_row}
use Rattle.termination_model.specs.columns.Columns.{AreColumns, columns_of}
use Rattle.termination_model.specs.columns.ColumnClaims.{Mapping, Measure, Claims, IsRanked, IsCovered, KeepsRule, AreStated, numbers_of, system, level_row, fall_row, Shows}
use Rattle.termination_model.specs.columns.ColumnRows.{least_over}

abbrev pub short_system : Claims → ℕ → List Atom → List (List ℤ)
short_system c vars bs = map short_row (system c vars bs)

-- multipliers show that a target over n naturals holds where the rows do; one that needs an expression which is not
-- there is shown only where these hold nowhere
abbrev pub TargetProvable : ℕ → List (List ℤ) → Option (List ℤ) → Type 0
TargetProvable n rows None = Provable rows (bottom_row n)
TargetProvable n rows (Some target) = Provable rows target

-- a size row, over the head of a clause
abbrev pub head_row : Claims → Clause → List ℤ → Option (List ℤ)
head_row c k r = least_over (numbers_of c k.vars) (columns_of (c.kinds k.head.pred.0) (map (c.columns.expression k.vars) k.head.args)) r

abbrev pub SizesProved : Claims → Clause → Type 0
SizesProved c k = AllByRecursion (λ (r : List ℤ). TargetProvable (numbers_of c k.vars) (short_system c k.vars k.body) (head_row c k r)) (c.rows k.head.pred.0)

abbrev pub FallsProved : Claims → Clause → List (List ℤ) → Atom → ℕ → List Mapping → Type 0
FallsProved c k rows b i [] = ⊥
FallsProved c k rows b zero (l ∷ ls) =
    TargetProvable (numbers_of c k.vars) rows (fall_row c k b 1 l) × TargetProvable (numbers_of c k.vars) rows (level_row c k.vars l k.head)
FallsProved c k rows b (suc i) (l ∷ ls) = TargetProvable (numbers_of c k.vars) rows (fall_row c k b 0 l) × FallsProved c k rows b i ls

abbrev pub DescendsProved : Claims → Measure → Clause → Type 0
DescendsProved c m k =
    (j : ℕ) (b : Atom) → slice_get k.body j ≡ Some b → c.rank b.pred.0 ≡ c.rank k.head.pred.0
    → (i : ℕ) × FallsProved c k (short_system c k.vars (take j k.body)) b i m.mappings

-- what a checker tests of a measure of the component r
pub record ServesProved (p : Listing) (c : Claims) (r : ℕ) (m : Measure) : Type 0 where
  pub covered : IsCovered c r m
  pub descends : AllByRecursion (λ (k : Clause). c.rank k.head.pred.0 ≡ r → DescendsProved c m k) p.clauses
  pub rule : AllByRecursion (λ (k : Clause). c.rank k.head.pred.0 ≡ r → KeepsRule c m k) p.clauses

pub record ShowsProved (p : Listing) (c : Claims) : Type 0 where
  pub columns : AreColumns p.arithmetic.names c.truth c.columns
  pub ranked : AllByRecursion (IsRanked c) p.clauses
  pub sizes : AllByRecursion (SizesProved c) p.clauses
  pub closed : IsClosed c.truth p c.grounds
  pub stated : (q : ℕ) (b : Builtin) → kind_of p.arithmetic q ≡ Some b → AreStated p.arithmetic c q b
  pub measures : (r : ℕ) → AllByRecursion (ServesProved p c r) (c.measures r)

abbrev pub ProofsShow : Type 0
ProofsShow = (p : Listing) (c : Claims) → IsProgram p → ShowsProved p c → Shows p c
