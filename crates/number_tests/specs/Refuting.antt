-- To believe, for the command.
-- What a refutation has to show: that no mapping of a component falls at each of its calls.
--
-- A refutation has points of pairs of a clause and a call of its body. At each the size rows of the atoms before the
-- call hold, and where its t is 0, they hold also at a second point. Some t is positive, and for each member of the
-- component and each coefficient, or the offset, the heads' values at the points are together at most the calls'
-- values. Each product, each running sum in the stated order and each row of the systems is to fit.
--
-- To believe: all of this file.
use Rattle.std.specs.Prelude.{◌≡◌, ℕ, ◌-◌, ◌≤ℤ◌, ℤ, pos, true, List, [], ◌∷◌, map, take, length, Contains, slice_get, Option, None, Some, IfSome}
use Rattle.std.specs.List.{AllByRecursion}
use Rattle.exact128.specs.Sums.{entry, dot, DotFits}
use Rattle.cti_terms.specs.Tree.{Tree}
use Rattle.cti_terms.specs.Listing.{Listing}
use Rattle.cti_terms.specs.declared.atom_list.Atom.{Atom}
use Rattle.cti_terms.specs.declared.clauses.Clause.{Clause}
use Rattle.number_tests.specs.declared.pair_point.PairPoint.{PairPoint}
use Rattle.linear_rows.specs.declared.point.Point.{Point}
use Rattle.termination_model.specs.claims.Claims.{SomeOf}
use Rattle.termination_model.specs.mappings.Refutation.{Load, gather}
use Rattle.termination_model.specs.sizes.Systems.{row_fits, system}

-- the clause of a pair, and the call
abbrev pub clause_or_none : Option Clause → Clause
clause_or_none None = record { head = record { pred = record { 0 = 0 }; args = [] }; body = []; vars = 0 }
clause_or_none (Some c) = c

abbrev pub atom_or_none : Option Atom → Atom
atom_or_none None = record { pred = record { 0 = 0 }; args = [] }
atom_or_none (Some a) = a

abbrev pub clause_of : Listing → PairPoint → Clause
clause_of p x = clause_or_none (slice_get p.clauses (x.clause - 1))

abbrev pub call_of : Listing → PairPoint → Atom
call_of p x = atom_or_none (slice_get (clause_of p x).body (x.call - 1))

-- the numbers of a point, t first
abbrev pub numbers_of : Point → List ℤ
numbers_of x = x.t ∷ x.w

-- each number fits that is formed for a row's value at a point
abbrev pub ValueFits : Point → List ℤ → Type 0
ValueFits x row = DotFits (length row) row (numbers_of x)

-- a row fits, and holds at a point with each number that its value forms
pub record RowHolds (x : Point) (row : List ℤ) : Type 0 where
  pub numbers_fit : row_fits row ≡ true
  pub value_fits : ValueFits x row
  pub holds : pos 0 ≤ℤ dot row (numbers_of x)

-- the values of expressions at a point, after that of an offset, which is t
abbrev pub values_of : List (List ℤ) → Point → List ℤ
values_of es x = x.t ∷ map (λ e. dot e (numbers_of x)) es

-- the sums for each predicate of the first loads, of each number of them, fit
abbrev pub SumsFit : List Load → Type 0
SumsFit hs = (k q : ℕ) → row_fits (gather q (take k hs)) ≡ true

module _ (expression : ℕ → Tree → List ℤ) where
  -- the sizes of an atom's arguments, over the variables of a point
  abbrev pub sizes_at : Atom → Point → List (List ℤ)
  sizes_at a x = map (expression (length x.w)) a.args

  -- an atom's predicate, with the values of its arguments at a point
  abbrev pub load_at : Atom → Point → Load
  load_at a x = (a.pred.0, values_of (sizes_at a x) x)

  abbrev pub head_loads : Listing → List PairPoint → List Load
  head_loads p xs = map (λ (x : PairPoint). load_at (clause_of p x).head x.point) xs

  abbrev pub call_loads : Listing → List PairPoint → List Load
  call_loads p xs = map (λ (x : PairPoint). load_at (call_of p x) x.point) xs

  -- each number fits that is formed for the values of a pair's head and call
  abbrev pub PairFits : Listing → PairPoint → Type 0
  PairFits p x = AllByRecursion (ValueFits x.point) (sizes_at (clause_of p x).head x.point) × AllByRecursion (ValueFits x.point) (sizes_at (call_of p x) x.point)

  -- and so do the sums of these values
  pub record PairsFit (p : Listing) (xs : List PairPoint) : Type 0 where
    pub values : AllByRecursion (PairFits p) xs
    pub heads : SumsFit (head_loads p xs)
    pub calls : SumsFit (call_loads p xs)

  -- some t is positive, and for each member the heads' values are together at most the calls' values
  pub record SumsRefute (p : Listing) (members : List ℕ) (xs : List PairPoint) : Type 0 where
    pub positive : SomeOf (λ (x : PairPoint). pos 1 ≤ℤ x.point.t) xs
    pub fit : PairsFit p xs
    pub columns : (q : ℕ) → Contains members q → (i : ℕ) → entry (gather q (head_loads p xs)) i ≤ℤ entry (gather q (call_loads p xs)) i

  -- the rows of the atoms before the call hold at a point of the pair
  abbrev pub RowsHold : (ℕ → List (List ℤ)) → Clause → ℕ → Point → Type 0
  RowsHold rows c j x = AllByRecursion (RowHolds x) (system expression rows c.vars (take j c.body))

  abbrev pub PointHolds : Listing → (ℕ → List (List ℤ)) → PairPoint → Type 0
  PointHolds p rows x = RowsHold rows (clause_of p x) (x.call - 1) x.point × IfSome x.at (RowsHold rows (clause_of p x) (x.call - 1))
