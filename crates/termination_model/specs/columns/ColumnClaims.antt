-- Private.
-- What is claimed of a program's predicates over columns, and what makes the claims show that queries end.
--
-- As Claims.antt, with columns in the place of arguments' sizes, and with mappings of whole numbers: a mapping does not
-- rise before the place of a call, and at the place it falls and is at least 0 on the head.
--
-- To believe: nothing, where only `Bounded` is wanted.
-- Source: Podelski and Rybalchenko 2004; Bradley, Manna and Sipma 2005.
use Rattle.std.specs.Prelude.{◌≡◌, ℕ, zero, suc, ◌*◌, ◌<◌, ◌≤◌, ℤ, pos, negsuc, Bool, true, false, List, [], ◌∷◌, ◌++◌, map, take, drop, slice_get, Option, None, Some}
use Rattle.std.specs.List.{AllByRecursion}
use Rattle.cti_terms.specs.Arithmetic.{Arithmetic, kind_of}
use Rattle.cti_terms.specs.Tree.{Tree}
use Rattle.cti_terms.specs.declared.atom_list.Atom.{Atom}
use Rattle.cti_terms.specs.declared.builtins.Builtin.{Builtin}
use Rattle.cti_terms.specs.declared.clauses.Clause.{Clause}
use Rattle.cti_terms.specs.Listing.{Listing}
use Rattle.linear_rows.specs.Members.{In}
use Rattle.linear_rows.specs.Rows.{Holds, HoldsOn, AreEmpty}
use Rattle.linear_rows.specs.RowSums.{scaled, added}
use Rattle.termination_model.specs.grounds.Grounds.{Family, truth_row, IsGround, IsClosed}
use Rattle.termination_model.specs.sizes.Rows.{IsUpper}
use Rattle.termination_model.specs.claims.Claims.{SomeOf}
use Rattle.termination_model.specs.columns.Columns.{Valuation, Columns, columns_of, AreColumns}
use Rattle.termination_model.specs.columns.ColumnRows.{are_zero, row_over, or_zeros}

-- a whole number for each column of a predicate, and an offset
pub record Mapping : Type 0 where
  pub coefficients : ℕ → List ℤ
  pub offset : ℕ → ℤ

-- mappings whose levels are compared in order, and the truth rows from which calls stay in what is allowed
pub record Measure : Type 0 where
  pub mappings : List Mapping
  pub pre : Family

-- what measures terms, how many columns each argument of a predicate has, and what is claimed
pub record Claims : Type 0 where
  pub columns : Columns
  pub kinds : ℕ → List ℕ
  pub truth : (ℕ → Bool) → Tree → Bool
  pub rank : ℕ → ℕ
  pub rows : ℕ → List (List ℤ)
  pub grounds : Family
  pub measures : ℕ → List Measure

-- the size rows of a predicate hold at arguments with these measures
abbrev pub RowsHold : Claims → ℕ → List (ℕ → ℕ) → Type 0
RowsHold c q us = AllByRecursion (λ (r : List ℤ). Holds r 1 (columns_of (c.kinds q) us)) (c.rows q)

-- the size rows of an atom's predicate hold at the columns of its arguments
abbrev pub IsSized : Claims → Valuation → Atom → Type 0
IsSized c s a = RowsHold c a.pred.0 (map (c.columns.measure s) a.args)

-- where the columns of a clause's body obey the size rows, those of its head do
abbrev pub IsInductive : Claims → Clause → Type 0
IsInductive c k = (s : Valuation) → AllByRecursion (IsSized c s) k.body → IsSized c s k.head

-- a clause calls nothing of a higher rank
abbrev pub IsRanked : Claims → Clause → Type 0
IsRanked c k = AllByRecursion (λ (b : Atom). c.rank b.pred.0 ≤ c.rank k.head.pred.0) k.body

-- how many numbers the variables have together
abbrev pub numbers_of : Claims → ℕ → ℕ
numbers_of c vars = vars * c.columns.width

-- a row over an atom's columns, over the numbers of so many variables
abbrev pub atom_row : Claims → ℕ → Atom → List ℤ → Option (List ℤ)
atom_row c vars a = row_over (numbers_of c vars) (columns_of (c.kinds a.pred.0) (map (c.columns.expression vars) a.args))

-- the size rows of atoms, in order; zeros where an expression is needed that is not there
abbrev pub system : Claims → ℕ → List Atom → List (List ℤ)
system c vars [] = []
system c vars (b ∷ bs) = map (λ r. or_zeros (numbers_of c vars) (atom_row c vars b r)) (c.rows b.pred.0) ++ system c vars bs

-- the level of an atom, as a row over the numbers of so many variables
abbrev pub level_row : Claims → ℕ → Mapping → Atom → Option (List ℤ)
level_row c vars l a = atom_row c vars a (l.offset a.pred.0 ∷ l.coefficients a.pred.0)

-- level of the head, less that of the call, less d, where both have a row
abbrev pub difference : ℕ → Option (List ℤ) → Option (List ℤ) → Option (List ℤ)
difference d None call = None
difference d (Some head) None = None
difference d (Some head) (Some call) = Some (added head (scaled (negsuc 0) (added call (pos d ∷ []))))

abbrev pub fall_row : Claims → Clause → Atom → ℕ → Mapping → Option (List ℤ)
fall_row c k b d l = difference d (level_row c k.vars l k.head) (level_row c k.vars l b)

-- a row holds wherever the rows do; one that needs an expression which is not there does so where these hold nowhere
abbrev pub RowHoldsOn : ℕ → List (List ℤ) → Option (List ℤ) → Type 0
RowHoldsOn n rows None = AreEmpty n rows
RowHoldsOn n rows (Some row) = HoldsOn n rows row

-- where the rows hold, the mapping at place i falls and is at least 0 on the head, and none before it rises
abbrev pub FallsOn : Claims → Clause → List (List ℤ) → Atom → ℕ → List Mapping → Type 0
FallsOn c k rows b i [] = ⊥
FallsOn c k rows b zero (l ∷ ls) =
    RowHoldsOn (suc (numbers_of c k.vars)) rows (fall_row c k b 1 l) × RowHoldsOn (suc (numbers_of c k.vars)) rows (level_row c k.vars l k.head)
FallsOn c k rows b (suc i) (l ∷ ls) = RowHoldsOn (suc (numbers_of c k.vars)) rows (fall_row c k b 0 l) × FallsOn c k rows b i ls

-- each call in the component falls at some place, where the size rows of the atoms before it hold
abbrev pub Descends : Claims → Measure → Clause → Type 0
Descends c m k =
    (j : ℕ) (b : Atom) → slice_get k.body j ≡ Some b → c.rank b.pred.0 ≡ c.rank k.head.pred.0
    → (i : ℕ) × FallsOn c k (system c k.vars (take j k.body)) b i m.mappings

-- some measure has the row and all rows upper to it
abbrev pub Admits : Claims → ℕ → List Bool → Type 0
Admits c q bs = SomeOf (λ (m : Measure). (us : List Bool) → IsUpper us bs → m.pre q us ≡ true) (c.measures (c.rank q))

-- from a row of the head, each call has a row in turn, or below the component one that is admitted
abbrev pub KeepsRule : Claims → Measure → Clause → Type 0
KeepsRule c m k =
    (v : ℕ → Bool) → m.pre k.head.pred.0 (truth_row c.truth v k.head) ≡ true
    → (j : ℕ) (b : Atom) → slice_get k.body j ≡ Some b → AllByRecursion (IsGround c.truth c.grounds v) (take j k.body)
    → (c.rank b.pred.0 ≡ c.rank k.head.pred.0 → m.pre b.pred.0 (truth_row c.truth v b) ≡ true)
    × (c.rank b.pred.0 < c.rank k.head.pred.0 → Admits c b.pred.0 (truth_row c.truth v b))

-- true at each argument that has a column with a number other than 0
abbrev pub Covers : List ℕ → List ℤ → List Bool → Type 0
Covers [] cs bs = Unit {0}
Covers (k ∷ ks) cs [] = Unit {0}
Covers (k ∷ ks) cs (b ∷ bs) = (are_zero (take k cs) ≡ false → b ≡ true) × Covers ks (drop k cs) bs

-- a row of a measure is true wherever a column has a number other than 0
abbrev pub IsCovered : Claims → ℕ → Measure → Type 0
IsCovered c r m = (q : ℕ) (bs : List Bool) → c.rank q ≡ r → m.pre q bs ≡ true → AllByRecursion (λ (l : Mapping). Covers (c.kinds q) (l.coefficients q) bs) m.mappings

-- what is asked of a measure of the component r
pub record Serves (p : Listing) (c : Claims) (r : ℕ) (m : Measure) : Type 0 where
  pub covered : IsCovered c r m
  pub descends : AllByRecursion (λ (k : Clause). c.rank k.head.pred.0 ≡ r → Descends c m k) p.clauses
  pub rule : AllByRecursion (λ (k : Clause). c.rank k.head.pred.0 ≡ r → KeepsRule c m k) p.clauses

-- a built-in predicate has the columns of evaluated arguments, and size rows that are stated
pub record AreStated (ar : Arithmetic) (c : Claims) (q : ℕ) (b : Builtin) : Type 0 where
  pub kinds : c.kinds q ≡ c.columns.evaluated
  pub rows : AllByRecursion (λ r. In r (c.columns.stated b)) (c.rows q)

pub record Shows (p : Listing) (c : Claims) : Type 0 where
  pub columns : AreColumns p.arithmetic.names c.truth c.columns
  pub ranked : AllByRecursion (IsRanked c) p.clauses
  pub inductive : AllByRecursion (IsInductive c) p.clauses
  pub closed : IsClosed c.truth p c.grounds
  pub stated : (q : ℕ) (b : Builtin) → kind_of p.arithmetic q ≡ Some b → AreStated p.arithmetic c q b
  pub measures : (r : ℕ) → AllByRecursion (Serves p c r) (c.measures r)
