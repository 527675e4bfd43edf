-- To believe, for the modes.
-- The shape of parts: how many there are, how wide they are, and in which ranges their numbers are.
--
-- To believe: all of this file. Predicates, clauses, calls, rows and mappings are numbered from 0 here.
use Rattle.std.specs.Prelude.{◌≡◌, ◌≢◌, ℕ, ◌≤◌, ◌<◌, ℤ, pos, Bool, false, IsTrue, ◌&&◌, ◌==◌, if◌then◌else◌, List, [], ◌∷◌, take, length, sum_by, Option, None, Some, option_map, option_and_then, unwrap_or, slice_get}
use Rattle.std.specs.List.{AllByRecursion}
use Rattle.call_components.specs.Partition.{Partition}
use Rattle.certificate.specs.Range.{IsAmount, AreAmounts, AreEntries}
use Rattle.cti_terms.specs.declared.atom_list.Atom.{Atom}
use Rattle.cti_terms.specs.declared.clauses.Clause.{Clause}
use Rattle.cti_terms.specs.Listing.{Listing, numbered}
use Rattle.linear_rows.specs.declared.multipliers.Multipliers.{Multipliers}
use Rattle.linear_rows.specs.declared.row.Row.{Row}
use Rattle.linear_rows.specs.declared.row.Rows.{Rows}
use Rattle.number_tests.specs.declared.level_part.LevelPart.{LevelPart}
use Rattle.linear_rows.specs.declared.point.Point.{Point}
pub use Rattle.number_tests.specs.Levels.{items_of}
pub use Rattle.number_tests.specs.Shape.{IsBefore, place_of_pair, PairsAscend}
use Rattle.number_tests.specs.declared.pair_point.PairPoint.{PairPoint}
pub use Rattle.termination_model.specs.mappings.Ready.{arity_in}
use Rattle.number_tests.specs.declared.refutation.Refutation.{Refutation}
use Rattle.cert_structure.specs.declared.parts.Parts.{Parts}
use Rattle.fact_reading.specs.Numbered.{AreEach}

-- the predicate of a clause's head, its body, and how many variables it has
abbrev pub head_of : Listing → ℕ → ℕ
head_of p k = unwrap_or (option_map (λ (c : Clause). c.head.pred.0) (slice_get p.clauses k)) 0

abbrev pub body_of : Listing → ℕ → List Atom
body_of p k = unwrap_or (option_map (λ (c : Clause). c.body) (slice_get p.clauses k)) []

abbrev pub vars_of : Option Clause → ℕ
vars_of o = unwrap_or (option_map (λ (c : Clause). c.vars) o) 0

-- how many size rows a predicate has, and how many the system of some atoms
abbrev pub rows_of : List Rows → ℕ → ℕ
rows_of rows q = unwrap_or (option_map (λ (r : Rows). length r.list) (slice_get rows q)) 0

abbrev pub rows_of_atoms : List Rows → List Atom → ℕ
rows_of_atoms rows atoms = sum_by (λ (b : Atom). rows_of rows b.pred.0) atoms

-- whether both are there and equal
abbrev pub is_same : Option ℕ → Option ℕ → Bool
is_same (Some c) (Some d) = c == d
is_same _ _ = false

-- whether two predicates are in one component
abbrev pub is_together : Partition → ℕ → ℕ → Bool
is_together comps a b = is_same (slice_get comps.of a) (slice_get comps.of b)

-- whether a predicate's component is recursive
abbrev pub is_recursive : Partition → ℕ → Bool
is_recursive comps a = unwrap_or (option_and_then (slice_get comps.recursive) (slice_get comps.of a)) false

-- the first predicate of a predicate's component
abbrev pub first_of : Partition → ℕ → ℕ
first_of comps a = unwrap_or (option_and_then (λ ms. slice_get ms 0) (option_and_then (slice_get comps.members) (slice_get comps.of a))) a

-- how many mappings a predicate's component has: one, where it is not recursive
abbrev pub mappings_of : Partition → List (List LevelPart) → ℕ → ℕ
mappings_of comps levels a = if is_recursive comps a then length (items_of levels (first_of comps a)) else 1

-- each number is above the one before it, and the first above this one
abbrev pub Ascend : ℕ → List ℕ → Type 0
Ascend last [] = Unit {0}
Ascend last (a ∷ more) = (last < a) × Ascend a more

-- argument numbers from 1, in ascending order
abbrev pub IsMode : ℕ → List ℕ → Type 0
IsMode arity mode = Ascend 0 mode × AllByRecursion (λ a. a ≤ arity) mode

abbrev pub IsSizeRow : ℕ → Row → Type 0
IsSizeRow arity row = (length row.coeffs ≡ arity) × AreEntries (row.constant ∷ row.coeffs)

-- a multiplier for each row
abbrev pub HaveMultipliers : ℕ → Multipliers → Type 0
HaveMultipliers rows m = (length m.list ≡ rows) × IsAmount m.scale × AreAmounts m.list

abbrev pub HasWidth : {A : Type 0} → ℕ → List A → Type 0
HasWidth arity cells = length cells ≡ arity

abbrev pub IsLevel : ℕ → LevelPart → Type 0
IsLevel arity level = (length level.coeffs ≡ arity) × AreAmounts level.coeffs × IsAmount level.offset

-- the call is to the component of a predicate
abbrev pub is_own_call : Partition → ℕ → Option Atom → Bool
is_own_call comps a None = false
is_own_call comps a (Some b) = is_together comps a b.pred.0

-- how many proofs a call has: one for each mapping of a predicate, where it is to that one's component
abbrev pub proofs_of_call : Partition → List (List LevelPart) → ℕ → Option Atom → ℕ
proofs_of_call comps levels a call = if is_own_call comps a call then length (items_of levels a) else 0

-- the clause of a predicate's component has such a call
abbrev pub is_own_clause : Partition → ℕ → ℕ → Option Clause → Bool
is_own_clause comps a call None = false
is_own_clause comps a call (Some c) = is_together comps a c.head.pred.0 && is_own_call comps a (numbered c.body call)

-- the clause and the call, both counted from 1, are a pair of a predicate's component
abbrev pub is_pair : Listing → Partition → ℕ → ℕ → ℕ → Bool
is_pair p comps a clause call = is_own_clause comps a call (numbered p.clauses clause)

-- a value for each variable
abbrev pub IsPoint : ℕ → Point → Type 0
IsPoint vars x = (length x.w ≡ vars) × IsAmount x.t × AreAmounts x.w

-- a second point with a positive t, exactly where that of the first is 0
abbrev pub HasSecond : ℕ → ℤ → Option Point → Type 0
HasSecond vars t None = t ≢ pos 0
HasSecond vars t (Some y) = (t ≡ pos 0) × IsPoint vars y × (y.t ≢ pos 0)

-- a pair of a predicate's component, with its points
pub record IsPairPoint (p : Listing) (comps : Partition) (a : ℕ) (x : PairPoint) : Type 0 where
  pub pair : IsTrue (is_pair p comps a x.clause x.call)
  pub point : IsPoint (vars_of (numbered p.clauses x.clause)) x.point
  pub second : HasSecond (vars_of (numbered p.clauses x.clause)) x.point.t x.at

-- the first predicate of a recursive component for which there are no mappings, or no lists
pub record IsOpen {A : Type 0} (comps : Partition) (levels : List (List A)) (a : ℕ) : Type 0 where
  pub recursive : IsTrue (is_recursive comps a)
  pub first : first_of comps a ≡ a
  pub none : length (items_of levels a) ≡ 0

-- points of pairs, one at least, in the order of the pairs; only where there are no mappings, or no lists
abbrev pub HasPoints : {A : Type 0} → (PairPoint → Type 0) → Partition → List (List A) → ℕ → Option Refutation → Type 0
HasPoints IsRight comps levels a None = Unit {0}
HasPoints IsRight comps levels a (Some r) =
    IsOpen comps levels a × (1 ≤ length r.points) × PairsAscend (0, 0) r.points × AllByRecursion IsRight r.points

abbrev pub IsRefutation : Listing → Partition → List (List LevelPart) → ℕ → Option Refutation → Type 0
IsRefutation p comps levels a r = HasPoints (IsPairPoint p comps a) comps levels a r

-- the parts have the shape that the program and its components ask
pub record HaveShape (p : Listing) (comps : Partition) (parts : Parts) : Type 0 where
  pub modes : AreEach (length p.preds) (λ a. AllByRecursion (IsMode (arity_in p a))) parts.modes
  pub rows : AreEach (length p.preds) (λ a r. (r.width ≡ arity_in p a) × AllByRecursion (IsSizeRow (arity_in p a)) r.list) parts.rows
  -- a proof for each size row of the head, over the rows of the whole body
  pub row_proofs : AreEach (length p.clauses)
      (λ k. AreEach (rows_of parts.rows (head_of p k)) (λ _. HaveMultipliers (rows_of_atoms parts.rows (body_of p k)))) parts.row_proofs
  pub grounds : AreEach (length p.preds) (λ a. AllByRecursion (HasWidth (arity_in p a))) parts.grounds
  pub levels : AreEach (length p.preds) (λ a ls. (length ls ≡ mappings_of comps parts.levels a) × AllByRecursion (IsLevel (arity_in p a)) ls) parts.levels
  -- for a call to the own component a proof for each mapping, over the rows of the atoms before the call
  pub falls : AreEach (length p.clauses)
      (λ k. AreEach (length (body_of p k)) (λ j. AreEach (proofs_of_call comps parts.levels (head_of p k) (slice_get (body_of p k) j)) (λ _. HaveMultipliers (rows_of_atoms parts.rows (take j (body_of p k))))))
      parts.falls
  pub preconditions : AreEach (length p.preds)
      (λ a. AreEach (length (items_of parts.levels a)) (λ _. AllByRecursion (HasWidth (arity_in p a)))) parts.preconditions
  pub refutations : AreEach (length p.preds) (IsRefutation p comps parts.levels) parts.refutations
