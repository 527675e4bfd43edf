-- To believe, for the modes by lists of mappings.
-- The shape of parts: how many there are, how wide they are, and in which ranges their numbers are.
--
-- To believe: all of this file. Predicates, clauses, calls, rows, lists and measures are numbered from 0 here.
use Rattle.std.specs.Prelude.{◌≡◌, ◌≢◌, ℕ, ◌≤◌, pos, IsTrue, if◌then◌else◌, List, [], ◌∷◌, map, take, length, Option, None, slice_get}
use Rattle.std.specs.List.{AllByRecursion}
use Rattle.call_components.specs.Partition.{Partition}
use Rattle.fact_reading.specs.Numbered.{AreEach}
use Rattle.cert_structure.specs.Shape.{HaveMultipliers, HasPoints, HasWidth, IsLevel, IsMode, IsPoint, IsSizeRow, arity_in, body_of, first_of, head_of, is_own_call, is_pair, is_recursive, items_of, rows_of, rows_of_atoms, vars_of}
use Rattle.cti_terms.specs.Listing.{Listing, numbered}
use Rattle.cti_terms.specs.declared.atom_list.Atom.{Atom}
use Rattle.linear_rows.specs.declared.multipliers.Multipliers.{Multipliers}
use Rattle.number_tests.specs.declared.level_part.LevelPart.{LevelPart}
use Rattle.number_tests.specs.declared.pair_point.PairPoint.{PairPoint}
use Rattle.number_tests.specs.declared.refutation.Refutation.{Refutation}
use Rattle.lex_certificate.specs.declared.parts.LexParts.{LexParts}

-- how many measures each list of a predicate's component has: one list of one, where it is not recursive
abbrev pub lengths_of : Partition → List (List (List LevelPart)) → ℕ → List ℕ
lengths_of comps lists a = if is_recursive comps a then map length (items_of lists (first_of comps a)) else 1 ∷ []

-- the parts of a predicate in the lists of its component, each of one measure at least
pub record AreLists (arity : ℕ) (lengths : List ℕ) (own : List (List LevelPart)) : Type 0 where
  pub each : map length own ≡ lengths
  pub some : AllByRecursion (λ (n : ℕ). 1 ≤ n) lengths
  pub levels : AllByRecursion (AllByRecursion (IsLevel arity)) own

-- the lists that a call of a clause with a head of this predicate has to drop in: those of the component, if it is to
-- that one
abbrev pub lists_of_call : Partition → List (List (List LevelPart)) → ℕ → Option Atom → List (List LevelPart)
lists_of_call comps lists a call = if is_own_call comps a call then items_of lists a else []

-- from 1 up to n multipliers of rows
abbrev pub IsPlace : ℕ → ℕ → List Multipliers → Type 0
IsPlace rows n ms = (1 ≤ length ms) × (length ms ≤ n) × AllByRecursion (HaveMultipliers rows) ms

-- such multipliers for each list, one at most for each of its measures
abbrev pub ArePlaces : ℕ → List (List LevelPart) → List (List Multipliers) → Type 0
ArePlaces rows own mss = AreEach (length own) (λ m. IsPlace rows (length (items_of own m))) mss

-- a pair of a predicate's component, with a point whose t is at least 1
pub record IsStuckPoint (p : Listing) (comps : Partition) (a : ℕ) (x : PairPoint) : Type 0 where
  pub pair : IsTrue (is_pair p comps a x.clause x.call)
  pub point : IsPoint (vars_of (numbered p.clauses x.clause)) x.point
  pub positive : x.point.t ≢ pos 0
  pub single : x.at ≡ None

abbrev pub IsStuckSet : Listing → Partition → List (List (List LevelPart)) → ℕ → Option Refutation → Type 0
IsStuckSet p comps lists a r = HasPoints (IsStuckPoint p comps a) comps lists a r

-- the parts have the shape that the program and its components ask
pub record HaveShape (p : Listing) (comps : Partition) (parts : LexParts) : Type 0 where
  pub modes : AreEach (length p.preds) (λ a. AllByRecursion (IsMode (arity_in p a))) parts.modes
  pub rows : AreEach (length p.preds) (λ a r. (r.width ≡ arity_in p a) × AllByRecursion (IsSizeRow (arity_in p a)) r.list) parts.rows
  -- a proof for each size row of the head, over the rows of the whole body
  pub row_proofs : AreEach (length p.clauses)
      (λ k. AreEach (rows_of parts.rows (head_of p k)) (λ _. HaveMultipliers (rows_of_atoms parts.rows (body_of p k)))) parts.row_proofs
  pub grounds : AreEach (length p.preds) (λ a. AllByRecursion (HasWidth (arity_in p a))) parts.grounds
  pub lists : AreEach (length p.preds) (λ a. AreLists (arity_in p a) (lengths_of comps parts.lists a)) parts.lists
  -- for a call to the own component, for each list, proofs up to the call's place, over the rows of the atoms before
  -- the call
  pub drops : AreEach (length p.clauses)
      (λ k. AreEach (length (body_of p k)) (λ j. ArePlaces (rows_of_atoms parts.rows (take j (body_of p k))) (lists_of_call comps parts.lists (head_of p k) (slice_get (body_of p k) j))))
      parts.drops
  pub preconditions : AreEach (length p.preds)
      (λ a. AreEach (length (items_of parts.lists a)) (λ _. AllByRecursion (HasWidth (arity_in p a)))) parts.preconditions
  pub stuck : AreEach (length p.preds) (IsStuckSet p comps parts.lists) parts.stuck
