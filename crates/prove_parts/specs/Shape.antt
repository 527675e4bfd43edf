-- Private.
-- To believe, for the modes by measures with numbers.
-- The shape of parts: how many there are, how wide they are, and in which ranges their numbers are.
--
-- To believe: all of this file. Predicates, clauses, calls, rows, lists and measures are numbered from 0 here.
use Rattle.std.specs.Prelude.{◌≡◌, ℕ, ◌*◌, ◌≤◌, ◌&&◌, ◌==◌, Bool, IsTrue, List, [], ◌∷◌, map, take, length, sum_by, Option, None, Some, slice_get}
use Rattle.std.specs.List.{AllByRecursion, list_any}
use Rattle.call_components.specs.Partition.{Partition}
use Rattle.cert_structure.specs.Shape.{HaveMultipliers, HasWidth, IsMode, IsOpen, IsPoint, IsSizeRow, arity_in, body_of, head_of, is_pair, items_of, rows_of, rows_of_atoms, vars_of}
use Rattle.certificate.specs.Range.{AreEntries, IsEntry}
use Rattle.cti_terms.specs.Listing.{Listing, numbered}
use Rattle.fact_reading.specs.Numbered.{AreEach}
use Rattle.lex_certificate.specs.Shape.{ArePlaces, lengths_of, lists_of_call}
use Rattle.linear_rows.specs.declared.point.Point.{Point}
use Rattle.number_tests.specs.Shape.{IsBefore}
use Rattle.number_tests.specs.declared.level_part.LevelPart.{LevelPart}
use Rattle.prove_certificate.specs.declared.kind.CertKind.{CertKind}
use Rattle.prove_certificate.specs.declared.kind.CertKind.TheVariants as kind
use Rattle.prove_parts.specs.declared.parts.ProveParts.{ProveParts}
use Rattle.prove_parts.specs.declared.stuck.GroupPoint.{GroupPoint}
use Rattle.prove_parts.specs.declared.stuck.StuckGroup.{StuckGroup}
use Rattle.prove_parts.specs.declared.stuck.StuckSet.{StuckSet}

-- how many columns an argument of a kind has, and arguments together
abbrev pub columns : CertKind → ℕ
columns kind.Size = 1
columns kind.Number = 3

abbrev pub columns_of : List CertKind → ℕ
columns_of kinds = sum_by columns kinds

-- how many columns the arguments of a predicate have
abbrev pub columns_in : List (List CertKind) → ℕ → ℕ
columns_in kinds a = columns_of (items_of kinds a)

-- the kind of each argument, of which there are at most twelve
abbrev pub AreKinds : ℕ → List CertKind → Type 0
AreKinds arity kinds = (length kinds ≡ arity) × (arity ≤ 12)

-- a number for each column, and an offset, whatever their signs
abbrev pub IsMeasure : ℕ → LevelPart → Type 0
IsMeasure width level = (length level.coeffs ≡ width) × AreEntries level.coeffs × IsEntry level.offset

-- the parts of a predicate in the lists of its component, each of one measure at least
pub record AreLists (width : ℕ) (lengths : List ℕ) (own : List (List LevelPart)) : Type 0 where
  pub each : map length own ≡ lengths
  pub some : AllByRecursion (λ (n : ℕ). 1 ≤ n) lengths
  pub levels : AllByRecursion (AllByRecursion (IsMeasure width)) own

-- each pair is after the one before it, and the first after this one
abbrev pub Ascend : {A : Type 0} → (A → ℕ × ℕ) → ℕ × ℕ → List A → Type 0
Ascend pair last [] = Unit {0}
Ascend pair last (x ∷ xs) = IsBefore last (pair x) × Ascend pair (pair x) xs

abbrev pub pair_of_point : GroupPoint → ℕ × ℕ
pair_of_point x = (x.clause, x.call)

abbrev pub pair_of_group : StuckGroup → ℕ × ℕ
pair_of_group g = (g.clause, g.call)

-- three values for each variable of a clause, which counts from 1
abbrev pub IsPointOf : Listing → ℕ → Point → Type 0
IsPointOf p clause x = IsPoint (vars_of (numbered p.clauses clause) * 3) x

abbrev pub same_pair : ℕ × ℕ → ℕ × ℕ → Bool
same_pair q r = (q.0 == r.0) && (q.1 == r.1)

-- whether a pair is among these
abbrev pub is_among : List (ℕ × ℕ) → ℕ × ℕ → Bool
is_among pairs q = list_any (same_pair q) pairs

-- a point of a pair that has a group
pub record IsGroupPoint (p : Listing) (pairs : List (ℕ × ℕ)) (x : GroupPoint) : Type 0 where
  pub pair : IsTrue (is_among pairs (pair_of_point x))
  pub point : IsPointOf p x.clause x.point

abbrev pub IsFloor : Listing → ℕ → Option Point → Type 0
IsFloor p clause None = Unit {0}
IsFloor p clause (Some x) = IsPointOf p clause x

-- a pair of a predicate's component, with points of pairs that have groups, in their order, and perhaps a floor
pub record IsGroup (p : Listing) (comps : Partition) (a : ℕ) (pairs : List (ℕ × ℕ)) (g : StuckGroup) : Type 0 where
  pub pair : IsTrue (is_pair p comps a g.clause g.call)
  pub ascend : Ascend pair_of_point (0, 0) g.points
  pub points : AllByRecursion (IsGroupPoint p pairs) g.points
  pub floor : IsFloor p g.clause g.floor

-- groups of pairs, one at least, in the order of the pairs; only where there are no lists
abbrev pub IsStuckSet : Listing → Partition → List (List (List LevelPart)) → ℕ → Option StuckSet → Type 0
IsStuckSet p comps lists a None = Unit {0}
IsStuckSet p comps lists a (Some r) =
    IsOpen comps lists a × (1 ≤ length r.groups) × Ascend pair_of_group (0, 0) r.groups
    × AllByRecursion (IsGroup p comps a (map pair_of_group r.groups)) r.groups

-- the parts have the shape that the program, its components and the kinds ask
pub record HaveShape (p : Listing) (comps : Partition) (parts : ProveParts) : Type 0 where
  pub modes : AreEach (length p.preds) (λ a. AllByRecursion (IsMode (arity_in p a))) parts.modes
  pub kinds : AreEach (length p.preds) (λ a. AreKinds (arity_in p a)) parts.kinds
  pub fails : length parts.fails ≡ length p.preds
  pub rows : AreEach (length p.preds)
      (λ a r. (r.width ≡ columns_in parts.kinds a) × AllByRecursion (IsSizeRow (columns_in parts.kinds a)) r.list) parts.rows
  -- a proof for each size row of the head, over the rows of the whole body
  pub row_proofs : AreEach (length p.clauses)
      (λ k. AreEach (rows_of parts.rows (head_of p k)) (λ _. HaveMultipliers (rows_of_atoms parts.rows (body_of p k)))) parts.row_proofs
  pub grounds : AreEach (length p.preds) (λ a. AllByRecursion (HasWidth (arity_in p a))) parts.grounds
  pub lists : AreEach (length p.preds) (λ a. AreLists (columns_in parts.kinds a) (lengths_of comps parts.lists a)) parts.lists
  -- for a call to the own component, for each list, proofs up to the call's place, over the rows of the atoms before
  -- the call
  pub drops : AreEach (length p.clauses)
      (λ k. AreEach (length (body_of p k))
      (λ j. ArePlaces (rows_of_atoms parts.rows (take j (body_of p k))) (lists_of_call comps parts.lists (head_of p k) (slice_get (body_of p k) j))))
      parts.drops
  -- and a proof of the bound at the place
  pub floors : AreEach (length p.clauses)
      (λ k. AreEach (length (body_of p k))
      (λ j. AreEach (length (lists_of_call comps parts.lists (head_of p k) (slice_get (body_of p k) j))) (λ _. HaveMultipliers (rows_of_atoms parts.rows (take j (body_of p k))))))
      parts.floors
  pub preconditions : AreEach (length p.preds)
      (λ a. AreEach (length (items_of parts.lists a)) (λ _. AllByRecursion (HasWidth (arity_in p a)))) parts.preconditions
  pub stuck : AreEach (length p.preds) (IsStuckSet p comps parts.lists) parts.stuck
