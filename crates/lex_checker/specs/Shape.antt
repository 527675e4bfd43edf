-- Private.
-- What the lists and drops of parts have, before any number of them is tested. Nothing here has to be believed.
--
-- Predicates, clauses, calls, lists and measures are counted from 0.
use Rattle.std.specs.Prelude.{◌≡◌, ◌<◌, ◌≤◌, ℕ, ℤ, List, map, take, length, slice_get, Some}
use Rattle.std.specs.List.{AllByRecursion}
use Rattle.call_components.specs.Partition.{Partition}
use Rattle.cert_checker.specs.Shape.{AreTogether, HaveRefutations, HaveRowProofs}
use Rattle.cert_modes.specs.Shaped.{HaveSets}
use Rattle.cert_structure.specs.declared.parts.Parts.{Parts}
use Rattle.cti_terms.specs.Listing.{Listing}
use Rattle.cti_terms.specs.declared.atom_list.Atom.{Atom}
use Rattle.cti_terms.specs.declared.clauses.Clause.{Clause}
use Rattle.cti_terms.specs.declared.predicates.Pred.{Pred}
use Rattle.number_tests.specs.Drops.{drop_weights}
use Rattle.lex_certificate.specs.declared.parts.LexParts.{LexParts}
use Rattle.linear_rows.specs.Showing.{AreMultipliers, IsShown}
use Rattle.linear_rows.specs.declared.multipliers.Multipliers.{Multipliers}
use Rattle.number_tests.specs.Shape.{IsLevelPart, list_at, row_count}
use Rattle.number_tests.specs.Targets.{CanBeWeighed}
use Rattle.number_tests.specs.declared.level_part.LevelPart.{LevelPart}
use Rattle.termination_model.specs.sizes.Replacing.{over_columns}
use Rattle.termination_model.specs.sizes.Sizes.{AreSizes, rows_of}
use Rattle.lex_checker.specs.Proved.{drop_at}

-- for each predicate its parts in its component's lists, which have the same lengths for each member
pub record HaveLists (p : Listing) (comps : Partition) (parts : LexParts) : Type 0 where
  pub each : length parts.lists ≡ length p.preds
  pub naturals : (q : ℕ) (d : Pred) → slice_get p.preds q ≡ Some d → AllByRecursion (AllByRecursion (IsLevelPart d.arity)) (list_at parts.lists q)
  pub members : (a b : ℕ) → AreTogether comps a b → map length (list_at parts.lists a) ≡ map length (list_at parts.lists b)

-- multipliers for one measure at least, and for n measures at most, each with one number for each row
pub record HavePlace (rows n : ℕ) (ms : List Multipliers) : Type 0 where
  pub some : 1 ≤ length ms
  pub few : length ms ≤ n
  pub multipliers : AllByRecursion (AreMultipliers rows) ms

-- for each call of the own component and each list multipliers up to the call's place, over the rows of the atoms
-- before
pub record HaveDrops (p : Listing) (comps : Partition) (parts : LexParts) : Type 0 where
  pub each : length parts.drops ≡ length p.clauses
  pub lists : (k j : ℕ) (c : Clause) (b : Atom) → slice_get p.clauses k ≡ Some c → slice_get c.body j ≡ Some b → AreTogether comps c.head.pred.0 b.pred.0
      → length (list_at (list_at parts.drops k) j) ≡ length (list_at parts.lists c.head.pred.0)
  pub places : (k j m : ℕ) (c : Clause) (b : Atom) → slice_get p.clauses k ≡ Some c → slice_get c.body j ≡ Some b → AreTogether comps c.head.pred.0 b.pred.0
      → m < length (list_at parts.lists c.head.pred.0)
      → HavePlace (row_count (rows_of parts.rows) (take j c.body)) (length (list_at (list_at parts.lists c.head.pred.0) m)) (list_at (list_at (list_at parts.drops k) j) m)

-- for each list its measures at a clause's head and at a call, and multipliers for the first of these, one for each row
pub record AreListsAt (rows : ℕ) (c : Clause) (b : Atom) (heads calls : List (List LevelPart)) (proofs : List (List Multipliers)) : Type 0 where
  pub head_parts : AllByRecursion (AllByRecursion (IsLevelPart (length c.head.args))) heads
  pub call_parts : AllByRecursion (AllByRecursion (IsLevelPart (length b.args))) calls
  pub few_heads : (m : ℕ) → length (list_at proofs m) ≤ length (list_at heads m)
  pub few_calls : (m : ℕ) → length (list_at proofs m) ≤ length (list_at calls m)
  pub multipliers : (m : ℕ) → AllByRecursion (AreMultipliers rows) (list_at proofs m)

-- parts of a head and of a call for each of these multipliers, which have one number for each row
pub record CanDrop (rows : ℕ) (columns : List (List ℤ)) (heads calls : List LevelPart) (ms : List Multipliers) : Type 0 where
  pub few_heads : length ms ≤ length heads
  pub few_calls : length ms ≤ length calls
  pub multipliers : AllByRecursion (AreMultipliers rows) ms
  pub weighed : (i : ℕ) (head call : LevelPart) → slice_get heads i ≡ Some head → slice_get calls i ≡ Some call → CanBeWeighed columns head call

-- the multipliers show the drop of each measure over these rows and columns
abbrev pub AreShown : List (List ℤ) → List (List ℤ) → List LevelPart → List LevelPart → List Multipliers → Type 0
AreShown rows columns heads calls ms =
    (i : ℕ) (head call : LevelPart) (by : Multipliers) → slice_get heads i ≡ Some head → slice_get calls i ≡ Some call → slice_get ms i ≡ Some by
    → IsShown rows (over_columns columns (drop_weights (drop_at i (length ms)) head call)) by

-- what the tests of flat parts ask
pub record CanBeTested (p : Listing) (parts : Parts) : Type 0 where
  pub sizes : AreSizes p.preds parts.rows
  pub row_proofs : HaveRowProofs p parts
  pub refutations : HaveRefutations p parts
  pub sets : HaveSets p parts
