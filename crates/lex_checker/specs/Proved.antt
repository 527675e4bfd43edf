-- To believe, for the modes by lists of mappings.
-- What the multipliers of a certificate of lists have to show: that the measures of each list drop at each call.
--
-- At each call of its own component, and for each list, there are multipliers for the measures up to the call's place.
-- Over the rows of the atoms before the call they show that the level of the head less that of the call is at least 0,
-- and at the place itself at least 1. Each number is to fit. Clauses, calls, lists and measures are counted from 0
-- here.
--
-- To believe: all of this file.
use Rattle.std.specs.Prelude.{◌≡◌, ℕ, suc, ◌==◌, ℤ, false, List, length, take, slice_get, Some}
use Rattle.std.specs.List.{AllByRecursion}
use Rattle.call_components.specs.Partition.{Partition, IsIn}
use Rattle.cert_checker.specs.Proved.{IsZero}
use Rattle.cert_checker.specs.Shape.{AreTogether}
use Rattle.cti_terms.specs.Listing.{Listing}
use Rattle.cti_terms.specs.Tree.{Tree}
use Rattle.cti_terms.specs.declared.atom_list.Atom.{Atom}
use Rattle.cti_terms.specs.declared.clauses.Clause.{Clause}
use Rattle.number_tests.specs.Drops.{drop_of, fall_number}
use Rattle.lex_certificate.specs.declared.parts.LexParts.{LexParts}
use Rattle.linear_rows.specs.Showing.{IsShown}
use Rattle.linear_rows.specs.declared.multipliers.Multipliers.{Multipliers}
use Rattle.number_tests.specs.Shape.{list_at}
use Rattle.number_tests.specs.declared.level_part.LevelPart.{LevelPart}
use Rattle.termination_model.specs.sizes.Sizes.{rows_of}
use Rattle.termination_model.specs.sizes.ShortSystems.{short_system}

-- the measures of the lists of a component that is not recursive are 0
abbrev pub ListsAreZero : Partition → LexParts → Type 0
ListsAreZero comps parts =
    (c q : ℕ) → IsIn comps c q → slice_get comps.recursive c ≡ Some false → AllByRecursion (AllByRecursion IsZero) (list_at parts.lists q)

-- the drop that is asked of measure i where n measures are proved: 1 at the last one, and 0 before it
abbrev pub drop_at : ℕ → ℕ → ℕ
drop_at i n = fall_number (suc i == n)

module _ (expression : ℕ → Tree → List ℤ) where
  -- where the rows hold, the measures of a list drop from a clause's head to a call
  abbrev pub MeasuresDrop : List (List ℤ) → Clause → Atom → List LevelPart → List LevelPart → List Multipliers → Type 0
  MeasuresDrop rows c b heads calls ms =
      (i : ℕ) (head call : LevelPart) (by : Multipliers) → slice_get heads i ≡ Some head → slice_get calls i ≡ Some call → slice_get ms i ≡ Some by
      → IsShown rows (drop_of expression (drop_at i (length ms)) c b head call) by

  -- those of each list drop from a clause's head to each call of its component
  abbrev pub CallsDrop : Partition → LexParts → Clause → List (List (List Multipliers)) → Type 0
  CallsDrop comps parts c msss =
      (j : ℕ) (b : Atom) → slice_get c.body j ≡ Some b → AreTogether comps c.head.pred.0 b.pred.0
      → (m : ℕ) → MeasuresDrop (short_system expression (rows_of parts.rows) c.vars (take j c.body)) c b
      (list_at (list_at parts.lists c.head.pred.0) m) (list_at (list_at parts.lists b.pred.0) m) (list_at (list_at msss j) m)

  -- those of each list drop at each call of its component
  abbrev pub DropsHold : Listing → Partition → LexParts → Type 0
  DropsHold p comps parts = (k : ℕ) (c : Clause) → slice_get p.clauses k ≡ Some c → CallsDrop comps parts c (list_at parts.drops k)
