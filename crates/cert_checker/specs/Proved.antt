-- To believe, for the command.
-- What a certificate's multipliers have to show: that clauses keep the size rows, and that the mappings fall.
--
-- A clause keeps a size row of its head where multipliers show the row over the rows of its body. A mapping falls at a
-- call where multipliers show, over the rows of the atoms before the call, that the level of the head less that of the
-- call less 1 is at least 0. All these rows are over the clause's variables, and each number is to fit. Clauses, calls,
-- rows and mappings are counted from 0 here.
--
-- To believe: `ByHold`, `MeasuresAreZero`, `FallsHold`.
use Rattle.std.specs.Prelude.{◌≡◌, ℕ, ℤ, pos, false, List, take, slice_get, Some}
use Rattle.std.specs.List.{AllByRecursion}
use Rattle.cti_terms.specs.Tree.{Tree}
use Rattle.cti_terms.specs.Listing.{Listing}
use Rattle.cti_terms.specs.declared.atom_list.Atom.{Atom}
use Rattle.cti_terms.specs.declared.clauses.Clause.{Clause}
use Rattle.call_components.specs.Partition.{Partition, IsIn}
use Rattle.linear_rows.specs.declared.multipliers.Multipliers.{Multipliers}
use Rattle.number_tests.specs.declared.level_part.LevelPart.{LevelPart}
use Rattle.cert_structure.specs.declared.parts.Parts.{Parts}
use Rattle.termination_model.specs.sizes.Sizes.{rows_of}
use Rattle.termination_model.specs.sizes.ShortSystems.{short_system}
use Rattle.number_tests.specs.Proved.{MappingsFall, RowsAreKept}
use Rattle.number_tests.specs.Shape.{list_at}
use Rattle.cert_checker.specs.Shape.{AreTogether}

-- a predicate's part of a mapping is 0
abbrev pub IsZero : LevelPart → Type 0
IsZero l = (l.offset ≡ pos 0) × AllByRecursion (λ a. a ≡ pos 0) l.coeffs

-- the mappings of a component that is not recursive are 0
abbrev pub MeasuresAreZero : Partition → Parts → Type 0
MeasuresAreZero comps parts =
    (c q : ℕ) → IsIn comps c q → slice_get comps.recursive c ≡ Some false → AllByRecursion IsZero (list_at parts.levels q)

module _ (expression : ℕ → Tree → List ℤ) where
  -- each clause keeps each size row of its head
  abbrev pub ByHold : Listing → Parts → Type 0
  ByHold p parts = (k : ℕ) (c : Clause) → slice_get p.clauses k ≡ Some c → RowsAreKept expression parts.rows c (list_at parts.row_proofs k)

  -- each mapping falls from a clause's head to each call of its component
  abbrev pub CallsFall : Partition → Parts → Clause → List (List Multipliers) → Type 0
  CallsFall comps parts c mss =
      (j : ℕ) (b : Atom) → slice_get c.body j ≡ Some b → AreTogether comps c.head.pred.0 b.pred.0
      → MappingsFall expression (short_system expression (rows_of parts.rows) c.vars (take j c.body)) c b (list_at parts.levels c.head.pred.0) (list_at parts.levels b.pred.0) (list_at mss j)

  -- each mapping falls at each call of its component
  abbrev pub FallsHold : Listing → Partition → Parts → Type 0
  FallsHold p comps parts = (k : ℕ) (c : Clause) → slice_get p.clauses k ≡ Some c → CallsFall comps parts c (list_at parts.falls k)
