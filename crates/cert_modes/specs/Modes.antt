-- To believe, for the modes.
-- When the modes of a certificate hold: its ground rows are closed, its preconditions keep their rule, and each mode is
-- admitted.
--
-- To believe: all of this file. Predicates and mappings are numbered from 0 here.
-- Source: preconditions as in Mesnard and Neumerkel 2001, one for each mapping.
use Rattle.std.specs.Prelude.{ℕ, ◌==◌, ◌&&◌, Bool, false, IsTrue, List, [], length, slice_get, Option, None, Some}
use Rattle.std.specs.List.{AllByRecursion, list_any}
use Rattle.bool_diagrams.specs.Cubes.{covered}
use Rattle.bool_diagrams.specs.declared.cube.Cell.{Cell}
use Rattle.call_components.specs.Partition.{Partition}
use Rattle.cti_terms.specs.Listing.{Listing}
use Rattle.cti_terms.specs.Tree.{Tree}
use Rattle.cti_terms.specs.declared.clauses.Clause.{Clause}
use Rattle.cti_terms.specs.declared.predicates.Pred.{Pred}
use Rattle.termination_model.specs.claims.Descent.{mode_row}
use Rattle.termination_model.specs.grounds.Grounds.{Family, IsClosed}
use Rattle.termination_model.specs.sizes.Rows.{Covers}
use Rattle.termination_model.specs.mappings.View.{all_upper}
use Rattle.truth_rows.specs.Rules.{KeepsSets}
use Rattle.cert_structure.specs.Shape.{arity_in, is_together, items_of}
pub use Rattle.number_tests.specs.Levels.{natural, naturals, coefficients_of}
use Rattle.cert_structure.specs.declared.parts.Parts.{Parts}

-- there is a predicate, with as many arguments as the row has values
abbrev pub is_row : Option Pred → List Bool → Bool
is_row None row = false
is_row (Some q) row = q.arity == length row

-- the rows of a predicate that some cube covers
abbrev pub cube_row : Listing → ℕ → List (List Cell) → List Bool → Bool
cube_row p q cubes row = is_row (slice_get p.preds q) row && covered cubes row

module _ (p : Listing) (parts : Parts) where
  -- the ground rows
  abbrev pub grounds_of : Family
  grounds_of q row = cube_row p q (items_of parts.grounds q) row

  -- the precondition of the mapping of this number, which has no rows where there is no such mapping
  abbrev pub precondition : ℕ → Family
  precondition m q row = cube_row p q (items_of (items_of parts.preconditions q) m) row

  -- some mapping's precondition has the row, and each row that is upper to it
  abbrev pub allowed : Family
  allowed q row = list_any (λ cubes. all_upper (cube_row p q cubes) row) (items_of parts.preconditions q)

-- the modes of the parts hold
pub record ModesHold (truth : (ℕ → Bool) → Tree → Bool) (p : Listing) (comps : Partition) (parts : Parts) : Type 0 where
  -- each clause whose body has its rows among the ground ones has its head's row there
  pub closed : IsClosed truth p (grounds_of p parts)
  -- a row of a precondition is true wherever the mapping's coefficient is positive
  pub covered : (m q : ℕ) (row : List Bool) → IsTrue (precondition p parts m q row) → Covers (coefficients_of parts.levels m q) row
  -- from a row of the head, each call that is reached has a row in turn: of the same mapping within the component, else
  -- an allowed one
  pub rule : (m : ℕ) → AllByRecursion (λ (k : Clause). KeepsSets truth (precondition p parts m) (allowed p parts) (grounds_of p parts) (λ q. is_together comps q k.head.pred.0) k) p.clauses
  -- the row of each mode is allowed
  pub modes : (q : ℕ) → AllByRecursion (λ mode. IsTrue (allowed p parts q (mode_row mode 1 (arity_in p q)))) (items_of parts.modes q)
