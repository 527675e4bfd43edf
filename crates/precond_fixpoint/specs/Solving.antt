-- Private.
-- The greatest preconditions of all components, and the modes that they give.
--
-- Predicates, mappings and components are numbered from 0 here. A predicate has a diagram for each mapping of its
-- component. What is allowed of a predicate comes from these diagrams, and the components are solved callees first.
--
-- To believe: `is_member`, `pre_family`, `allowed_family`, `AreLevels`, `IsSolved`, `AreModes`.
-- Source: preconditions as in Mesnard and Neumerkel 2001, one greatest solution for each mapping.
use Rattle.std.specs.Prelude.{◌≡◌, ℕ, ◌<◌, Bool, List, length, map, slice_get, Some}
use Rattle.std.specs.List.{list_any}
use Rattle.bool_diagrams.specs.Rows.{IsDiagram, ReadsBelow}
use Rattle.bool_diagrams.specs.Tree.{Tree as Rows}
use Rattle.bool_diagrams.specs.declared.diagram.Diagram.{Diagram}
use Rattle.call_components.specs.Partition.{IsIn, Partition}
use Rattle.cti_terms.specs.Listing.{Listing}
use Rattle.cti_terms.specs.Tree.{Tree}
use Rattle.cti_terms.specs.declared.predicates.Pred.{Pred}
use Rattle.cti_terms.specs.declared.predicates.PredId.{PredId}
use Rattle.number_tests.specs.Levels.{coefficients_of, items_of}
use Rattle.number_tests.specs.declared.level_part.LevelPart.{LevelPart}
use Rattle.precond_fixpoint.specs.Greatest.{IsGreatestIn}
use Rattle.precond_fixpoint.specs.Removing.{is_ranked}
use Rattle.precond_fixpoint.specs.declared.mode.Mode.{Mode}
use Rattle.termination_model.specs.grounds.Grounds.{Family, HasArity}
use Rattle.termination_model.specs.grounds.Modes.{modes}
use Rattle.termination_model.specs.mappings.View.{all_upper}
pub use Rattle.termination_model.specs.chains.Chain.{is_member}
use Rattle.truth_rows.specs.Sets.{AreSets, family_of, has_row}

-- the rows that the diagrams of the mapping of this number have, and none where there is no such mapping
abbrev pub pre_family : List Pred → List Rows → List (List Diagram) → ℕ → Family
pre_family preds trees sets m q row = has_row (slice_get preds q) trees (slice_get (items_of sets q) m) row

-- some mapping's diagram has the row, and each row that is upper to it
abbrev pub allowed_family : List Pred → List Rows → List (List Diagram) → Family
allowed_family preds trees sets q row = list_any (λ d. all_upper (has_row (slice_get preds q) trees (Some d)) row) (items_of sets q)

-- parts of mappings for each predicate, with a coefficient for each argument
pub record HaveParts (preds : List Pred) (levels : List (List LevelPart)) : Type 0 where
  pub each : length levels ≡ length preds
  pub wide : (q m : ℕ) (x : Pred) (part : LevelPart) → slice_get preds q ≡ Some x → slice_get (items_of levels q) m ≡ Some part → length part.coeffs ≡ x.arity

-- as many for each member of a component
pub record AreLevels (p : Listing) (comps : Partition) (levels : List (List LevelPart)) : Type 0 where
  pub parts : HaveParts p.preds levels
  pub together : (c a b : ℕ) → IsIn comps c a → IsIn comps c b → length (items_of levels a) ≡ length (items_of levels b)

-- diagrams of the table for each predicate, one for each of its mappings, over its arguments alone
pub record AreMappingSets (preds : List Pred) (trees : List Rows) (sets : List (List Diagram)) : Type 0 where
  pub each : length sets ≡ length preds
  pub known : (q m : ℕ) (d : Diagram) → slice_get (items_of sets q) m ≡ Some d → IsDiagram trees d
  pub reads : (q m n : ℕ) (d : Diagram) → slice_get (items_of sets q) m ≡ Some d → HasArity preds q n → ReadsBelow trees d n

-- these diagrams have the rows that are allowed
pub record AreUnions (preds : List Pred) (trees : List Rows) (mappings : List (List Diagram)) (allowed : List Diagram) : Type 0 where
  pub sets : AreSets preds trees allowed
  pub rows : family_of preds trees allowed ≡ allowed_family preds trees mappings

module _ (truth : (ℕ → Bool) → Tree → Bool) (p : Listing) where
  -- the rows of a component are the greatest that keep the rule, in each of its mappings
  pub record IsSolved (comps : Partition) (grounds : Family) (levels : List (List LevelPart)) (trees : List Rows) (sets : List (List Diagram)) (c : ℕ) : Type 0 where
    pub counts : (q : ℕ) → IsIn comps c q → length (items_of sets q) ≡ length (items_of levels q)
    pub greatest : (q m : ℕ) → IsIn comps c q → m < length (items_of levels q)
        → IsGreatestIn truth p (is_member comps c) (allowed_family p.preds trees sets) grounds (coefficients_of levels m) (pre_family p.preds trees sets m)

  -- the sets of all predicates for a mapping, of which those of one rank are the greatest
  pub record IsSolution (ranks : List ℕ) (rank : ℕ) (allowed grounds : Family) (levels : List (List LevelPart)) (trees : List Rows) (m : ℕ) (family : List Diagram) : Type 0 where
    pub sets : AreSets p.preds trees family
    pub greatest : IsGreatestIn truth p (is_ranked ranks rank) allowed grounds (coefficients_of levels m) (family_of p.preds trees family)

-- the diagrams of one predicate, in each of the families
pub record IsColumn (families : List (List Diagram)) (q : ℕ) (own : List Diagram) : Type 0 where
  pub each : length own ≡ length families
  pub at : (m : ℕ) (family : List Diagram) → slice_get families m ≡ Some family → slice_get own m ≡ slice_get family q

-- for each member its diagrams in each of the families
abbrev pub AreColumns : List (List Diagram) → List PredId → List (List Diagram) → Type 0
AreColumns families members columns = (j : ℕ) (a : PredId) (own : List Diagram) → slice_get members j ≡ Some a → slice_get columns j ≡ Some own → IsColumn families a.0 own

-- diagrams of the table, over the predicate's arguments alone
pub record FitPredicate (preds : List Pred) (trees : List Rows) (q : ℕ) (own : List Diagram) : Type 0 where
  pub known : (m : ℕ) (d : Diagram) → slice_get own m ≡ Some d → IsDiagram trees d
  pub reads : (m : ℕ) (d : Diagram) (x : Pred) → slice_get own m ≡ Some d → slice_get preds q ≡ Some x → ReadsBelow trees d x.arity

-- the columns of members come from solutions for the given number of mappings
pub record AreSolutions (truth : (ℕ → Bool) → Tree → Bool) (p : Listing) (ranks : List ℕ) (rank : ℕ) (allowed grounds : Family) (levels : List (List LevelPart)) (trees : List Rows) (count : ℕ) (members : List PredId) (columns : List (List Diagram)) : Type 0 where
  pub families : List (List Diagram)
  pub each : length families ≡ count
  pub solutions : (m : ℕ) (family : List Diagram) → slice_get families m ≡ Some family → IsSolution truth p ranks rank allowed grounds levels trees m family
  pub own : AreColumns families members columns

-- the arguments of a mode
abbrev pub arguments_of : Mode → List ℕ
arguments_of mode = mode.args

-- the modes of each predicate are the minimal rows that are allowed, all of them and in their order
pub record AreModes (preds : List Pred) (allowed : Family) (list : List (List Mode)) : Type 0 where
  pub each : length list ≡ length preds
  pub minimal : (q : ℕ) (x : Pred) → slice_get preds q ≡ Some x → map arguments_of (items_of list q) ≡ modes x.arity (allowed q)
