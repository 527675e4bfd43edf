-- Private.
-- The sets that the parts of a certificate spell, as diagrams. Nothing here has to be believed.
use Rattle.std.specs.Prelude.{◌≡◌, ◌≤◌, ℕ, ℤ, nat_lt, Bool, false, IsTrue, List, length, slice_get, slice_index_or, Some}
use Rattle.std.specs.List.{list_any}
use Rattle.truth_rows.specs.Rules.{KeepsSets, same_rank}
use Rattle.truth_rows.specs.Sets.{AreSets, family_of, has_row}
use Rattle.bool_diagrams.specs.Cubes.{covered, truth_rows}
use Rattle.bool_diagrams.specs.Rows.{IsDiagram, ReadsBelow, holds}
use Rattle.bool_diagrams.specs.Tree.{Tree as Rows}
use Rattle.bool_diagrams.specs.declared.cube.Cell.{Cell}
use Rattle.bool_diagrams.specs.declared.diagram.Diagram.{Diagram}
use Rattle.cert_structure.specs.Shape.{arity_in, items_of}
use Rattle.number_tests.specs.declared.level_part.LevelPart.{LevelPart}
use Rattle.cert_structure.specs.declared.parts.Parts.{Parts}
use Rattle.cti_terms.specs.Listing.{Listing}
use Rattle.cti_terms.specs.Tree.{Tree}
use Rattle.cti_terms.specs.declared.clauses.Clause.{Clause}
use Rattle.cti_terms.specs.declared.predicates.Pred.{Pred}
use Rattle.termination_model.specs.grounds.Grounds.{Family}
use Rattle.termination_model.specs.sizes.Rows.{Covers}
use Rattle.termination_model.specs.mappings.View.{all_upper}
use Rattle.cert_modes.specs.Modes.{allowed, grounds_of, natural, naturals, precondition}
use Rattle.cert_modes.specs.declared.sets.Sets.{Sets}

-- a diagram of the table, over the given number of arguments, with the rows of that many values that a set has
pub record HasRows (trees : List Rows) (width : ℕ) (set : List Bool → Bool) (d : Diagram) : Type 0 where
  pub known : IsDiagram trees d
  pub reads : ReadsBelow trees d width
  pub rows : (row : List Bool) → length row ≡ width → truth_rows trees d row ≡ set row

-- such a diagram for each predicate
pub record HaveRows (p : Listing) (trees : List Rows) (family : Family) (sets : List Diagram) : Type 0 where
  pub each : length sets ≡ length p.preds
  pub rows : (q : ℕ) (d : Diagram) → slice_get sets q ≡ Some d → HasRows trees (arity_in p q) (family q) d

-- a diagram for each list of cubes, with the rows that they cover
pub record AreSpelled (trees : List Rows) (width : ℕ) (cubes : List (List (List Cell))) (sets : List Diagram) : Type 0 where
  pub each : length sets ≡ length cubes
  pub rows : (m : ℕ) (d : Diagram) → slice_get sets m ≡ Some d → HasRows trees width (covered (items_of cubes m)) d

-- such diagrams for each predicate
pub record AllSpelled (p : Listing) (trees : List Rows) (cubes : List (List (List (List Cell)))) (sets : List (List Diagram)) : Type 0 where
  pub each : length sets ≡ length p.preds
  pub rows : (q : ℕ) (ds : List Diagram) → slice_get sets q ≡ Some ds → AreSpelled trees (arity_in p q) (items_of cubes q) ds

-- diagrams of the table for each predicate, one for each mapping, over its arguments
pub record AreMappingSets (p : Listing) (trees : List Rows) (sets : List (List Diagram)) : Type 0 where
  pub each : length sets ≡ length p.preds
  pub known : (q m : ℕ) (d : Diagram) → slice_get (items_of sets q) m ≡ Some d → IsDiagram trees d
  pub reads : (q m : ℕ) (d : Diagram) → slice_get (items_of sets q) m ≡ Some d → ReadsBelow trees d (arity_in p q)

-- some diagram has the row, and each row that is upper to it
abbrev pub upward : List Rows → List Diagram → List Bool → Bool
upward trees sets row = list_any (λ s. all_upper (truth_rows trees s) row) sets

-- the family of the mapping of this number
abbrev pub mapping_family : List Pred → List Rows → List (List Diagram) → ℕ → Family
mapping_family preds trees sets m q row = has_row (slice_get preds q) trees (slice_get (items_of sets q) m) row

-- the sets are diagrams of the table, for each predicate and each mapping
pub record AreReady (p : Listing) (trees : List Rows) (sets : Sets) : Type 0 where
  pub grounds : AreSets p.preds trees sets.grounds.items
  pub allowed : AreSets p.preds trees sets.allowed.items
  pub preconditions : AreMappingSets p trees sets.preconditions
  pub none : IsDiagram trees sets.none
  pub no_rows : (row : ℕ → Bool) → holds trees sets.none row ≡ false

-- and have the rows that the parts of a certificate spell
pub record SpellParts (p : Listing) (parts : Parts) (trees : List Rows) (sets : Sets) : Type 0 where
  pub grounds : family_of p.preds trees sets.grounds.items ≡ grounds_of p parts
  pub allowed : family_of p.preds trees sets.allowed.items ≡ allowed p parts
  pub preconditions : (m : ℕ) → mapping_family p.preds trees sets.preconditions m ≡ precondition p parts m
  pub each : (q : ℕ) → length (items_of sets.preconditions q) ≡ length (items_of parts.preconditions q)

-- the set of a predicate in the mapping of this number, or else this one
abbrev pub set_at : List (List Diagram) → Diagram → ℕ → ℕ → Diagram
set_at sets none m q = slice_index_or (items_of sets q) m none

-- whether a coefficient is positive
abbrev pub is_positive : ℤ → Bool
is_positive a = nat_lt 0 (natural a)

-- each row of a mapping's set is true at its positive coefficients
abbrev pub AreCovered : List Rows → List LevelPart → List Diagram → Type 0
AreCovered trees levels sets =
    (m : ℕ) (level : LevelPart) (d : Diagram) → slice_get levels m ≡ Some level → slice_get sets m ≡ Some d
    → (row : List Bool) → length row ≡ length level.coeffs → IsTrue (truth_rows trees d row) → Covers (naturals (Some level)) row

-- parts of mappings for each diagram, with a coefficient for each of few arguments
pub record HaveLevels (trees : List Rows) (width : ℕ) (levels : List LevelPart) (sets : List Diagram) : Type 0 where
  pub few : width ≤ 12
  pub each : length sets ≡ length levels
  pub wide : (m : ℕ) (level : LevelPart) → slice_get levels m ≡ Some level → length level.coeffs ≡ width
  pub known : (m : ℕ) (d : Diagram) → slice_get sets m ≡ Some d → IsDiagram trees d
  pub reads : (m : ℕ) (d : Diagram) → slice_get sets m ≡ Some d → ReadsBelow trees d width

module _ (truth : (ℕ → Bool) → Tree → Bool) where
  -- a clause keeps the rule of preconditions in each mapping
  abbrev pub KeepsEach : Listing → List Rows → List ℕ → Sets → Clause → Type 0
  KeepsEach p trees ranks sets k =
      (m : ℕ) → KeepsSets truth (mapping_family p.preds trees sets.preconditions m) (family_of p.preds trees sets.allowed.items) (family_of p.preds trees sets.grounds.items)
      (λ q. same_rank ranks q k.head.pred.0) k
