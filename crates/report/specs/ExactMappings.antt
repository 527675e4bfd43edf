-- To believe, for the modes.
-- What is exact of the mappings of a component: each has a minimal support, and each decreasing mapping has one of them
-- within its own support, but for supports above one that was given up.
--
-- To believe: all of this file but `BestOverMappings` and `BestModes`. Sets of positions are ascending lists of their
-- numbers, from 1 on, where the positions go by predicate number and argument.
use Rattle.std.specs.Prelude.{◌≡◌, ◌<◌, ℕ, ℤ, Bool, true, IsTrue, if◌then◌else◌, List, [], length, map, slice_get, Some, ◌⊎◌}
use Rattle.std.specs.List.{AllByRecursion}
use Rattle.call_components.specs.Partition.{Partition, AreComponents, IsIn}
use Rattle.cert_structure.specs.Shape.{items_of}
use Rattle.cert_structure.specs.declared.parts.Parts.{Parts}
use Rattle.cert_checker.specs.Claimed.{mapping_of}
use Rattle.cti_terms.specs.Listing.{Listing, IsProgram}
use Rattle.cti_terms.specs.Tree.{Tree}
use Rattle.cti_terms.specs.declared.predicates.Pred.{Pred}
use Rattle.cert_modes.specs.Modes.{allowed, coefficients_of, grounds_of}
use Rattle.level_systems.specs.Subsequences.{IsSubsequence}
use Rattle.linear_rows.specs.Step.{columns}
use Rattle.termination_model.specs.claims.Claims.{Mapping}
use Rattle.termination_model.specs.mappings.ComponentViews.{HasSupportIn, component_view, positions_in}
use Rattle.termination_model.specs.mappings.Excluding.{IsZeroOutside}
use Rattle.termination_model.specs.grounds.Grounds.{HasArity}
use Rattle.termination_model.specs.grounds.Minimal.{IsAbove, IsMinimal}
use Rattle.termination_model.specs.grounds.Modes.{chosen_up_to, is_part, modes}
use Rattle.termination_model.specs.mappings.Refutation.{Decreases}
use Rattle.termination_model.specs.sizes.Rows.{IsUpper}
use Rattle.termination_model.specs.sizes.Sizes.{rows_of}
use Rattle.termination_model.specs.mappings.Supports.{support_from}
use Rattle.termination_model.specs.mappings.View.{Rule}
use Rattle.precond_fixpoint.specs.Greatest.{KeepsIn, IsGreatestIn, Solved, SomeSolved}
use Rattle.cert_assembly.specs.ExactModes.{admitted_by, is_member, ModesAreExact, AreCounted}

module _ (expression : ℕ → Tree → List ℤ) (p : Listing) (comps : Partition) (parts : Parts) where
  -- the component c, as its mappings see it
  abbrev pub view : ℕ → List Rule
  view c = component_view expression p comps (rows_of parts.rows) c

  -- a decreasing mapping of the component has exactly this support
  abbrev pub HasMapping : ℕ → List ℕ → Type 0
  HasMapping c = HasSupportIn expression p comps (rows_of parts.rows) c

  -- the printed mapping of number m of the component: that of its members, and nothing of other predicates
  abbrev pub mapping_in : ℕ → ℕ → Mapping
  mapping_in c m = record {
    coefficients = λ q. if is_member comps c q then coefficients_of parts.levels m q else [];
    offset = λ q. if is_member comps c q then (mapping_of parts m).offset q else 0;
  }

  abbrev pub printed_support : ℕ → ℕ → List ℕ
  printed_support c m = support_from 1 (positions_in p comps c) (mapping_in c m)

  -- a component of at most 12 positions, some supports of which were given up
  pub record MappingsAreExact (c q : ℕ) (blown : List (List ℕ)) : Type 0 where
    pub at : (m : ℕ) → m < length (items_of parts.levels q) → IsZeroOutside (positions_in p comps c) (mapping_in c m)
    pub decreases : (m : ℕ) → m < length (items_of parts.levels q) → Decreases expression (view c) (mapping_in c m)
    pub minimal : (m : ℕ) → m < length (items_of parts.levels q) → IsMinimal (HasMapping c) (printed_support c m)
    pub within : (s : List ℕ) → HasMapping c s → ((m : ℕ) × (m < length (items_of parts.levels q)) × (is_part (printed_support c m) s ≡ true)) ⊎ IsAbove blown s
    -- the supports stand in the order of all sets: the shorter ones first, and by their numbers
    pub order : IsSubsequence (map (printed_support c) (columns 0 (length (items_of parts.levels q)))) (chosen_up_to (length (positions_in p comps c)) (length (positions_in p comps c)))

  module _ (truth : (ℕ → Bool) → Tree → Bool) where
    -- where no support was given up, no mapping admits a row that is not allowed
    abbrev pub BestOverMappings : Type 0
    BestOverMappings =
        IsProgram p → AreComponents p comps → AreCounted p comps parts → ModesAreExact truth p comps parts
        → (c q : ℕ) → IsIn comps c q → MappingsAreExact c q []
        → (n : Solved) (s : List ℕ) (has : HasMapping c s) → ((r : ℕ) → is_member comps c r ≡ true → n.0 r ≡ has.mapping.coefficients r)
        → KeepsIn truth p (is_member comps c) (allowed p parts) (grounds_of p parts) n.0 n.1
        → (row : List Bool) → HasArity p.preds q (length row) → ((us : List Bool) → IsUpper us row → IsTrue (n.1 q us)) → IsTrue (allowed p parts q row)

    -- a decreasing mapping of the component, with its greatest rows
    pub record IsSolvedMapping (c : ℕ) (n : Solved) : Type 0 where
      pub support : List ℕ
      pub has : HasMapping c support
      pub same : (r : ℕ) → is_member comps c r ≡ true → n.0 r ≡ has.mapping.coefficients r
      pub greatest : IsGreatestIn truth p (is_member comps c) (allowed p parts) (grounds_of p parts) n.0 n.1

    -- each support of a decreasing mapping is that of one of these
    abbrev pub HaveEachSupport : ℕ → List Solved → Type 0
    HaveEachSupport c ns = (s : List ℕ) → HasMapping c s → SomeSolved (λ (n : Solved). (solved : IsSolvedMapping c n) × (solved.support ≡ s)) ns

    -- the printed modes are those that any list of decreasing mappings gives, in which each support occurs
    abbrev pub BestModes : Type 0
    BestModes =
        IsProgram p → AreComponents p comps → AreCounted p comps parts → ModesAreExact truth p comps parts
        → (c q : ℕ) (d : Pred) → IsIn comps c q → slice_get p.preds q ≡ Some d → MappingsAreExact c q []
        → (ns : List Solved) → AllByRecursion (IsSolvedMapping c) ns → HaveEachSupport c ns
        → items_of parts.modes q ≡ modes d.arity (admitted_by ns q)
