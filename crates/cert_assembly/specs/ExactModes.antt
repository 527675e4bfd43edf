-- To believe, for the modes.
-- What is exact of the modes of a certificate: its ground rows are the least ones, its preconditions the greatest ones,
-- each spelled in the one way, and its modes are all the minimal ones.
--
-- To believe: all of this file but `admitted_by` and `ExactModesHold`.
use Rattle.std.specs.Prelude.{◌≡◌, ◌<◌, ℕ, Bool, List, length, slice_get, Some}
use Rattle.std.specs.List.{AllByRecursion, list_any}
use Rattle.bool_diagrams.specs.Cubes.{cubes}
use Rattle.bool_diagrams.specs.declared.cube.Cell.{Cell}
use Rattle.call_components.specs.Partition.{Partition, AreComponents, IsIn}
use Rattle.cert_structure.specs.Numbered.{AreEach}
use Rattle.cert_structure.specs.Shape.{arity_in, HasWidth, IsMode, items_of}
use Rattle.cert_structure.specs.declared.parts.Parts.{Parts}
use Rattle.cti_terms.specs.Listing.{Listing, IsProgram}
use Rattle.cti_terms.specs.Tree.{Tree}
use Rattle.cti_terms.specs.declared.predicates.Pred.{Pred}
use Rattle.cert_modes.specs.Modes.{allowed, coefficients_of, grounds_of, ModesHold}
pub use Rattle.termination_model.specs.chains.Chain.{is_member}
use Rattle.termination_model.specs.grounds.Grounds.{Family, IsLeast}
use Rattle.termination_model.specs.grounds.Modes.{modes}
use Rattle.termination_model.specs.mappings.View.{all_upper}
use Rattle.precond_fixpoint.specs.Greatest.{IsGreatestIn, Solved}

module _ (truth : (ℕ → Bool) → Tree → Bool) (p : Listing) (comps : Partition) (parts : Parts) where
  -- the ground rows are those of the least family
  pub record GroundsAreLeast : Type 0 where
    pub family : Family
    pub least : IsLeast truth p family
    pub spelled : (q : ℕ) (d : Pred) → slice_get p.preds q ≡ Some d → items_of parts.grounds q ≡ cubes d.arity (family q)

  -- the preconditions of mapping m in the component c are those of the greatest family
  pub record PreIsGreatest (c m : ℕ) : Type 0 where
    pub family : Family
    pub greatest : IsGreatestIn truth p (is_member comps c) (allowed p parts) (grounds_of p parts) (coefficients_of parts.levels m) family
    pub spelled : (q : ℕ) (d : Pred) (list : List (List Cell)) → IsIn comps c q → slice_get p.preds q ≡ Some d
        → slice_get (items_of parts.preconditions q) m ≡ Some list → list ≡ cubes d.arity (family q)

  pub record ModesAreExact : Type 0 where
    pub grounds : GroundsAreLeast
    pub pres : (c q m : ℕ) → IsIn comps c q → m < length (items_of parts.preconditions q) → PreIsGreatest c m
    -- the modes are the minimal rows that are allowed, all of them and in their order
    pub minimal : (q : ℕ) (d : Pred) → slice_get p.preds q ≡ Some d → items_of parts.modes q ≡ modes d.arity (allowed p parts q)

-- what mappings with their greatest rows admit together
abbrev pub admitted_by : List Solved → ℕ → List Bool → Bool
admitted_by ns q row = list_any (λ (n : Solved). all_upper (n.1 q) row) ns

-- there is one list for each predicate
pub record AreCounted (p : Listing) (comps : Partition) (parts : Parts) : Type 0 where
  pub modes : length parts.modes ≡ length p.preds
  pub grounds : length parts.grounds ≡ length p.preds
  pub preconditions : length parts.preconditions ≡ length p.preds
  pub together : (c a b : ℕ) → IsIn comps c a → IsIn comps c b → length (items_of parts.preconditions a) ≡ length (items_of parts.preconditions b)
  pub mappings : (q : ℕ) → length (items_of parts.preconditions q) ≡ length (items_of parts.levels q)

-- exact modes hold, and their lists have their shape
pub record HoldWithShape (truth : (ℕ → Bool) → Tree → Bool) (p : Listing) (comps : Partition) (parts : Parts) : Type 0 where
  pub hold : ModesHold truth p comps parts
  pub modes : AreEach (length p.preds) (λ a. AllByRecursion (IsMode (arity_in p a))) parts.modes
  pub grounds : AreEach (length p.preds) (λ a. AllByRecursion (HasWidth (arity_in p a))) parts.grounds
  pub preconditions : AreEach (length p.preds)
      (λ a. AreEach (length (items_of parts.levels a)) (λ _. AllByRecursion (HasWidth (arity_in p a)))) parts.preconditions

abbrev pub ExactModesHold : Type 0
ExactModesHold = (truth : (ℕ → Bool) → Tree → Bool) (p : Listing) (comps : Partition) (parts : Parts)
    → IsProgram p → AreComponents p comps → AreCounted p comps parts → ModesAreExact truth p comps parts → HoldWithShape truth p comps parts
