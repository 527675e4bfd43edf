-- To believe, for the modes by lists of mappings.
-- Mappings as they are given: a part for each member, and multipliers for each call.
--
-- To believe: all of this file.
use Rattle.std.specs.Prelude.{◌≡◌, ◌==◌, ◌-◌, ℕ, ℤ, if◌then◌else◌, List, [], ◌∷◌, map, take, slice_get, Option, None, Some}
use Rattle.std.specs.List.{AllByRecursion}
use Rattle.cti_terms.specs.Listing.{Listing}
use Rattle.cti_terms.specs.Tree.{Tree}
use Rattle.cti_terms.specs.declared.atom_list.Atom.{Atom}
use Rattle.cti_terms.specs.declared.clauses.Clause.{Clause}
use Rattle.call_components.specs.Partition.{Partition}
use Rattle.linear_rows.specs.Showing.{AreMultipliers, IsShown}
use Rattle.number_tests.specs.Proved.{fall_of}
use Rattle.number_tests.specs.Shape.{IsLevelPart, row_count}
pub use Rattle.number_tests.specs.Levels.{natural_coefficients, natural_offset}
use Rattle.number_tests.specs.declared.level_part.LevelPart.{LevelPart}
use Rattle.termination_model.specs.claims.Claims.{Mapping as PlainMapping}
use Rattle.termination_model.specs.mappings.ComponentViews.{members_in}
use Rattle.termination_model.specs.mappings.OwnCalls.{Position}
use Rattle.termination_model.specs.mappings.Ready.{arity_in}
use Rattle.termination_model.specs.mappings.Supports.{support_from}
use Rattle.termination_model.specs.sizes.ShortSystems.{short_system}
use Rattle.level_systems.specs.Pairs.{pairs_of}
use Rattle.level_systems.specs.declared.fall.Fall.{Fall}
use Rattle.level_systems.specs.declared.mapping.Mapping.{Mapping}
use Rattle.level_systems.specs.declared.measure.Measure.{Measure}

-- the part of a predicate, if it has one
abbrev pub level_in : List Measure → ℕ → Option LevelPart
level_in [] q = None
level_in (m ∷ ms) q = if m.pred.0 == q then Some m.part else level_in ms q

-- the mapping with these parts
abbrev pub mapping_with : List Measure → PlainMapping
mapping_with ms = record {
  coefficients = λ q. natural_coefficients (level_in ms q);
  offset = λ q. natural_offset (level_in ms q);
}

-- the numbers of the positions at which a mapping has a positive coefficient
abbrev pub support_of : List Position → Mapping → List ℕ
support_of positions m = support_from 1 positions (mapping_with m.measures)

-- a part for each member, in order, with natural numbers
pub record HasMeasures (p : Listing) (members : List ℕ) (ms : List Measure) : Type 0 where
  pub each : map (λ (m : Measure). m.pred.0) ms ≡ members
  pub parts : AllByRecursion (λ (m : Measure). IsLevelPart (arity_in p m.pred.0) m.part) ms

module _ (expression : ℕ → Tree → List ℤ) (p : Listing) (rows : ℕ → List (List ℤ)) where
  -- multipliers show that the mapping falls at the call, over the size rows of the atoms before it
  abbrev pub IsFall : List Measure → Fall → Type 0
  IsFall ms f =
      (k : Clause) (b : Atom) (head call : LevelPart) → slice_get p.clauses (f.clause - 1) ≡ Some k → slice_get k.body (f.call - 1) ≡ Some b
      → level_in ms k.head.pred.0 ≡ Some head → level_in ms b.pred.0 ≡ Some call
      → AreMultipliers (row_count rows (take (f.call - 1) k.body)) f.by × IsShown (short_system expression rows k.vars (take (f.call - 1) k.body)) (fall_of expression k b head call) f.by

  -- a mapping of the component, with a fall for each of its pairs, in order
  pub record IsMappingOf (comps : Partition) (c : ℕ) (m : Mapping) : Type 0 where
    pub measures : HasMeasures p (members_in comps c) m.measures
    pub pairs : map (λ (f : Fall). (f.clause, f.call)) m.falls ≡ pairs_of p comps c
    pub falls : AllByRecursion (IsFall m.measures) m.falls
