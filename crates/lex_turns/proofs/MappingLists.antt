-- What is found of mappings in a large component, as lists of one.
use Rattle.std.proofs.Common.{◌≡◌, ◌↔◌, ℕ, ℤ, Bool, true, false, IsTrue, List, [], ◌∷◌, slice_get, Some, refl, subst, arith}
use Rattle.std.specs.List.{AllByRecursion}
use Rattle.cti_terms.specs.Listing.{Listing}
use Rattle.cti_terms.specs.Tree.{Tree}
use Rattle.call_components.specs.Partition.{Partition}
use Rattle.termination_model.specs.mappings.ComponentViews.{component_view, positions_in}
use Rattle.termination_model.specs.mappings.Excluding.{IsZeroOutside}
use Rattle.termination_model.specs.mappings.Refutation.{Decreases}
use Rattle.level_systems.specs.Found.{IsFound}
use Rattle.level_systems.specs.Mappings.{IsMappingOf, mapping_with}
use Rattle.level_systems.specs.Searched.{IsDecreasing}
use Rattle.level_systems.specs.declared.found.Found.{Found}
use Rattle.level_systems.specs.declared.mapping.Mapping.{Mapping}
use Rattle.lex_turns.specs.Large.{IsHadList}
use Rattle.lex_turns.specs.Single.{one_list}
use Rattle.lex_turns.proofs.ListSupports.{one_descends}
use Rattle.lex_turns.proofs.SingleLists.{one_list_is, one_short}

module _ (expression : ℕ → Tree → List ℤ) (p : Listing) (comps : Partition) (rows : ℕ → List (List ℤ)) (c : ℕ) where
  -- a mapping that decreases is a list of one
  pub mapping_had : (m : Mapping) → IsDecreasing expression p comps rows c m → IsHadList expression p comps rows c (one_list m)
  mapping_had m is = record {
    list = one_list_is expression p comps rows c m is;
    has = record { list = mapping_with m.measures ∷ []; some = omega arith; at = (is.at, tt); descends = one_descends expression p comps rows c (mapping_with m.measures) is.falling; is = refl };
    single = λ long. absurd (one_short m long);
  }

  -- as is the first one that is found
  pub first_had : (f : Found) → IsFound expression p comps rows c f → (m : Mapping) → slice_get f.mappings 0 ≡ Some m → IsHadList expression p comps rows c (one_list m)
  first_had f is m at = go f.mappings is.mappings is.at is.falling at
    where
      go : (ms : List Mapping) → AllByRecursion (IsMappingOf expression p rows comps c) ms → AllByRecursion (λ (m : Mapping). IsZeroOutside (positions_in p comps c) (mapping_with m.measures)) ms
          → AllByRecursion (λ (m : Mapping). Decreases expression (component_view expression p comps rows c) (mapping_with m.measures)) ms → slice_get ms 0 ≡ Some m → IsHadList expression p comps rows c (one_list m)
      go [] own outside falls e = absurd (cc)
      go (x ∷ ms) own outside falls e = let same : x ≡ m = cc in subst (λ (y : Mapping). IsHadList expression p comps rows c (one_list y)) same (mapping_had x (record { mapping = own.0; at = outside.0; falling = falls.0 }))

-- what holds is told by true
pub true_is : {P : Type 0} → P → IsTrue true ↔ P
true_is p = ((λ t. p), λ q. refl)

pub is_true : (b : Bool) → b ≡ true → IsTrue b
is_true b e = e
