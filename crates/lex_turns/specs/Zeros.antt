-- Private.
-- The mapping that is 0, as the code makes it. Nothing here has to be believed.
use Rattle.std.specs.Prelude.{◌≡◌, ℕ, List, [], map}
use Rattle.std.specs.List.{AllByRecursion}
use Rattle.cti_terms.specs.Listing.{Listing}
use Rattle.termination_model.specs.mappings.Ready.{arity_in}
use Rattle.termination_model.specs.mappings.SupportSystem.{mapping_at}
use Rattle.level_systems.specs.Valued.{IsPartOf}
use Rattle.level_systems.specs.declared.measure.Measure.{Measure}

-- a part for each of these predicates, that of the mapping that is 0
pub record AreZeros (p : Listing) (preds : List ℕ) (ms : List Measure) : Type 0 where
  pub each : map (λ (m : Measure). m.pred.0) ms ≡ preds
  pub parts : AllByRecursion (λ (m : Measure). IsPartOf (mapping_at (arity_in p) [] [] [] []) m.pred.0 m.part) ms
