-- Private.
-- Positions at which each decreasing mapping has a positive coefficient. Nothing here has to be believed.
use Rattle.std.specs.Prelude.{◌≡◌, ℕ, ℤ, List, [], ◌∷◌, map}
use Rattle.cti_terms.specs.Listing.{Listing}
use Rattle.cti_terms.specs.Tree.{Tree}
use Rattle.call_components.specs.Partition.{Partition}
use Rattle.linear_rows.specs.Members.{In}
use Rattle.level_systems.specs.Found.{without_number}
use Rattle.level_systems.specs.Held.{spelled}
use Rattle.level_systems.specs.Mappings.{support_of}
use Rattle.level_systems.specs.declared.component.Component.{Component}
use Rattle.level_systems.specs.declared.mapping.Mapping.{Mapping}
use Rattle.level_dual.specs.declared.walked.Walked.{Walked}
use Rattle.termination_model.specs.grounds.Minimal.{IsExcluded}
use Rattle.termination_model.specs.mappings.ComponentViews.{HasSupportIn}

-- a walk has found this mapping, with its support, and given up nothing
abbrev pub IsOnly : Component → Mapping → Walked → Type 0
IsOnly x m w = w ≡ record { found = support_of (map spelled x.positions.items) m ∷ []; mappings = m ∷ []; blown = [] }

module _ (expression : ℕ → Tree → List ℤ) (p : Listing) (comps : Partition) (rows : ℕ → List (List ℤ)) (c : ℕ) where
  -- of all positions no support is left without one of these
  abbrev pub AreNeeded : List ℕ → List ℕ → Type 0
  AreNeeded all needed = (i : ℕ) → In i needed → IsExcluded (HasSupportIn expression p comps rows c) (without_number i all)
