-- Private.
-- What is said of a component, whatever norm and size rows it is taken with. Nothing here has to be believed.
use Rattle.std.specs.Prelude.{ℕ, ℤ, Bool, List}
use Rattle.call_components.specs.Partition.{Partition}
use Rattle.cti_terms.specs.Listing.{Listing}
use Rattle.cti_terms.specs.Tree.{Tree}
use Rattle.level_systems.specs.Searched.{IsComponent}
use Rattle.level_systems.specs.declared.component.Component.{Component}

-- a statement on sizes, a partition, size rows and the number of a component holds wherever the component is that one
abbrev pub ForComponent : Listing → Component → ((ℕ → Tree → List ℤ) → Partition → (ℕ → List (List ℤ)) → ℕ → Type 0) → Type 0
ForComponent p component Says =
    (size : (ℕ → ℕ) → Tree → ℕ) (truth : (ℕ → Bool) → Tree → Bool) (expression : ℕ → Tree → List ℤ) (comps : Partition) (rows : ℕ → List (List ℤ)) (c : ℕ)
    → IsComponent size truth expression p comps rows c component → Says expression comps rows c
