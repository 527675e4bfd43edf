-- Private.
-- The run of a component: its part of a legal chain.
--
-- To believe: `starting`, `IsRunOf`.
use Rattle.std.specs.Prelude.{◌≡◌, ℕ, ℤ, Bool, false, nat_lt, if◌then◌else◌, List, Option, None, Some}
use Rattle.call_components.specs.Partition.{Partition, IsIn}
use Rattle.cti_terms.specs.Tree.{Tree}
use Rattle.cti_terms.specs.Listing.{Listing}
use Rattle.termination_model.specs.chains.Chain.{after_passes, clauses_of, component_of, start_rows, ArePasses}
use Rattle.termination_model.specs.chains.ChainSteps.{Step}

-- whether a predicate is of an earlier component
abbrev pub is_before : ℕ → Option ℕ → Bool
is_before c None = false
is_before c (Some d) = nat_lt d c

-- the rows above which a component runs: earlier components have these rows, and the others are empty
abbrev pub starting : Listing → Partition → ℕ → (ℕ → List (List ℤ)) → ℕ → List (List ℤ)
starting p comps c below q = if is_before c (component_of comps q) then below q else start_rows p q

-- the passes of a component above the last rows of the predicates that it calls, and its members' rows after them
pub record IsRunOf (speaks : List ℤ → Bool) (expression : ℕ → Tree → List ℤ) (p : Listing) (comps : Partition) (c : ℕ) (below : ℕ → List (List ℤ)) (passes : List (List Step)) (last : ℕ → List (List ℤ)) : Type 0 where
  pub legal : ArePasses speaks expression 1 (starting p comps c below) (clauses_of p comps c) passes
  pub last_are : (q : ℕ) → IsIn comps c q → last q ≡ after_passes (starting p comps c below) (clauses_of p comps c) passes q
