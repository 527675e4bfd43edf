-- Private.
-- The clauses of components, by their numbers.
--
-- To believe: `HasItsClauses`.
use Rattle.std.specs.Prelude.{◌≡◌, ℕ, ◌-◌, ◌<◌, ◌≤◌, List, [], ◌∷◌, length, slice_get, Option, None, Some}
use Rattle.std.specs.List.{AllByRecursion, flat_map}
use Rattle.call_components.specs.Partition.{AreComponents, Partition}
use Rattle.cti_terms.specs.Listing.{Listing}
use Rattle.cti_terms.specs.declared.clauses.Clause.{Clause}
use Rattle.termination_model.specs.chains.Chain.{clauses_of}
use Rattle.component_clauses.specs.declared.component.ComponentClauses.{ComponentClauses}

-- the clause of a number, with it
abbrev pub paired : ℕ → Option Clause → List (ℕ × Clause)
paired k None = []
paired k (Some c) = (k, c) ∷ []

abbrev pub with_clause : List Clause → ℕ → List (ℕ × Clause)
with_clause clauses k = paired k (slice_get clauses (k - 1))

-- clauses by their numbers
abbrev pub with_clauses : List Clause → List ℕ → List (ℕ × Clause)
with_clauses clauses own = flat_map (with_clause clauses) own

-- for each component the numbers of its clauses, in order
pub record AreOwnClauses (p : Listing) (comps : Partition) (lists : List (List ℕ)) : Type 0 where
  pub each : length lists ≡ length comps.members
  pub within : (c : ℕ) (own : List ℕ) → slice_get lists c ≡ Some own → AllByRecursion (λ k. (1 ≤ k) × (k ≤ length p.clauses)) own
  pub clauses : (c : ℕ) (own : List ℕ) → slice_get lists c ≡ Some own → with_clauses p.clauses own ≡ clauses_of p comps c

-- these are the clauses of a component
pub record HasItsClauses (own : ComponentClauses) : Type 0 where
  pub components : AreComponents own.program.now own.comps.now
  pub inner : own.number < length own.comps.now.members
  pub within : AllByRecursion (λ k. (1 ≤ k) × (k ≤ length own.program.now.clauses)) own.clauses.now
  pub clauses_are : with_clauses own.program.now.clauses own.clauses.now ≡ clauses_of own.program.now own.comps.now own.number
