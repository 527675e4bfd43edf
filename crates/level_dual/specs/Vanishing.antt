-- Private.
-- Mappings that are 0 at marked positions. Nothing here has to be believed.
use Rattle.std.specs.Prelude.{◌≡◌, ◌<◌, ◌≤ℤ◌, ◌⊎◌, ℕ, suc, ℤ, pos, Bool, true, All, List, ◌∷◌, length, map, slice_get, slice_set, Option, None, Some}
use Rattle.cti_terms.specs.Listing.{Listing}
use Rattle.cti_terms.specs.Tree.{Tree}
use Rattle.call_components.specs.Partition.{Partition}
use Rattle.exact128.specs.Sums.{dot, entry}
use Rattle.linear_rows.specs.Members.{In}
use Rattle.linear_rows.specs.Plain.{plain_row, plain_rows}
use Rattle.linear_rows.specs.declared.row.Row.{Row}
use Rattle.linear_rows.specs.declared.row.Rows.{Rows}
use Rattle.termination_model.specs.mappings.Coefficients.{coefficient}
use Rattle.termination_model.specs.claims.Claims.{Mapping}
use Rattle.termination_model.specs.mappings.ComponentViews.{component_view, positions_in}
use Rattle.termination_model.specs.mappings.Excluding.{IsZeroOutside}
use Rattle.termination_model.specs.mappings.Refutation.{Decreases}
use Rattle.level_systems.specs.declared.own_call.OwnCall.{OwnCall}
use Rattle.level_systems.specs.declared.position.Position.{Position}

-- the position of an argument has this place
pub record IsPlace (positions : List Position) (q a k : ℕ) : Type 0 where
  pub position : Position
  pub there : slice_get positions k ≡ Some position
  pub pred : position.pred.0 ≡ q
  pub argument : position.argument ≡ a

-- the coefficient is 0 at each position that is marked
abbrev pub Vanishes : List Position → List Bool → Mapping → Type 0
Vanishes positions marks l = (k : ℕ) (x : Position) → slice_get positions k ≡ Some x → slice_get marks k ≡ Some true → coefficient (l.coefficients x.pred.0) x.argument ≡ 0

-- the place was marked, if there is one
abbrev pub IsMarkedAt : List Bool → ℕ → List Bool → Type 0
IsMarkedAt old k new = (new ≡ old) ⊎ (new ≡ slice_set old k true)

-- how fast sizes grow along a direction of the variables
abbrev pub growths : Rows → List ℤ → List ℤ
growths sizes d = map (λ e. dot e (pos 0 ∷ d)) (plain_rows sizes.list)

-- a direction in which the variables can grow for ever while the rows hold
pub record IsRay (rows : Rows) (d : List ℤ) : Type 0 where
  pub long : length d ≡ rows.width
  pub natural : All (λ x. pos 0 ≤ℤ x) d
  pub holds : All (λ (r : Row). pos 0 ≤ℤ dot (plain_row r) (pos 0 ∷ d)) rows.list

-- among the first n arguments of the predicate q, none with a positive coefficient grows along the direction
abbrev pub IsSilent : Mapping → ℕ → Rows → List ℤ → ℕ → Type 0
IsSilent l q sizes d n = (a : ℕ) → a < n → 0 < coefficient (l.coefficients q) a → entry (growths sizes d) a ≡ pos 0

-- where a call can be reached, the head's level grows along each ray at least as fast as the call's
abbrev pub KeepsRays : Mapping → OwnCall → Type 0
KeepsRays l own = own.empty ≡ None → (d : List ℤ) → IsRay own.rows d
    → dot (map pos (l.coefficients own.callee.0)) (growths own.callee_sizes d) ≤ℤ dot (map pos (l.coefficients own.caller.0)) (growths own.caller_sizes d)

-- a place that is marked has no number in the set
abbrev pub AreUnlisted : List Bool → List ℕ → Type 0
AreUnlisted marks s = (k : ℕ) → slice_get marks k ≡ Some true → In (suc k) s → ⊥

-- each of the first n places is marked or has a number in the set
abbrev pub AreMarkedOrIn : ℕ → List Bool → List ℕ → Type 0
AreMarkedOrIn n marks s = (k : ℕ) → k < n → (slice_get marks k ≡ Some true) ⊎ In (suc k) s

module _ (expression : ℕ → Tree → List ℤ) (p : Listing) (comps : Partition) (rows : ℕ → List (List ℤ)) (c : ℕ) where
  -- no decreasing mapping of the component is 0 at all positions that are marked
  abbrev pub IsVoid : List Position → List Bool → Type 0
  IsVoid positions marks = (l : Mapping) → IsZeroOutside (positions_in p comps c) l → Decreases expression (component_view expression p comps rows c) l → Vanishes positions marks l → ⊥

  -- so it is with the marks that are known, if there are any
  abbrev pub IsKnown : List Position → Option (List Bool) → Type 0
  IsKnown positions None = Unit {0}
  IsKnown positions (Some marks) = IsVoid positions marks
