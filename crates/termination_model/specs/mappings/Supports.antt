-- To believe, for the modes.
-- Supports of decreasing mappings of a component, and which of them are minimal.
--
-- Positions are numbered from 1 in a list; a set of positions is the ascending list of their numbers.
--
-- To believe: all of this file but `MappingsFromSystems`.
use Rattle.std.specs.Prelude.{◌≡◌, ℕ, suc, nat_lt, nat_eq, ℤ, true, if◌then◌else◌, List, [], ◌∷◌, length, ◌⊎◌}
use Rattle.std.specs.List.{AllByRecursion, list_any}
use Rattle.cti_terms.specs.Tree.{Tree}
use Rattle.linear_rows.specs.Members.{In}
use Rattle.linear_rows.specs.Rows.{AreEmpty}
use Rattle.termination_model.specs.mappings.Coefficients.{coefficient}
use Rattle.termination_model.specs.claims.Claims.{Mapping}
use Rattle.termination_model.specs.grounds.Modes.{is_part}
use Rattle.termination_model.specs.mappings.Refutation.{Pair, Decreases}
use Rattle.termination_model.specs.mappings.View.{Rule}
use Rattle.termination_model.specs.mappings.Excluding.{IsZeroOutside, IsOfMembers, IsRefutationAt}
use Rattle.termination_model.specs.mappings.OwnCalls.{OwnCall, Position, own_calls, rows_before}
use Rattle.termination_model.specs.mappings.SupportLaws.{AreFalls, HasWidths}
use Rattle.termination_model.specs.mappings.SupportSystem.{mapping_at}
use Rattle.termination_model.specs.grounds.Minimal.{IsExcluded, IsSet}

-- the numbers of the positions at which a mapping has a positive coefficient, the first of these having the number i
abbrev pub support_from : ℕ → List Position → Mapping → List ℕ
support_from i [] l = []
support_from i (p ∷ ps) l =
    if nat_lt 0 (coefficient (l.coefficients p.0) p.1) then i ∷ support_from (suc i) ps l else support_from (suc i) ps l

-- the positions of a set of numbers
abbrev pub picked_from : ℕ → List Position → List ℕ → List Position
picked_from i [] s = []
picked_from i (p ∷ ps) s = if list_any (λ x. nat_eq i x) s then p ∷ picked_from (suc i) ps s else picked_from (suc i) ps s

abbrev pub AreDistinct : List Position → Type 0
AreDistinct [] = Unit {0}
AreDistinct (p ∷ ps) = (In p ps → ⊥) × AreDistinct ps

module _ (expression : ℕ → Tree → List ℤ) (view : List Rule) (positions : List Position) where
  -- a decreasing mapping of the component has this very support
  pub record HasSupport (s : List ℕ) : Type 0 where
    pub mapping : Mapping
    pub at : IsZeroOutside positions mapping
    pub decreases : Decreases expression view mapping
    pub is : support_from 1 positions mapping ≡ s

  -- each call of the view is one of these, or is never reached: the rows before it hold nowhere
  abbrev pub AreLives : List OwnCall → Type 0
  AreLives lives = (o : OwnCall) → In o (own_calls view) → In o lives ⊎ AreEmpty (suc o.rule.vars) (rows_before expression o)

  -- what falls and refutations at positions show of supports
  pub record MappingsFromSystems (members : List ℕ) (arity : ℕ → ℕ) (lives : List OwnCall) : Type 0 where
    -- a mapping that falls at each call that is reached decreases
    pub falls : (l : Mapping) (ms : List ℕ) → AreFalls expression l lives ms → Decreases expression view l
    -- the values of positions are at these positions
    pub at : (ps : List Position) (cs os : List ℕ) → IsZeroOutside ps (mapping_at arity ps members cs os)
    -- a decreasing mapping at the positions of a set has a support that is part of the set
    pub found : (s : List ℕ) (l : Mapping) → IsZeroOutside (picked_from 1 positions s) l → Decreases expression view l
        → (is_part (support_from 1 positions l) s ≡ true) × HasSupport (support_from 1 positions l)
    -- a refutation at the positions of a set excludes each support that is part of it
    pub excluded : (s : List ℕ) (at : List Position) (ps : List Pair) → ((x : Position) → In x (picked_from 1 positions s) → In x at)
        → AllByRecursion (IsOfMembers members) ps → IsRefutationAt expression at members view ps → IsExcluded HasSupport s
    -- supports are sets of the positions' numbers
    pub sets : (s : List ℕ) → HasSupport s → IsSet 1 (suc (length positions)) s

abbrev pub SystemsGiveMappings : Type 0
SystemsGiveMappings =
    (expression : ℕ → Tree → List ℤ) (view : List Rule) (positions : List Position) (members : List ℕ) (arity : ℕ → ℕ) (lives : List OwnCall)
    → HasWidths expression → AreDistinct positions → AreLives expression view positions lives
    → MappingsFromSystems expression view positions members arity lives
