-- Private.
-- What is carried of a component's mappings over an edit.
--
-- To believe: `IsStanding`, `CarriesOver`, and what is found, which level_systems defines.
use Rattle.std.specs.Prelude.{◌≡◌, ℕ, ◌<◌, ◌≤◌, ℤ, List, length, map}
use Rattle.std.specs.List.{AllByRecursion}
use Rattle.call_components.specs.Partition.{Partition}
use Rattle.cti_terms.specs.Listing.{Listing}
use Rattle.cti_terms.specs.Tree.{Tree}
use Rattle.component_clauses.specs.Numbered.{with_clauses}
use Rattle.termination_model.specs.chains.Chain.{clauses_of}
use Rattle.termination_model.specs.mappings.ComponentViews.{members_in}
use Rattle.level_systems.specs.Found.{IsFound}
use Rattle.level_systems.specs.declared.found.Found.{Found}
use Rattle.level_systems.specs.declared.mapping.Mapping.{Mapping}
use Rattle.level_systems.specs.declared.measure.Measure.{Measure}
use Rattle.solved_program.specs.Kept.{IsEdit}
use Rattle.solved_program.specs.Standing.{KeepOwn, StandsFor}
use Rattle.carried_mappings.specs.Moved.{moved}
use Rattle.carried_mappings.specs.Order.{HaveSameMembers}
use Rattle.carried_mappings.specs.declared.standing.Standing.{Standing}

-- the numbers of a component's clauses, in order
pub record AreClauseNumbers (p : Listing) (comps : Partition) (c : ℕ) (own : List ℕ) : Type 0 where
  pub within : AllByRecursion (λ k. (1 ≤ k) × (k ≤ length p.clauses)) own
  pub clauses : with_clauses p.clauses own ≡ clauses_of p comps c

-- an edit, a component of each of its programs, and the clauses of both, which are as many
pub record IsStanding (s : Standing) : Type 0 where
  pub edit : IsEdit s.edit.now
  pub before : s.before < length s.edit.now.components_before.now.members
  pub after : s.after < length s.edit.now.components.now.members
  pub own_before : AreClauseNumbers s.edit.now.before.now s.edit.now.components_before.now s.before s.own_before.now
  pub own : AreClauseNumbers s.edit.now.after.now s.edit.now.components.now s.after s.own.now
  pub each : length s.own_before.now ≡ length s.own.now

-- the number that a clause has now
abbrev pub new_number : Standing → ℕ → ℕ
new_number s = moved s.own_before.now s.own.now

-- a mapping has a part for each member of the old component
abbrev pub HasParts : Standing → Mapping → Type 0
HasParts s mapping = map (λ (m : Measure). m.pred.0) mapping.measures ≡ members_in s.edit.now.components_before.now s.before

-- so both components have members of the same names and arities, and each mapping that is found has a part for each of
-- them
pub record CanBeCarried (s : Standing) (found : Found) : Type 0 where
  pub standing : IsStanding s
  pub members : HaveSameMembers s.edit.now s.before s.after
  pub parts : AllByRecursion (HasParts s) found.mappings

-- What was found of the old component is found of the new one as this, by each norm, where it stands for that one with
-- these size rows, and has kept its own.
abbrev pub CarriesOver : Standing → Found → Found → Type 0
CarriesOver s old now =
    (expression : ℕ → Tree → List ℤ) (rows_before rows : ℕ → List (List ℤ))
    → StandsFor s.edit.now.components_before.now s.edit.now.components.now s.before s.after rows_before rows
    s.edit.now.before.now s.edit.now.after.now s.edit.now.kept.now
    → KeepOwn s.edit.now s.after rows_before rows
    → IsFound expression s.edit.now.before.now s.edit.now.components_before.now rows_before s.before old
    → IsFound expression s.edit.now.after.now s.edit.now.components.now rows s.after now
