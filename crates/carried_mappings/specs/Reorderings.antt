-- Private.
-- A component whose members stand in another order, as the code has it.
use Rattle.std.specs.Prelude.{◌≡◌, ◌<◌, ◌+◌, ◌^◌, ℕ, List, length, map}
use Rattle.std.specs.List.{AllByRecursion}
use Rattle.call_components.specs.Numbers.{number_of}
use Rattle.level_systems.specs.Held.{spelled}
use Rattle.level_systems.specs.declared.found.Found.{Found}
use Rattle.level_systems.specs.declared.mapping.Mapping.{Mapping}
use Rattle.level_systems.specs.declared.measure.Measure.{Measure}
use Rattle.carried_mappings.specs.Carrying.{IsStanding, new_number}
use Rattle.carried_mappings.specs.Reordered.{reordered_found, reordered_mapping, support_there}
use Rattle.carried_mappings.specs.declared.reordering.Reordered.{Reordered}

-- a place for each member, and few positions
pub record IsReordered (r : Reordered) : Type 0 where
  pub standing : IsStanding r.standing.now
  pub each : length r.places.now ≡ length r.members.now
  pub few_before : length r.positions.now + 1 < 2 ^ 32
  pub few : length r.numbers.now + 1 < 2 ^ 32

-- each member has a part
abbrev pub HasPlaces : Reordered → List Measure → Type 0
HasPlaces r measures = AllByRecursion (λ j. j < length measures) r.places.now

abbrev pub mapping_now : Reordered → Mapping → Mapping
mapping_now r m = reordered_mapping (new_number r.standing.now) (map number_of r.members.now) r.places.now m

abbrev pub set_now : Reordered → Mapping → List ℕ
set_now r m = support_there (map spelled r.positions.now) r.numbers.now m

abbrev pub found_now : Reordered → Found → Found
found_now r f =
    reordered_found (new_number r.standing.now) (map number_of r.members.now) r.places.now (map spelled r.positions.now) r.numbers.now f
