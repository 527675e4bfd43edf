-- Private.
-- The drops of a turn, as the code tests them. Nothing here has to be believed.
use Rattle.std.specs.Prelude.{◌≡◌, ℕ, ℤ, pos, Bool, true, false, IfSome, List, [], ◌∷◌, take, drop, length, Option, None, Some}
use Rattle.std.specs.List.{AllByRecursion}
use Rattle.linear_rows.specs.Members.{In}
use Rattle.linear_rows.specs.Plain.{plain_rows}
use Rattle.linear_rows.specs.Replacing.{over_columns}
use Rattle.linear_rows.specs.Showing.{IsShown}
use Rattle.linear_rows.specs.declared.multipliers.Multipliers.{Multipliers}
use Rattle.number_tests.specs.declared.level_part.LevelPart.{LevelPart}
use Rattle.termination_model.specs.claims.Claims.{SomeOf}
use Rattle.level_systems.specs.Mappings.{level_in}
use Rattle.level_systems.specs.declared.measure.Measure.{Measure}
use Rattle.level_systems.specs.declared.own_call.OwnCall.{OwnCall}
use Rattle.number_tests.specs.Drops.{drop_weights, fall_number}

-- the answer says whether this holds
abbrev pub Tells : Type 0 → Bool → Type 0
Tells P true = P
Tells P false = P → ⊥

-- these multipliers show that the parts of a call's head and call drop by this number
abbrev pub ShowsDrop : ℕ → List Measure → OwnCall → Multipliers → Type 0
ShowsDrop d ms own by = (head call : LevelPart) → level_in ms own.caller.0 ≡ Some head → level_in ms own.callee.0 ≡ Some call
    → IsShown (plain_rows own.rows.list) (over_columns own.columns.items (drop_weights d head call)) by

-- the first of some values, as the multipliers of a call
abbrev pub first_by : OwnCall → List ℤ → Multipliers
first_by own values = record { scale = pos 1; list = take (length own.rows.list) values }

-- whether a call falls: by 1 if that is shown, or else not at all if that is
abbrev pub IsDropIf : List Measure → OwnCall → Multipliers → Option Bool → Type 0
IsDropIf ms own by None = (ShowsDrop 1 ms own by → ⊥) × (ShowsDrop 0 ms own by → ⊥)
IsDropIf ms own by (Some true) = ShowsDrop 1 ms own by
IsDropIf ms own by (Some false) = ShowsDrop 0 ms own by × (ShowsDrop 1 ms own by → ⊥)

-- the values show drops of 1 at the calls that are said to fall, and of 0 at the others
abbrev pub ShowDrops : List Measure → List OwnCall → List ℤ → List Bool → Type 0
ShowDrops ms [] values [] = Unit {0}
ShowDrops ms [] values (f ∷ fs) = ⊥
ShowDrops ms (own ∷ owns) values [] = ⊥
ShowDrops ms (own ∷ owns) values (f ∷ fs) = ShowsDrop (fall_number f) ms own (first_by own values) × ShowDrops ms owns (drop (length own.rows.list) values) fs

abbrev pub SomeFalls : List Bool → Type 0
SomeFalls fs = SomeOf (λ f. f ≡ true) fs

-- the drops are there, unless some call has none, and as many calls fall as can
abbrev pub AreDropsIf : List Measure → List OwnCall → List ℤ → Option (List Bool) → Type 0
AreDropsIf ms owns values None = (fs : List Bool) → ShowDrops ms owns values fs → ⊥
AreDropsIf ms owns values (Some fs) = ShowDrops ms owns values fs × ((gs : List Bool) → ShowDrops ms owns values gs → SomeFalls gs → SomeFalls fs)

-- what shows that a call is never reached shows that it falls
abbrev pub EmptyFalls : List Measure → OwnCall → Type 0
EmptyFalls ms own = IfSome own.empty (λ by. ShowsDrop 1 ms own by)

abbrev pub EmptyFall : List Measure → List OwnCall → Type 0
EmptyFall ms owns = AllByRecursion (EmptyFalls ms) owns

-- the calls are among these
abbrev pub AreAmong : List OwnCall → List OwnCall → Type 0
AreAmong calls owns = AllByRecursion (λ own. In own calls) owns
