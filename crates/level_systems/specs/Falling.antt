-- Private.
-- Falls as the code finds them. Nothing here has to be believed.
use Rattle.std.specs.Prelude.{◌≡◌, ◌+◌, ℕ, suc, ℤ, pos, List, [], ◌∷◌, take, drop, length, All, IfSome, Option, None, Some}
use Rattle.linear_rows.specs.Plain.{HaveWidth, plain_rows}
use Rattle.linear_rows.specs.Replacing.{over_columns}
use Rattle.linear_rows.specs.Showing.{AreMultipliers, IsShown}
use Rattle.linear_rows.specs.declared.multipliers.Multipliers.{Multipliers}
use Rattle.number_tests.specs.Shape.{IsLevelPart}
use Rattle.number_tests.specs.declared.level_part.LevelPart.{LevelPart}
use Rattle.number_tests.specs.Targets.{fall_weights}
use Rattle.level_systems.specs.Mappings.{level_in}
use Rattle.level_systems.specs.declared.fall.Fall.{Fall}
use Rattle.level_systems.specs.declared.measure.Measure.{Measure}
use Rattle.level_systems.specs.declared.own_call.OwnCall.{OwnCall}

-- a part for the head and the call, each with a natural number for each argument
pub record HasParts (ms : List Measure) (own : OwnCall) : Type 0 where
  pub head : LevelPart
  pub call : LevelPart
  pub head_is : level_in ms own.caller.0 ≡ Some head
  pub call_is : level_in ms own.callee.0 ≡ Some call
  pub head_part : IsLevelPart (length own.caller_sizes.list) head
  pub call_part : IsLevelPart (length own.callee_sizes.list) call

-- the multipliers of a call: those that show that it cannot be reached, or the values after those of calls before it
abbrev pub multipliers_of : Option Multipliers → ℕ → List ℤ → List ℤ
multipliers_of (Some by) n values = by.list
multipliers_of None n values = take n values

-- the values that are left for later calls
abbrev pub values_after : Option Multipliers → ℕ → List ℤ → List ℤ
values_after (Some by) n values = values
values_after None n values = drop n values

abbrev pub scale_of : Option Multipliers → ℤ
scale_of (Some by) = pos 0
scale_of None = pos 1

-- what a test of a call needs
pub record IsReady (own : OwnCall) : Type 0 where
  pub widths : HaveWidth own.rows.width own.rows.list
  pub columns : length own.columns.items ≡ own.rows.width + 1
  pub long : All (λ col. length col ≡ suc (length own.caller_sizes.list) + suc (length own.callee_sizes.list)) own.columns.items
  pub empty : IfSome own.empty (AreMultipliers (length own.rows.list))

-- these multipliers show the fall of the parts of a call's head and call
abbrev pub ShowsFall : List Measure → OwnCall → Multipliers → Type 0
ShowsFall ms own by = (head call : LevelPart) → level_in ms own.caller.0 ≡ Some head → level_in ms own.callee.0 ≡ Some call
    → IsShown (plain_rows own.rows.list) (over_columns own.columns.items (fall_weights head call)) by

-- the fall is there exactly where the multipliers show it
abbrev pub IsFallIf : List Measure → OwnCall → Multipliers → Option Fall → Type 0
IsFallIf ms own by None = ShowsFall ms own by → ⊥
IsFallIf ms own by (Some f) = ((f.clause ≡ own.clause) × (f.call ≡ own.call) × (f.by ≡ by)) × ShowsFall ms own by

-- the multipliers of each call
abbrev pub by_of : OwnCall → List ℤ → Multipliers
by_of own values = record { scale = scale_of own.empty; list = multipliers_of own.empty (length own.rows.list) values }

abbrev pub ShowFalls : List Measure → List OwnCall → List ℤ → Type 0
ShowFalls ms [] values = Unit {0}
ShowFalls ms (own ∷ owns) values = ShowsFall ms own (by_of own values) × ShowFalls ms owns (values_after own.empty (length own.rows.list) values)

-- the falls are there, one for each call, exactly where all are shown
abbrev pub AreFallsOf : List OwnCall → List ℤ → List Fall → Type 0
AreFallsOf [] values [] = Unit {0}
AreFallsOf [] values (f ∷ fs) = ⊥
AreFallsOf (own ∷ owns) values [] = ⊥
AreFallsOf (own ∷ owns) values (f ∷ fs) =
    ((f.clause ≡ own.clause) × (f.call ≡ own.call) × (f.by ≡ by_of own values) × AreMultipliers (length own.rows.list) f.by) × AreFallsOf owns (values_after own.empty (length own.rows.list) values) fs

abbrev pub AreFallsIf : List Measure → List OwnCall → List ℤ → Option (List Fall) → Type 0
AreFallsIf ms owns values None = ShowFalls ms owns values → ⊥
AreFallsIf ms owns values (Some fs) = ShowFalls ms owns values × AreFallsOf owns values fs
