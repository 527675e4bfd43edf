-- Private.
-- Numbers below 2^127, as the type of 128 bits has them.
--
-- Nothing here has to be believed.
use Rattle.std.specs.Prelude.{◌≤ℤ◌, ℤ, pos, List, IfSome}
use Rattle.std.specs.List.{AllByRecursion}
use Rattle.certificate.specs.Range.{most_127}
use Rattle.level_systems.specs.declared.fall.Fall.{Fall}
use Rattle.level_systems.specs.declared.found.Found.{Found}
use Rattle.level_systems.specs.declared.mapping.Mapping.{Mapping}
use Rattle.level_systems.specs.declared.measure.Measure.{Measure}
use Rattle.linear_rows.specs.declared.multipliers.Multipliers.{Multipliers}
use Rattle.linear_rows.specs.declared.point.Point.{Point}
use Rattle.number_tests.specs.declared.level_part.LevelPart.{LevelPart}
use Rattle.number_tests.specs.declared.pair_point.PairPoint.{PairPoint}
use Rattle.number_tests.specs.declared.refutation.Refutation.{Refutation}

abbrev pub IsBelow : ℤ → Type 0
IsBelow z = z ≤ℤ pos most_127

abbrev pub AreBelow : List ℤ → Type 0
AreBelow zs = AllByRecursion IsBelow zs

abbrev pub AreMultipliersBelow : Multipliers → Type 0
AreMultipliersBelow m = IsBelow m.scale × AreBelow m.list

abbrev pub IsPartBelow : LevelPart → Type 0
IsPartBelow l = IsBelow l.offset × AreBelow l.coeffs

abbrev pub IsPointBelow : Point → Type 0
IsPointBelow x = IsBelow x.t × AreBelow x.w

abbrev pub IsPairBelow : PairPoint → Type 0
IsPairBelow x = IsPointBelow x.point × IfSome x.at IsPointBelow

abbrev pub IsRefutationBelow : Refutation → Type 0
IsRefutationBelow r = AllByRecursion IsPairBelow r.points

abbrev pub IsMeasureBelow : Measure → Type 0
IsMeasureBelow m = IsPartBelow m.part

abbrev pub IsFallBelow : Fall → Type 0
IsFallBelow f = AreMultipliersBelow f.by

abbrev pub IsMappingBelow : Mapping → Type 0
IsMappingBelow m = AllByRecursion IsMeasureBelow m.measures × AllByRecursion IsFallBelow m.falls

abbrev pub IsFoundBelow : Found → Type 0
IsFoundBelow f = AllByRecursion IsMappingBelow f.mappings × IfSome f.refutation IsRefutationBelow
