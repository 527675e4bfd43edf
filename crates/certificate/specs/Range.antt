-- To believe, for the modes.
-- The facts that a certificate may hold.
--
-- To believe: all of this file.
use Rattle.std.specs.Prelude.{ℕ, ◌≤◌, ℤ, pos, neg_ℤ, ◌≤ℤ◌, List}
use Rattle.std.specs.List.{AllByRecursion}
use Rattle.std.specs.Str.{IsUtf8}
use Rattle.certificate.specs.declared.pred_text.PredText.{PredText}
use Rattle.certificate.specs.declared.fact.Fact.{Fact}
use Rattle.certificate.specs.declared.fact.Fact.TheVariants as fact

-- the greatest number of 32 bits, of 64 bits, and of 127 bits
abbrev pub most_32 : ℕ
most_32 = 4294967295

abbrev pub most_64 : ℕ
most_64 = 18446744073709551615

abbrev pub most_127 : ℕ
most_127 = 170141183460469231731687303715884105727

-- a clause, a call, a mapping or an argument, counted from 1
abbrev pub IsPlace : ℕ → Type 0
IsPlace n = (1 ≤ n) × (n ≤ most_32)

-- a row, a step or a count, from 1
abbrev pub IsIndex : ℕ → Type 0
IsIndex n = (1 ≤ n) × (n ≤ most_64)

-- a number of a row
abbrev pub IsEntry : ℤ → Type 0
IsEntry z = (neg_ℤ (pos most_127) ≤ℤ z) × (z ≤ℤ pos most_127)

-- a version, a scale, a multiplier, a coefficient, an offset or a number of a point
abbrev pub IsAmount : ℤ → Type 0
IsAmount z = (pos 0 ≤ℤ z) × (z ≤ℤ pos most_127)

-- a predicate: a name in UTF-8, with at most 12 arguments
abbrev pub IsPred : PredText → Type 0
IsPred p = IsUtf8 p.name × (p.arity ≤ 12)

abbrev pub AreEntries : List ℤ → Type 0
AreEntries zs = AllByRecursion IsEntry zs

abbrev pub AreAmounts : List ℤ → Type 0
AreAmounts zs = AllByRecursion IsAmount zs

abbrev pub ArePlaces : List ℕ → Type 0
ArePlaces ns = AllByRecursion IsPlace ns

-- the names and numbers of the fact are in range
abbrev pub InRange : Fact → Type 0
InRange (fact.Cti version) = IsAmount version
InRange (fact.Norm norm) = Unit {0}
InRange (fact.Terminates pred modes) = IsPred pred × AllByRecursion ArePlaces modes
InRange (fact.Size pred index row) = IsPred pred × IsIndex index × AreEntries row
InRange (fact.By clause index scale multipliers) = IsPlace clause × IsIndex index × IsAmount scale × AreAmounts multipliers
InRange (fact.Grounds pred index cube) = IsPred pred × IsIndex index
InRange (fact.Measure pred mapping coeffs offset) = IsPred pred × IsPlace mapping × AreAmounts coeffs × IsAmount offset
InRange (fact.Falls clause call mapping scale multipliers) = IsPlace clause × IsPlace call × IsPlace mapping × IsAmount scale × AreAmounts multipliers
InRange (fact.Pre pred mapping index cube) = IsPred pred × IsPlace mapping × IsIndex index
InRange (fact.Refuted pred points) = IsPred pred × IsIndex points
InRange (fact.Point clause call t w) = IsPlace clause × IsPlace call × IsAmount t × AreAmounts w
InRange (fact.At clause call t w) = IsPlace clause × IsPlace call × IsAmount t × AreAmounts w
InRange (fact.Image step clause pred rows) = IsIndex step × IsPlace clause × IsPred pred × AllByRecursion AreEntries rows
InRange (fact.Step step pred how rows) = IsIndex step × IsPred pred × AllByRecursion AreEntries rows
InRange (fact.WeakImage step) = IsIndex step
InRange (fact.WeakStep step) = IsIndex step
InRange (fact.Blown pred support) = IsPred pred × AllByRecursion ArePlaces support
InRange (fact.Large pred positions) = IsPred pred × IsIndex positions

-- each fact is in range
abbrev pub AreInRange : List Fact → Type 0
AreInRange fs = AllByRecursion InRange fs
