-- Private.
-- To believe, for the modes by measures with numbers.
-- The facts that a certificate of measures with numbers may hold.
--
-- To believe: all of this file, over Range.antt of `certificate`.
use Rattle.std.specs.Prelude.{ℤ, List, [], ◌∷◌}
use Rattle.std.specs.List.{AllByRecursion}
use Rattle.certificate.specs.Range.{IsPlace, IsIndex, IsEntry, IsAmount, IsPred, AreEntries, ArePlaces}
use Rattle.prove_certificate.specs.declared.fact.ProveFact.{ProveFact}
use Rattle.prove_certificate.specs.declared.fact.ProveFact.TheVariants as fact

-- the names of the fact are in range, and its numbers, whatever their signs
abbrev pub HasParts : ProveFact → Type 0
HasParts (fact.Ctiprove version) = IsEntry version
HasParts (fact.Terminates pred modes) = IsPred pred × AllByRecursion ArePlaces modes
HasParts (fact.Kinds pred kinds) = IsPred pred
HasParts (fact.Fails pred) = IsPred pred
HasParts (fact.Size pred index row) = IsPred pred × IsIndex index × AreEntries row
HasParts (fact.By clause index scale multipliers) = IsPlace clause × IsIndex index × IsEntry scale × AreEntries multipliers
HasParts (fact.Grounds pred index cube) = IsPred pred × IsIndex index
HasParts (fact.Level pred list index coeffs offset) = IsPred pred × IsPlace list × IsIndex index × AreEntries coeffs × IsEntry offset
HasParts (fact.Drops clause call list index scale multipliers) = IsPlace clause × IsPlace call × IsPlace list × IsIndex index × IsEntry scale × AreEntries multipliers
HasParts (fact.Floors clause call list scale multipliers) = IsPlace clause × IsPlace call × IsPlace list × IsEntry scale × AreEntries multipliers
HasParts (fact.Pre pred list index cube) = IsPred pred × IsPlace list × IsIndex index
HasParts (fact.Refuted pred groups) = IsPred pred × IsIndex groups
HasParts (fact.Group clause call) = IsPlace clause × IsPlace call
HasParts (fact.Point clause call t w) = IsPlace clause × IsPlace call × IsEntry t × AreEntries w
HasParts (fact.Floor clause call t w) = IsPlace clause × IsPlace call × IsEntry t × AreEntries w
HasParts (fact.Image step clause pred rows) = IsIndex step × IsPlace clause × IsPred pred × AllByRecursion AreEntries rows
HasParts (fact.Step step pred how rows) = IsIndex step × IsPred pred × AllByRecursion AreEntries rows
HasParts (fact.WeakImage step) = IsIndex step
HasParts (fact.WeakStep step) = IsIndex step
HasParts (fact.Blown pred support) = IsPred pred × AllByRecursion ArePlaces support

-- the numbers that are not below 0: a version, a scale with its multipliers, and the t and values of a point
abbrev pub amounts_of : ProveFact → List ℤ
amounts_of (fact.Ctiprove version) = version ∷ []
amounts_of (fact.By clause index scale multipliers) = scale ∷ multipliers
amounts_of (fact.Drops clause call list index scale multipliers) = scale ∷ multipliers
amounts_of (fact.Floors clause call list scale multipliers) = scale ∷ multipliers
amounts_of (fact.Point clause call t w) = t ∷ w
amounts_of (fact.Floor clause call t w) = t ∷ w
amounts_of _ = []

-- the names and numbers of the fact are in range
abbrev pub InRange : ProveFact → Type 0
InRange f = HasParts f × AllByRecursion IsAmount (amounts_of f)

-- each fact is in range
abbrev pub AreInRange : List ProveFact → Type 0
AreInRange fs = AllByRecursion InRange fs
