-- Parts in range and amounts from 0 on are a fact in range.
use Rattle.std.proofs.Common.{◌≡◌, true, List, [], ◌∷◌, refl}
use Rattle.std.specs.Prelude.{ℤ, pos, negsuc}
use Rattle.std.proofs.Common.{arith}
use Rattle.std.proofs.lemmas.Int.{ints}
use Rattle.std.proofs.lemmas.Bool.{false≢true, and_parts}
use Rattle.std.specs.List.{list_all}
use Rattle.certificate.specs.declared.fact.Fact.{Fact}
use Rattle.certificate.specs.declared.fact.Fact.TheVariants as fact
use Rattle.certificate.specs.Range.{IsEntry, IsAmount, AreEntries, AreAmounts, InRange}
use Rattle.certificate.specs.Parse.{is_amount, has_amounts, HasParts}

amount : (z : ℤ) → IsEntry z → is_amount z ≡ true → IsAmount z
amount (pos n) h e = (omega (arith, ints), h.1)
amount (negsuc n) h e = absurd (false≢true e)

amounts : (zs : List ℤ) → AreEntries zs → list_all is_amount zs ≡ true → AreAmounts zs
amounts [] h e = tt
amounts (z ∷ zs) h e = let (one, more) = and_parts (is_amount z) (list_all is_amount zs) e in (amount z h.0 one, amounts zs h.1 more)

pub in_range : (f : Fact) → HasParts f → has_amounts f ≡ true → InRange f
in_range (fact.Cti version) h e = amount version h e
in_range (fact.By clause index scale multipliers) h e =
    let (one, more) = and_parts (is_amount scale) (list_all is_amount multipliers) e in
    (h.0, h.1, amount scale h.2 one, amounts multipliers h.3 more)
in_range (fact.Measure pred mapping coeffs offset) h e =
    let (more, one) = and_parts (list_all is_amount coeffs) (is_amount offset) e in
    (h.0, h.1, amounts coeffs h.2 more, amount offset h.3 one)
in_range (fact.Falls clause call mapping scale multipliers) h e =
    let (one, more) = and_parts (is_amount scale) (list_all is_amount multipliers) e in
    (h.0, h.1, h.2, amount scale h.3 one, amounts multipliers h.4 more)
in_range (fact.Point clause call t w) h e =
    let (one, more) = and_parts (is_amount t) (list_all is_amount w) e in
    (h.0, h.1, amount t h.2 one, amounts w h.3 more)
in_range (fact.At clause call t w) h e =
    let (one, more) = and_parts (is_amount t) (list_all is_amount w) e in
    (h.0, h.1, amount t h.2 one, amounts w h.3 more)
in_range (fact.Norm named) h e = h
in_range (fact.Terminates pred modes) h e = h
in_range (fact.Size pred index row) h e = h
in_range (fact.Grounds pred index cube) h e = h
in_range (fact.Pre pred mapping index cube) h e = h
in_range (fact.Refuted pred points) h e = h
in_range (fact.Image step clause pred rows) h e = h
in_range (fact.Step step pred how rows) h e = h
in_range (fact.WeakImage step) h e = h
in_range (fact.WeakStep step) h e = h
in_range (fact.Blown pred support) h e = h
in_range (fact.Large pred positions) h e = h

entry : (z : ℤ) → IsAmount z → IsEntry z
entry z h = (omega (arith, ints, h.0), h.1)

entries : (zs : List ℤ) → AreAmounts zs → AreEntries zs
entries [] h = tt
entries (z ∷ zs) h = (entry z h.0, entries zs h.1)

not_below : (z : ℤ) → IsAmount z → is_amount z ≡ true
not_below (pos n) h = refl
not_below (negsuc n) h = absurd (omega (arith, ints, h.0))

none_below : (zs : List ℤ) → AreAmounts zs → list_all is_amount zs ≡ true
none_below [] h = refl
none_below (z ∷ zs) h = rw (not_below z h.0, none_below zs h.1) refl

-- a fact in range has parts in range, and its amounts are not below 0
pub has_parts : (f : Fact) → InRange f → HasParts f
has_parts (fact.Cti version) h = entry version h
has_parts (fact.By clause index scale multipliers) h = (h.0, h.1, entry scale h.2, entries multipliers h.3)
has_parts (fact.Measure pred mapping coeffs offset) h = (h.0, h.1, entries coeffs h.2, entry offset h.3)
has_parts (fact.Falls clause call mapping scale multipliers) h = (h.0, h.1, h.2, entry scale h.3, entries multipliers h.4)
has_parts (fact.Point clause call t w) h = (h.0, h.1, entry t h.2, entries w h.3)
has_parts (fact.At clause call t w) h = (h.0, h.1, entry t h.2, entries w h.3)
has_parts (fact.Norm named) h = h
has_parts (fact.Terminates pred modes) h = h
has_parts (fact.Size pred index row) h = h
has_parts (fact.Grounds pred index cube) h = h
has_parts (fact.Pre pred mapping index cube) h = h
has_parts (fact.Refuted pred points) h = h
has_parts (fact.Image step clause pred rows) h = h
has_parts (fact.Step step pred how rows) h = h
has_parts (fact.WeakImage step) h = h
has_parts (fact.WeakStep step) h = h
has_parts (fact.Blown pred support) h = h
has_parts (fact.Large pred positions) h = h

pub amounts_hold : (f : Fact) → InRange f → has_amounts f ≡ true
amounts_hold (fact.Cti version) h = not_below version h
amounts_hold (fact.By clause index scale multipliers) h = rw (not_below scale h.2, none_below multipliers h.3) refl
amounts_hold (fact.Measure pred mapping coeffs offset) h = rw (none_below coeffs h.2, not_below offset h.3) refl
amounts_hold (fact.Falls clause call mapping scale multipliers) h = rw (not_below scale h.3, none_below multipliers h.4) refl
amounts_hold (fact.Point clause call t w) h = rw (not_below t h.2, none_below w h.3) refl
amounts_hold (fact.At clause call t w) h = rw (not_below t h.2, none_below w h.3) refl
amounts_hold (fact.Norm named) h = refl
amounts_hold (fact.Terminates pred modes) h = refl
amounts_hold (fact.Size pred index row) h = refl
amounts_hold (fact.Grounds pred index cube) h = refl
amounts_hold (fact.Pre pred mapping index cube) h = refl
amounts_hold (fact.Refuted pred points) h = refl
amounts_hold (fact.Image step clause pred rows) h = refl
amounts_hold (fact.Step step pred how rows) h = refl
amounts_hold (fact.WeakImage step) h = refl
amounts_hold (fact.WeakStep step) h = refl
amounts_hold (fact.Blown pred support) h = refl
amounts_hold (fact.Large pred positions) h = refl
