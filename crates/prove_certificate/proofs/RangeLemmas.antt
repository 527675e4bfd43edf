-- Parts in range and amounts from 0 on are a fact in range.
use Rattle.std.proofs.Common.{◌≡◌, true, List, [], ◌∷◌, arith}
use Rattle.std.proofs.lemmas.Int.{ints}
use Rattle.std.proofs.lemmas.Bool.{false≢true, and_parts}
use Rattle.std.specs.Prelude.{ℤ, pos, negsuc}
use Rattle.std.specs.List.{AllByRecursion, list_all}
use Rattle.certificate.specs.Range.{IsEntry, IsAmount, AreEntries}
use Rattle.certificate.specs.Parse.{is_amount}
use Rattle.prove_certificate.specs.Range.{HasParts, InRange, amounts_of}
use Rattle.prove_certificate.specs.declared.fact.ProveFact.{ProveFact}
use Rattle.prove_certificate.specs.declared.fact.ProveFact.TheVariants as fact

amount : (z : ℤ) → IsEntry z → is_amount z ≡ true → IsAmount z
amount (pos n) h e = (omega (arith, ints), h.1)
amount (negsuc n) h e = absurd (false≢true e)

amounts : (zs : List ℤ) → AreEntries zs → list_all is_amount zs ≡ true → AllByRecursion IsAmount zs
amounts [] h e = tt
amounts (z ∷ zs) h e = let (one, more) = and_parts (is_amount z) (list_all is_amount zs) e in (amount z h.0 one, amounts zs h.1 more)

-- the amounts are among the parts
entries : (f : ProveFact) → HasParts f → AreEntries (amounts_of f)
entries (fact.Ctiprove version) h = (h, tt)
entries (fact.Terminates pred modes) h = tt
entries (fact.Kinds pred kinds) h = tt
entries (fact.Fails pred) h = tt
entries (fact.Size pred index row) h = tt
entries (fact.By clause index scale multipliers) h = (h.2, h.3)
entries (fact.Grounds pred index cube) h = tt
entries (fact.Level pred list index coeffs offset) h = tt
entries (fact.Drops clause call list index scale multipliers) h = (h.4, h.5)
entries (fact.Floors clause call list scale multipliers) h = (h.3, h.4)
entries (fact.Pre pred list index cube) h = tt
entries (fact.Refuted pred groups) h = tt
entries (fact.Group clause call) h = tt
entries (fact.Point clause call t w) h = (h.2, h.3)
entries (fact.Floor clause call t w) h = (h.2, h.3)
entries (fact.Image step clause pred rows) h = tt
entries (fact.Step step pred how rows) h = tt
entries (fact.WeakImage step) h = tt
entries (fact.WeakStep step) h = tt
entries (fact.Blown pred support) h = tt

pub in_range : (f : ProveFact) → HasParts f → list_all is_amount (amounts_of f) ≡ true → InRange f
in_range f h e = (h, amounts (amounts_of f) (entries f h) e)
