-- Mappings of components that are not recursive, fact by fact.
use Rattle.std.proofs.Common.{◌≡◌, ◌≢◌, ◌↔◌, ℕ, ◌<◌, Bool, true, false, List, [], ◌∷◌, length, slice_get, Option, None, Some, sym, ap, subst, ◌∙◌, refl}
use Rattle.std.specs.List.{AllByRecursion, AllPairs}
use Rattle.call_components.specs.Partition.{IsIn, Partition}
use Rattle.cti_terms.specs.Listing.{IsProgram, Listing}
use Rattle.cert_structure.specs.Numbered.{lines_from}
use Rattle.cert_structure.specs.Order.{measure_line, pred_text}
use Rattle.cert_structure.specs.Structure.{AreNamed}
use Rattle.number_tests.specs.declared.level_part.LevelPart.{LevelPart}
use Rattle.termination_model.proofs.Lists.{by_places}
use Rattle.cert_checker.specs.Fault.{MeasureFails}
use Rattle.cert_checker.specs.Finding.{Finds, MeasuresFail, NoneFails, PartsFail}
use Rattle.cert_checker.specs.Proved.{IsZero}
use Rattle.cert_checker.specs.declared.fault.Fault.{Fault}
use Rattle.cert_checker.specs.declared.reason.Reason.{Reason}
use Rattle.cert_checker.proofs.FindLaws.{finds_none, finds_same, same_lines}
use Rattle.cert_checker.proofs.TextLaws.{same_text}

-- a fault is found only where the component is not recursive
pub not_recursive : (Q : Type 0) (recursive : Bool) (o : Option Fault) (f : Fault) → (o ≡ None) ↔ (recursive ≡ false → Q) → o ≡ Some f → recursive ≡ false
not_recursive Q false o f hold is = refl
not_recursive Q true o f hold is = let none : o ≡ None = hold.1 (λ wrong. cc) in let both : Some f ≡ None = sym is ∙ none in cc

module _ (p : Listing) (names : List (List ℕ)) (comps : Partition) (prog : IsProgram p) (named : AreNamed names p.preds) (distinct : AllPairs (λ a b. a ≢ b) names)
    (q : ℕ) (lt : q < length p.preds) (c : ℕ) (is_in : IsIn comps c q) (recursive : Bool) (answer : slice_get comps.recursive c ≡ Some recursive) where
  -- what a failing measure says of this predicate
  flat : (l : LevelPart) (why : Reason) → MeasureFails p names comps (pred_text p names q) l why → recursive ≡ false
  flat l why fault =
      let same : fault.q ≡ q = same_text p names prog named distinct q fault.q lt fault.named.0 fault.named.1 in
      let own : slice_get comps.of q ≡ Some fault.c = subst (λ (r : ℕ). slice_get comps.of r ≡ Some fault.c) same fault.is_in in
      let component : fault.c ≡ c = (let both = sym own ∙ is_in in cc) in
      let none : slice_get comps.recursive c ≡ Some false = subst (λ (d : ℕ). slice_get comps.recursive d ≡ Some false) component fault.none in
      let both = sym answer ∙ none in cc

  pub zero_parts : (ls : List LevelPart) → (recursive ≡ false → AllByRecursion IsZero ls) → NoneFails (MeasuresFail p names comps) (lines_from 0 (measure_line (pred_text p names q)) ls)
  zero_parts ls zero = finds_none (MeasuresFail p names comps) (λ m l. measure_line (pred_text p names q) m l ∷ []) (λ l. 1) (λ m l. refl) ls
      (λ m l e. (λ why fault. fault.not_zero (by_places IsZero ls (zero (flat l why fault)) m l e), tt))

  pub failing_part : (ls : List LevelPart) (first : ℕ) (o : Option Fault) → recursive ≡ false → Finds PartsFail first (lines_from 0 (measure_line (pred_text p names q)) ls) o
      → Finds (MeasuresFail p names comps) first (lines_from 0 (measure_line (pred_text p names q)) ls) o
  failing_part ls first o none found =
      finds_same PartsFail (MeasuresFail p names comps) (lines_from 0 (measure_line (pred_text p names q)) ls) (same_lines PartsFail (MeasuresFail p names comps) (measure_line (pred_text p names q)) 0 ls (λ m l e why. (
        λ fails. record { q = q; named = (lt, refl); c = c; is_in = is_in; none = answer ∙ ap Some none; not_zero = fails.0; why_is = fails.1 },
        λ fault. (fault.not_zero, fault.why_is),
      ))) first o found
