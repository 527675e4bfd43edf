-- No certificate has two faults.
use Rattle.std.proofs.Common.{◌≡◌, ◌≢◌, ℕ, ◌-◌, List, ap, subst, arith}
use Rattle.std.specs.List.{AllPairs}
use Rattle.certificate.specs.declared.fact.Fact.{Fact}
use Rattle.cert_structure.proofs.ComponentLemmas.{structure}
use Rattle.cert_structure.proofs.FaultLemmas.{fault_moved, no_fault, one_fault}
use Rattle.cert_structure.specs.Structure.{AreNamed}
use Rattle.cert_structure.specs.declared.parts.Parts.{Parts}
use Rattle.fact_reading.specs.declared.stop.StructureReason.{StructureReason}
use Rattle.cti_terms.specs.Listing.{IsProgram, Listing}
use Rattle.term_size.specs.AnyNorm.{any_row, any_truth}
use Rattle.cert_checker.specs.Fault.{ClaimFails, IsFault, IsFirstAt, IsValueFault, failing_fact, wrong_structure}
use Rattle.cert_checker.specs.Norms.{norm_in}
use Rattle.cert_checker.specs.StructureFaults.{HasStructureFault, structure_reason}
use Rattle.cert_checker.specs.declared.reason.Reason.{Reason}
use Rattle.cert_checker.proofs.FaultLaws.{first_moves, same_reason}
use Rattle.cert_checker.proofs.FindLaws.{one_first}
use Rattle.cert_checker.proofs.NoFaultLaws.{one_parts}

module _ (p : Listing) (names : List (List ℕ)) (facts : List Fact) (prog : IsProgram p) (named : AreNamed names p.preds) (distinct : AllPairs (λ a b. a ≢ b) names) where
  -- the structure is wrong, or else it is that of parts
  never_both : (l m : ℕ) (why : StructureReason) (other : Reason) → HasStructureFault p names facts l why → ¬ IsValueFault p names facts m other
  never_both l m why other wrong has =
      no_fault p names wrong.comps facts has.parts l why (structure p has.comps wrong.comps has.components wrong.components names has.parts facts has.structured) wrong.fault

  -- one fact is the first that fails
  one_value : (l m : ℕ) (why other : Reason) → IsValueFault p names facts l why → IsValueFault p names facts m other → (l ≡ m) × (why ≡ other)
  one_value l m why other is also =
      let moved = structure p also.comps is.comps also.components is.components names also.parts facts also.structured in
      let same : also.parts ≡ is.parts = one_parts p names facts prog named distinct is.comps is.components also.parts is.parts moved is.structured in
      let n = norm_in names also.parts.norm in
      let first : IsFirstAt (ClaimFails p names is.comps also.parts) facts (m - 1) other =
      first_moves (any_truth n) (any_row n) p names also.comps is.comps also.components is.components also.parts facts (m - 1) other also.first in
      let (place, number) = one_first (ClaimFails p names is.comps is.parts) facts (l - 1) (m - 1) why other is.first
      (subst (λ (x : Parts). IsFirstAt (ClaimFails p names is.comps x) facts (m - 1) other) same first) in
      let counted = is.counted in
      let also_counted = also.counted in
      (omega (arith, place, counted, also_counted), same_reason why other number)

  pub never_two : (l m : ℕ) (why other : Reason) → IsFault p names facts l why → IsFault p names facts m other → (l ≡ m) × (why ≡ other)
  never_two l m _ _ (wrong_structure why has) (wrong_structure other also) =
      let (lines, reasons) = one_fault p names has.comps facts l m why other has.fault (fault_moved p also.comps has.comps also.components has.components names facts m other also.fault) in
      (lines, ap structure_reason reasons)
  never_two l m _ _ (wrong_structure why has) (failing_fact other also) = absurd (never_both l m why other has also)
  never_two l m _ _ (failing_fact why has) (wrong_structure other also) = absurd (never_both m l other why also has)
  never_two l m _ _ (failing_fact why has) (failing_fact other also) = one_value l m why other has also
