-- A certificate is valid exactly where its only parts hold.
--
-- That the parts do not depend on the partition is a premise here, which the law of `cert_structure` gives.
use Rattle.std.proofs.Common.{◌≡◌, ◌↔◌, ℕ, List, sym, subst}
use Rattle.cti_terms.specs.Listing.{Listing}
use Rattle.call_components.specs.Partition.{AreComponents, Partition}
use Rattle.certificate.specs.declared.fact.Fact.{Fact}
use Rattle.cert_structure.specs.Structure.{IsStructured}
use Rattle.cert_structure.specs.declared.parts.Parts.{Parts}
use Rattle.term_size.specs.AnyNorm.{any_row, any_truth}
use Rattle.cert_checker.specs.Norms.{norm_in}
use Rattle.cert_checker.specs.Valid.{ClaimsHold, IsValid}
use Rattle.cert_checker.proofs.AnyPartition.{parts_hold}

abbrev pub OneStructure : Type 0
OneStructure = (p : Listing) (names : List (List ℕ)) (one other : Partition) (parts : Parts) (facts : List Fact) → AreComponents p one → AreComponents p other
    → IsStructured p names one parts facts → IsStructured p names other parts facts

module _ (one_structure : OneStructure) (p : Listing) (names : List (List ℕ)) (comps : Partition) (are : AreComponents p comps) (facts : List Fact) where
  -- the parts of a valid certificate are its parts for this partition
  moved : (valid : IsValid p names facts) → IsStructured p names comps valid.parts facts
  moved valid = one_structure p names valid.comps comps valid.parts facts valid.components are valid.structured

  pub decided : (P : Type 0) (parts : Parts) → IsStructured p names comps parts facts → ((own : Parts) → IsStructured p names comps own facts → parts ≡ own)
      → P ↔ ClaimsHold p names comps parts → P ↔ IsValid p names facts
  decided P parts structured only decides = (
    λ none. record { comps = comps; components = are; parts = parts; structured = structured; hold = decides.0 none },
    λ valid.
        let n = norm_in names valid.parts.norm in
        decides.1 (subst (ClaimsHold p names comps) (sym (only valid.parts (moved valid))) (parts_hold (any_truth n) (any_row n) p valid.comps comps valid.components are valid.parts valid.hold)),
  )

  -- and without parts it is not valid
  pub without_parts : ((own : Parts) → IsStructured p names comps own facts → ⊥) → IsValid p names facts → ⊥
  without_parts none valid = none valid.parts (moved valid)
