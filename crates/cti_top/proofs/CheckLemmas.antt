-- What a verdict says of a certificate.
use Rattle.std.proofs.Common.{◌≡◌, ◌↔◌, ℕ, List, refl}
use Rattle.certificate.specs.declared.fact.Fact.{Fact}
use Rattle.certificate.specs.declared.fault.CertFault.TheVariants as fault
use Rattle.cert_checker.specs.Bounding.{ModesAreBounded}
use Rattle.cert_checker.specs.Fault.{IsFault}
use Rattle.cert_checker.specs.Refutes.{RefutedHaveNoMapping}
use Rattle.cert_checker.specs.Valid.{IsValid}
use Rattle.cert_checker.specs.declared.reason.Reason.{Reason}
use Rattle.cert_checker.specs.declared.verdict.Verdict.{Verdict}
use Rattle.cert_checker.specs.declared.verdict.Verdict.TheVariants as verdict
use Rattle.cti_terms.specs.Listing.{Listing}
use Rattle.cti_top.specs.Answers.{verdict_status}
use Rattle.cti_top.specs.Checks.{IsVerdictOn, valid, not_valid}
use Rattle.cti_top.specs.Verdicts.{verdict_line}
use Rattle.cti_top.specs.declared.status.Status.{Status}

no_yes : (line : ℕ) (reason : Reason) → verdict.No line reason ≡ verdict.Yes → ⊥
no_yes line reason e = cc

-- the line of a verdict, with its status
pub verdict_on : (p : Listing) (names : List (List ℕ)) (facts : List Fact) (v : Verdict) (status : Status) (text : List ℕ) → (v ≡ verdict.Yes) ↔ IsValid p names facts
    → (v ≡ verdict.Yes → ModesAreBounded p names facts) → (v ≡ verdict.Yes → RefutedHaveNoMapping p names facts) → ((line : ℕ) (why : Reason) → (v ≡ verdict.No line why) ↔ IsFault p names facts line why) → status ≡ verdict_status v → text ≡ verdict_line v → IsVerdictOn p names facts status text
verdict_on p names facts verdict.Yes status text says bounded excluded named s e = valid (says.0 refl) (bounded refl) (excluded refl) s e
verdict_on p names facts (verdict.No line reason) status text says bounded excluded named s e = not_valid line reason (λ v. no_yes line reason (says.1 v)) ((named line reason).0 refl) s e

-- a wrong line is not being out of memory
pub line_or_memory : (n : ℕ) → fault.NotAFact n ≡ fault.Memory → ⊥
line_or_memory n e = cc
