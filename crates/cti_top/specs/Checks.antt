-- To believe, for the command.
-- What is answered to a certificate of a program.
--
-- A Yes comes exactly where the certificate is valid, and then the queries that meet its modes are bounded. Where it is
-- not, the line and the reason are those of its first fault.
--
-- To believe: all of this file, over the program of a text, `IsTextOf` and `IsFirstWrong` of certificate, and
-- `ModesAreBounded` of cert_checker; `IsValid`, `RefutedHaveNoMapping` and `IsFault` of cert_checker only where a Yes
-- is to mean more than that queries end, and a No what is wrong.
use Rattle.std.specs.Prelude.{◌≡◌, ◌≤◌, ℕ, List, length}
use Rattle.certificate.specs.declared.certificate.Certificate.{Certificate}
use Rattle.certificate.specs.declared.fact.Fact.{Fact}
use Rattle.certificate.specs.Lines.{IsFirstWrong}
use Rattle.certificate.specs.Reading.{IsTextOf, most_bytes}
use Rattle.cert_checker.specs.Bounding.{ModesAreBounded}
use Rattle.cert_checker.specs.Fault.{IsFault}
use Rattle.cert_checker.specs.Refutes.{RefutedHaveNoMapping}
use Rattle.cert_checker.specs.Valid.{IsValid}
use Rattle.cert_checker.specs.declared.reason.Reason.{Reason}
use Rattle.cert_checker.specs.declared.verdict.Verdict.TheVariants as verdict
use Rattle.cti_terms.specs.Listing.{Listing}
use Rattle.cti_top.specs.Queries.{Known}
use Rattle.cti_top.specs.Verdicts.{verdict_line}
use Rattle.cti_top.specs.declared.status.Status.{Status}
use Rattle.cti_top.specs.declared.status.Status.TheVariants.{Done, No}

-- the facts are valid for the program and its names, or this is their first fault
pub data IsVerdictOn (p : Listing) (names : List (List ℕ)) (facts : List Fact) (status : Status) (text : List ℕ) : Type 0 where
  valid : IsValid p names facts → ModesAreBounded p names facts → RefutedHaveNoMapping p names facts → status ≡ Done → text ≡ verdict_line verdict.Yes → IsVerdictOn p names facts status text
  not_valid : (line : ℕ) (reason : Reason) → (IsValid p names facts → ⊥) → IsFault p names facts line reason → status ≡ No → text ≡ verdict_line (verdict.No line reason) → IsVerdictOn p names facts status text

-- the text is what is answered to the certificate of this text, for this program
pub record IsCheckOf (known : Known) (certified : List ℕ) (status : Status) (text : List ℕ) : Type 0 where
  pub certificate : Certificate
  pub is : IsTextOf certificate certified
  pub verdict : IsVerdictOn known.program known.names certificate.facts status text

-- the text is within its limit and not that of a certificate, and this is its first line that is not a fact
pub record IsRefusedCertificate (certified : List ℕ) (line : ℕ) : Type 0 where
  pub short : length certified ≤ most_bytes
  pub first : IsFirstWrong certified line
  pub none : (c : Certificate) → IsTextOf c certified → ⊥
