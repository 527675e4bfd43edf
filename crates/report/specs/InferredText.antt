-- Private.
-- What the text of a program's certificate is.
use Rattle.std.specs.Prelude.{◌≡◌, ℕ, List}
use Rattle.cert_checker.specs.Bounding.{ModesAreBounded}
use Rattle.cert_checker.specs.Valid.{IsValid}
use Rattle.certificate.specs.Text.{text_of}
use Rattle.certificate.specs.declared.fact.Fact.{Fact}
use Rattle.cti_terms.specs.Listing.{Listing}
use Rattle.report.specs.Exact.{IsExact}
use Rattle.report.specs.OfNorm.{IsOfNorm}
use Rattle.term_size.specs.declared.any_norm.NormName.{NormName}

-- the text is that of the facts of a valid and exact certificate, of this norm, whose modes bound their queries
pub record IsInferredText (p : Listing) (names : List (List ℕ)) (norm : NormName) (text : List ℕ) : Type 0 where
  pub facts : List Fact
  pub printed : text ≡ text_of facts
  pub valid : IsValid p names facts
  pub exact : IsExact p names facts
  pub bounded : ModesAreBounded p names facts
  pub of_norm : IsOfNorm norm facts
