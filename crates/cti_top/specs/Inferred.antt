-- To believe, for the command.
-- What is printed for a program: the certificate of its modes.
--
-- The bytes are read as a program; the text is that of facts; these are a valid certificate of the program, of the norm
-- that was asked for, and an exact one: its modes are exactly the minimal ones that the precondition equations give for
-- the printed size rows, ground rows and mappings; and each query that meets one of its modes is bounded. The last
-- follows from the facts being valid. It is said besides, so that who wants to know that queries end has nothing to
-- read but what queries are.
--
-- To believe: all of this file, over the program of a text, `text_of` of certificate, `ModesAreBounded` and `IsValid`
-- of cert_checker, and `IsExact` and `IsOfNorm` of report.
use Rattle.std.specs.Prelude.{◌≡◌, ℕ, List}
use Rattle.cti_terms.specs.Listing.{Listing}
use Rattle.certificate.specs.declared.fact.Fact.{Fact}
use Rattle.certificate.specs.Text.{text_of}
use Rattle.cert_checker.specs.Bounding.{ModesAreBounded}
use Rattle.cert_checker.specs.Valid.{IsValid}
use Rattle.prolog_reader.specs.Table.{Table}
use Rattle.report.specs.Exact.{IsExact}
use Rattle.report.specs.OfNorm.{IsOfNorm}
use Rattle.term_size.specs.declared.any_norm.NormName.{NormName}
use Rattle.cti_top.specs.Programs.{IsProgramOf}

-- the text is what is printed for a program's bytes, where this norm is asked for
pub record IsInferred (norm : NormName) (bytes text : List ℕ) : Type 0 where
  pub names : List (List ℕ)
  pub program : Listing
  pub table : Table
  pub is : IsProgramOf bytes names program table
  pub facts : List Fact
  pub printed : text ≡ text_of facts
  pub of_norm : IsOfNorm norm facts
  pub valid : IsValid program names facts
  pub exact : IsExact program names facts
  pub bounded : ModesAreBounded program names facts
