-- To believe, for the modes by lists of mappings.
-- What is printed for a program: the certificate of its modes by lists of level mappings.
--
-- The bytes are read as a program; the text is that of facts; these are a valid certificate of the program, and an
-- exact one: its lists are those that descend and have minimal supports, and its modes exactly the minimal ones that
-- the precondition equations give for the printed size rows, ground rows and lists; and each query that meets one of
-- its modes is bounded. The last follows from the facts being valid. It is said besides, so that who wants to know that
-- queries end has nothing to read but what queries are.
--
-- To believe: all of this file, over the program of a text, `text_of` of lex_certificate, `ModesAreBounded` and
-- `IsValid` of lex_checker, and `IsExact` of lex_measures.
use Rattle.std.specs.Prelude.{◌≡◌, ℕ, List}
use Rattle.cti_terms.specs.Listing.{Listing}
use Rattle.lex_certificate.specs.declared.fact.LexFact.{LexFact}
use Rattle.lex_certificate.specs.Text.{text_of}
use Rattle.lex_checker.specs.Bounding.{ModesAreBounded}
use Rattle.lex_checker.specs.Valid.{IsValid}
use Rattle.lex_measures.specs.Exact.{IsExact}
use Rattle.prolog_reader.specs.Table.{Table}
use Rattle.cti_top.specs.Programs.{IsProgramOf}

-- the text is what is printed for a program's bytes
pub record IsLexed (bytes text : List ℕ) : Type 0 where
  pub names : List (List ℕ)
  pub program : Listing
  pub table : Table
  pub is : IsProgramOf bytes names program table
  pub facts : List LexFact
  pub printed : text ≡ text_of facts
  pub valid : IsValid program names facts
  pub exact : IsExact program names facts
  pub bounded : ModesAreBounded program names facts
