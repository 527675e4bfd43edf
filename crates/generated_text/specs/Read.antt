-- Private.
-- A text that is read, and whose clauses are a program.
use Rattle.std.specs.Prelude.{◌≡◌, ℕ, List, [], Ok}
use Rattle.cti_terms.specs.Listing.{Listing}
use Rattle.prolog_terms.specs.Clauses.{Clause}
use Rattle.prolog_reader.specs.Naming.{AreNamesOf, text_own}
use Rattle.prolog_reader.specs.Reading.{IsTextAnswer}
use Rattle.prolog_reader.specs.Table.{Table}
use Rattle.clause_normal.specs.ChoiceNames.{program_names}
use Rattle.clause_normal.specs.NormalForm.{normal_form}

-- the text gives names, by which it reads as clauses, and these are a program
pub record IsRead (text : List ℕ) : Type 0 where
  pub names : List (List ℕ)
  pub clauses : List Clause
  pub table : Table
  pub program : Listing
  pub named : AreNamesOf text_own [] text names
  pub reads : IsTextAnswer names text (Ok (clauses, table))
  pub normal : normal_form (program_names names clauses) clauses ≡ Ok program
