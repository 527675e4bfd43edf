-- To believe, for reading.
-- The program that a text is, or its refusal.
--
-- A text is first read whole and then normalised: the first fault in reading precedes all of the normal form. Names are
-- their numbers in the list of names that the text gives; the normal form adds those of the disjunctions' predicates.
-- So all of this is a function of the bytes: a text is one program or is refused, for one fault.
--
-- To believe: all of this file, and below it `AreNamesOf` and `IsTextAnswer` of prolog_reader, `program_names` and
-- `normal_form` of clause_normal.
use Rattle.std.specs.Prelude.{◌≡◌, ℕ, List, [], Ok, Err}
use Rattle.cti_terms.specs.Listing.{Listing}
use Rattle.prolog_reader.specs.declared.fault.ReadKind.{ReadKind}
use Rattle.prolog_terms.specs.Clauses.{Clause}
use Rattle.prolog_reader.specs.Naming.{AreNamesOf, text_own}
use Rattle.prolog_reader.specs.Reading.{IsTextAnswer}
use Rattle.prolog_reader.specs.Table.{Table}
use Rattle.clause_normal.specs.declared.fault.NormKind.{NormKind}
use Rattle.clause_normal.specs.ChoiceNames.{program_names}
use Rattle.clause_normal.specs.NormalForm.{normal_form}
use Rattle.cti_top.specs.Refusal.{read_number, normal_number}

-- the bytes read as these clauses, by the names that they give, and leave these operators
pub record ReadsAs (bytes : List ℕ) (names : List (List ℕ)) (clauses : List Clause) (table : Table) : Type 0 where
  pub named : AreNamesOf text_own [] bytes names
  pub reads : IsTextAnswer names bytes (Ok (clauses, table))

-- the bytes are this program, with these names, and leave these operators
pub record IsProgramOf (bytes : List ℕ) (names : List (List ℕ)) (p : Listing) (table : Table) : Type 0 where
  pub read : List (List ℕ)
  pub clauses : List Clause
  pub reads : ReadsAs bytes read clauses table
  pub named : names ≡ program_names read clauses
  pub normal : normal_form names clauses ≡ Ok p

-- the bytes are refused for a fault of this kind at this byte
pub data IsRefused (bytes : List ℕ) (kind at : ℕ) : Type 0 where
  not_read : (names : List (List ℕ)) (k : ReadKind) → AreNamesOf text_own [] bytes names → IsTextAnswer names bytes (Err (k, at)) → kind ≡ read_number k
      → IsRefused bytes kind at
  not_normal : (read : List (List ℕ)) (clauses : List Clause) (table : Table) (k : NormKind)
      → ReadsAs bytes read clauses table → normal_form (program_names read clauses) clauses ≡ Err (k, at) → kind ≡ normal_number k → IsRefused bytes kind at
