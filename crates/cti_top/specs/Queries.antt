-- To believe, for reading.
-- The goal that a query is of a program, or its refusal.
--
-- A query is read with the operators that the program's text leaves, and by the program's names with those that the
-- query adds. The normal form may add predicates without clauses, and =/2 with its clause.
--
-- To believe: all of this file, and below it `AreNamesOf` and `IsQueryAnswer` of prolog_reader and `query_form` of
-- clause_normal.
use Rattle.std.specs.Prelude.{◌≡◌, ℕ, List, Ok, Err}
use Rattle.cti_terms.specs.Listing.{Listing}
use Rattle.cti_terms.specs.declared.derivation.Goal.{Goal}
use Rattle.prolog_reader.specs.declared.fault.ReadKind.{ReadKind}
use Rattle.prolog_terms.specs.Clauses.{Clause}
use Rattle.prolog_reader.specs.Naming.{AreNamesOf, query_own}
use Rattle.prolog_reader.specs.Reading.{IsQueryAnswer}
use Rattle.prolog_reader.specs.Table.{Table}
use Rattle.clause_normal.specs.declared.fault.NormKind.{NormKind}
use Rattle.clause_normal.specs.Query.{query_form}
use Rattle.cti_top.specs.Refusal.{read_number, normal_number}

-- a program with its names, and the operators that its text leaves
pub record Known : Type 0 where
  pub names : List (List ℕ)
  pub program : Listing
  pub table : Table

-- the query reads as this clause, by the program's names and those that it gives
pub record ReadsQueryAs (known : Known) (query : List ℕ) (names : List (List ℕ)) (clause : Clause) : Type 0 where
  pub named : AreNamesOf query_own known.names query names
  pub reads : IsQueryAnswer names known.table query (Ok clause)

-- the query is this goal of this program
pub record IsQueryOf (known : Known) (query : List ℕ) (names : List (List ℕ)) (p : Listing) (g : Goal) : Type 0 where
  pub clause : Clause
  pub reads : ReadsQueryAs known query names clause
  pub normal : query_form names known.program clause ≡ Ok (p, g)

-- the query is refused for a fault of this kind at this byte
pub data IsQueryRefused (known : Known) (query : List ℕ) (kind at : ℕ) : Type 0 where
  not_read : (names : List (List ℕ)) (k : ReadKind) → AreNamesOf query_own known.names query names → IsQueryAnswer names known.table query (Err (k, at)) → kind ≡ read_number k
      → IsQueryRefused known query kind at
  not_normal : (names : List (List ℕ)) (clause : Clause) (k : NormKind) → ReadsQueryAs known query names clause → query_form names known.program clause ≡ Err (k, at)
      → kind ≡ normal_number k → IsQueryRefused known query kind at
