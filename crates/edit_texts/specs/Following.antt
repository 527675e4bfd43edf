-- Private.
-- What the fields of a session are seen as, and the programs of clauses that come and go.
use Rattle.std.specs.Prelude.{◌≡◌, ◌⊎◌, ℕ, List, length, map, Option}
use Rattle.cert_structure.specs.Structure.{AreNamed}
use Rattle.clause_normal.specs.Definite.{AreDefinite, program_of}
use Rattle.cti_terms.specs.Listing.{Listing}
use Rattle.kept_clauses.specs.KeptLists.{AreKeptList, IsIncreasing, IsOnto, IsTotal}
use Rattle.kept_program.specs.ProgramParts.{ProgramParts}
use Rattle.prolog_terms.specs.Clauses.{Clause}
use Rattle.prolog_terms.specs.declared.clause.ReadClause.{ReadClause}
use Rattle.prolog_terms.specs.Terms.{clause_of}
use Rattle.edit_texts.specs.Snapshot.{Snapshot, HasProgram, nodes_in}

abbrev pub snapshot : List ReadClause → ProgramParts → Snapshot
snapshot cs kept = record { clauses = map clause_of cs; kept = kept }

-- the program is that of the clauses for some names, and that is how many nodes these have
pub record IsCounted (count : ℕ) (s : Snapshot) : Type 0 where
  pub names : List (List ℕ)
  pub program : HasProgram names s
  pub counted : count ≡ nodes_in s.clauses

-- the program is that of `count` earlier clauses, and of later ones those of these numbers were kept
pub record IsBefore (names : List (List ℕ)) (program : Listing) (count : ℕ) (later : List Clause) (since : List (Option ℕ)) : Type 0 where
  pub clauses : List Clause
  pub many : length clauses ≡ count
  pub definite : AreDefinite names clauses
  pub is : program ≡ program_of names clauses
  pub named : AreNamed names program.preds
  pub kept : AreKeptList clauses later since

-- clauses were only put into a list of `count`, or only taken out of it
pub record IsOneEdit (count : ℕ) (since : List (Option ℕ)) : Type 0 where
  pub order : IsIncreasing since
  pub all : IsTotal since ⊎ IsOnto count since
