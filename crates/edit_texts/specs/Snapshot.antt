-- Private.
-- Clauses that come and go, and what is kept of their program.
--
-- To believe, for those who use sessions as a library: all of this file; in clause_normal Definite.antt, which says
-- what the program of clauses is; in component_laws Untouched.antt, which says what an edit leaves untouched, and in
-- kept_program Untouched.antt, what that keeps.
use Rattle.std.specs.Prelude.{◌≡◌, ℕ, Bool, List, length, sum_by}
use Rattle.cert_structure.specs.Structure.{AreNamed}
use Rattle.clause_normal.specs.ChoiceNames.{HasOperations}
use Rattle.clause_normal.specs.Definite.{AreDefinite, program_of}
use Rattle.component_laws.specs.Untouched.{AreUntouched}
use Rattle.cti_terms.specs.declared.predicates.Pred.{Pred}
use Rattle.kept_program.specs.ProgramParts.{ProgramParts}
use Rattle.kept_program.specs.Untouched.{KeepsUntouched}
use Rattle.prolog_reader.specs.Fit.{AreFit}
use Rattle.prolog_terms.specs.Clauses.{Clause, nodes}

-- clauses at a moment, and their program with what is kept of it
pub record Snapshot : Type 0 where
  pub clauses : List Clause
  pub kept : ProgramParts

-- how many nodes the terms of clauses have together
abbrev pub nodes_in : List Clause → ℕ
nodes_in cs = sum_by (λ (c : Clause). nodes c.term) cs

-- The clauses are definite, with terms of these names and no more nodes than the clauses of a text have. The program is
-- theirs. The names of arithmetic operations are there, so that later names change nothing.
pub record HasProgram (names : List (List ℕ)) (s : Snapshot) : Type 0 where
  pub fit : AreFit (length names) s.clauses
  pub definite : AreDefinite names s.clauses
  pub operations : HasOperations names
  pub program : s.kept.program ≡ program_of names s.clauses
  pub named : AreNamed names s.kept.program.preds

-- What an edit leaves untouched keeps its size rows, its ground rows, and its measures, each with its precondition. A
-- set of predicates is untouched where it is closed under calls, and has the same clauses before the edit and after it.
abbrev pub KeepUntouched : ProgramParts → ProgramParts → Type 0
KeepUntouched old new = (set : Pred → Bool) → AreUntouched old.program new.program set → KeepsUntouched old new set
