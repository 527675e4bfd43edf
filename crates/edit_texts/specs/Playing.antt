-- Private.
-- The edits of a text under way. Nothing here has to be believed.
use Rattle.std.specs.Prelude.{◌≡◌, ◌≤◌, ◌+◌, ℕ, suc, true, List, [], ◌++◌, Result, Ok, Err, Some, length, map, slice_get}
use Rattle.std.specs.List.{AllByRecursion}
use Rattle.certificate.specs.Text.{fact_text}
use Rattle.certificate.specs.declared.fact.Fact.TheVariants.{Terminates}
use Rattle.clause_normal.specs.ChoiceNames.{HasOperations}
use Rattle.clause_normal.specs.Definite.{AreDefinite, program_of}
use Rattle.cert_structure.specs.Order.{pred_text}
use Rattle.kept_program.specs.ProgramParts.{certificate_facts}
use Rattle.prolog_reader.specs.Fit.{AreFit, IsFit}
use Rattle.prolog_terms.specs.Clauses.{Clause}
use Rattle.prolog_terms.specs.Terms.{clause_of}
use Rattle.edit_texts.specs.Edits.{Step, Told, outcome, telling}
use Rattle.edit_texts.specs.EditsFaults.{IfRefused}
use Rattle.edit_texts.specs.Following.{IsBefore}
use Rattle.edit_texts.specs.Snapshot.{nodes_in}
use Rattle.edit_texts.specs.Told.{AreLines}
use Rattle.edit_texts.specs.declared.edits_fault.EditsFault.{EditsFault}
use Rattle.edit_texts.specs.declared.playing.Playing.{Playing}

-- the clauses so far
abbrev pub clauses_in : Playing → List Clause
clauses_in s = map clause_of s.clauses.items

-- the clauses are definite, and the program that is kept is that of earlier ones; where it is current, it is theirs
pub record IsUnderWay (names : List (List ℕ)) (s : Playing) : Type 0 where
  pub fit : AreFit (length names) (clauses_in s)
  pub definite : AreDefinite names (clauses_in s)
  pub operations : HasOperations names
  pub before : IsBefore names s.kept.program s.count (clauses_in s) s.since.items
  pub current : s.is_current ≡ true → s.kept.program ≡ program_of names (clauses_in s)

-- what a step leaves: the clauses that it says, and one line more for each that it tells
pub record HasDone (names : List (List ℕ)) (old new : Playing) (step : Step) : Type 0 where
  pub told : List Told
  pub is : step ≡ Ok (clauses_in new, told)
  pub more : List ℕ
  pub lines : AreLines names told more
  pub text : new.lines.items ≡ old.lines.items ++ more
  pub under_way : IsUnderWay names new

-- the step is done, or refused as it says
abbrev pub AnswersStep : List (List ℕ) → Playing → Playing → Step → Result (Unit {0}) EditsFault → Type 0
AnswersStep names old new step (Ok done) = HasDone names old new step
AnswersStep names old new step (Err fault) = IfRefused fault (λ r. step ≡ Err r)

-- the line of a predicate's modes is added
pub record IsToldAs (names : List (List ℕ)) (old new : Playing) (q : ℕ) : Type 0 where
  pub modes : List (List ℕ)
  pub at : slice_get (certificate_facts names old.kept) (suc q) ≡ Some (Terminates (pred_text old.kept.program names q) modes)
  pub lines : new.lines.items ≡ old.lines.items ++ fact_text (Terminates (pred_text old.kept.program names q) modes)

-- Of all edits these are left, and those before them are done. What there is of nodes is no more than a text has.
pub record HasPlayed (names : List (List ℕ)) (all rest : List Clause) (s : Playing) : Type 0 where
  pub under_way : IsUnderWay names s
  pub fit : AllByRecursion (IsFit (length names)) rest
  pub small : nodes_in (clauses_in s) + nodes_in rest ≤ 2097152
  pub told : List Told
  pub lines : AreLines names told s.lines.items
  pub so_far : outcome names [] all ≡ telling told (outcome names (clauses_in s) rest)
