-- To believe, for sessions.
-- What is printed for a text of edits: a line for each of those that ask for modes, with the modes of an exact
-- certificate of the program as it stands then.
--
-- To believe: all of this file, and what makes a certificate valid and exact.
use Rattle.std.specs.Prelude.{◌≡◌, ℕ, List, [], ◌∷◌, ◌++◌, Ok}
use Rattle.certificate.specs.declared.fact.Fact.{Fact}
use Rattle.certificate.specs.declared.fact.Fact.TheVariants.{Terminates}
use Rattle.certificate.specs.Text.{fact_text}
use Rattle.cert_checker.specs.Bounding.{ModesAreBounded}
use Rattle.cert_checker.specs.Valid.{IsValid}
use Rattle.cert_structure.specs.Order.{pred_text}
use Rattle.clause_normal.specs.Definite.{program_of}
use Rattle.linear_rows.specs.Members.{In}
use Rattle.prolog_terms.specs.Clauses.{Clause}
use Rattle.report.specs.Exact.{IsExact}
use Rattle.report.specs.OfNorm.{IsOfNorm}
use Rattle.term_size.specs.declared.any_norm.NormName.TheVariants as norm
use Rattle.edit_texts.specs.Edits.{Told, outcome}

-- the line tells the modes of a predicate by a certificate of the program, one of term size that is valid and exact
pub record IsLine (names : List (List ℕ)) (told : Told) (line : List ℕ) : Type 0 where
  pub facts : List Fact
  pub valid : IsValid (program_of names told.0) names facts
  pub exact : IsExact (program_of names told.0) names facts
  pub bounded : ModesAreBounded (program_of names told.0) names facts
  pub of_term_size : IsOfNorm norm.Term facts
  pub modes : List (List ℕ)
  pub among : In (Terminates (pred_text (program_of names told.0) names told.1) modes) facts
  pub is : line ≡ fact_text (Terminates (pred_text (program_of names told.0) names told.1) modes)

-- the text is a line for each that is told, in order
abbrev pub AreLines : List (List ℕ) → List Told → List ℕ → Type 0
AreLines names [] text = text ≡ []
AreLines names (t ∷ ts) text = (line : List ℕ) × (rest : List ℕ) × (text ≡ line ++ rest) × IsLine names t line × AreLines names ts rest

-- all edits of a text can be done, from no clauses on, and this is what is printed
pub record IsPlayed (names : List (List ℕ)) (edits : List Clause) (text : List ℕ) : Type 0 where
  pub told : List Told
  pub done : outcome names [] edits ≡ Ok told
  pub lines : AreLines names told text
