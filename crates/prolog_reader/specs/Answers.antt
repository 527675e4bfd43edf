-- Private.
-- What the calls of the reader answer.
--
-- To believe: all of this file.
use Rattle.std.specs.Prelude.{◌≡◌, ℕ, List, Result, Ok, Err}
use Rattle.prolog_reader.specs.declared.fault.ReadFault.{ReadFault}
use Rattle.prolog_reader.specs.declared.fault.ReadFault.TheVariants.{Fault as Refused, Memory}
use Rattle.prolog_reader.specs.declared.text.ReadText.{ReadText}
use Rattle.prolog_terms.specs.declared.clause.ReadClause.{ReadClause}
use Rattle.prolog_terms.specs.Clauses.{Clause}
use Rattle.prolog_terms.specs.Terms.{clause_of}
use Rattle.prolog_operators.specs.Meanings.{table_of}
use Rattle.prolog_operators.specs.Names.{Extends}
use Rattle.prolog_operators.specs.Table.{Table}
use Rattle.prolog_reader.specs.Reading.{Fault, Answer, IsTextAnswer, IsQueryAnswer}

-- it is the answer for the text, by these names and whatever names come later
abbrev pub AnswersText : List (List ℕ) → List ℕ → Answer → Type 0
AnswersText names text answer = (later : List (List ℕ)) → Extends names later → IsTextAnswer later text answer

abbrev pub AnswersQuery : List (List ℕ) → Table → List ℕ → Result Clause Fault → Type 0
AnswersQuery names table text answer = (later : List (List ℕ)) → Extends names later → IsQueryAnswer later table text answer

-- a refusal that is the answer; out of memory says nothing
abbrev pub RefusesText : List (List ℕ) → List ℕ → ReadFault → Type 0
RefusesText names text (Refused kind at) = AnswersText names text (Err (kind, at))
RefusesText names text Memory = Unit {0}

abbrev pub RefusesQuery : List (List ℕ) → Table → List ℕ → ReadFault → Type 0
RefusesQuery names table text (Refused kind at) = AnswersQuery names table text (Err (kind, at))
RefusesQuery names table text Memory = Unit {0}

-- a result says the answer, unless memory ran out
abbrev pub SaysText : Result ReadText ReadFault → Answer → Type 0
SaysText (Ok read) answer = answer ≡ Ok (read.clauses, table_of read.ops)
SaysText (Err (Refused kind at)) answer = answer ≡ Err (kind, at)
SaysText (Err Memory) answer = Unit {0}

abbrev pub SaysQuery : Result ReadClause ReadFault → Result Clause Fault → Type 0
SaysQuery (Ok clause) answer = answer ≡ Ok (clause_of clause)
SaysQuery (Err (Refused kind at)) answer = answer ≡ Err (kind, at)
SaysQuery (Err Memory) answer = Unit {0}
