-- To believe, for sessions.
-- What the edits of a text tell, or why the text is refused.
--
-- A text of edits is read as the text of a program is, and its names get those of arithmetic operations besides. So its
-- outcome is a function of the bytes.
--
-- To believe: all of this file, and below it `ReadsAs` of Programs.antt, `AreNamesOf` and `IsTextAnswer` of
-- prolog_reader, `outcome` and `AreLines` of edit_texts.
use Rattle.std.specs.Prelude.{◌≡◌, ℕ, List, [], Ok, Err}
use Rattle.clause_normal.specs.Numbering.{operation_texts}
use Rattle.edit_texts.specs.Edits.{Told, outcome}
use Rattle.edit_texts.specs.Told.{AreLines}
use Rattle.edit_texts.specs.declared.edits_fault.EditKind.{EditKind}
use Rattle.edit_texts.specs.declared.edits_fault.EditKind.TheVariants as edit
use Rattle.prolog_reader.specs.Naming.{AreNamesOf, text_own, with_names}
use Rattle.prolog_reader.specs.Reading.{IsTextAnswer}
use Rattle.prolog_reader.specs.Table.{Table}
use Rattle.prolog_reader.specs.declared.fault.ReadKind.{ReadKind}
use Rattle.prolog_terms.specs.Clauses.{Clause}
use Rattle.cti_top.specs.Programs.{IsRefused, ReadsAs}
use Rattle.cti_top.specs.Refusal.{normal_number, read_number}
use Rattle.command_words.specs.Words.{Ask, session}

-- the number of the kind of an edit's refusal
abbrev pub edit_number : EditKind → ℕ
edit_number (edit.Norm kind) = normal_number kind
edit_number edit.BadEdit = 18

-- the names of a text of edits, from those that it is read with
abbrev pub session_names : List (List ℕ) → List (List ℕ)
session_names read = with_names read operation_texts

-- all edits of the bytes can be done, and this is what they tell, by these names
pub record IsToldBy (bytes : List ℕ) (names : List (List ℕ)) (told : List Told) : Type 0 where
  pub read : List (List ℕ)
  pub clauses : List Clause
  pub table : Table
  pub reads : ReadsAs bytes read clauses table
  pub named : names ≡ session_names read
  pub done : outcome names [] clauses ≡ Ok told

-- the text is what is printed for the edits of these bytes
pub record IsSessionOf (bytes text : List ℕ) : Type 0 where
  pub names : List (List ℕ)
  pub told : List Told
  pub is : IsToldBy bytes names told
  pub lines : AreLines names told text

-- the bytes are refused for a fault of this kind at this byte: they are not read, or an edit is refused
pub data IsRefusedSession (bytes : List ℕ) (kind at : ℕ) : Type 0 where
  not_read : (names : List (List ℕ)) (k : ReadKind) → AreNamesOf text_own [] bytes names → IsTextAnswer names bytes (Err (k, at)) → kind ≡ read_number k
      → IsRefusedSession bytes kind at
  not_done : (read : List (List ℕ)) (clauses : List Clause) (table : Table) (k : EditKind) → ReadsAs bytes read clauses table
      → outcome (session_names read) [] clauses ≡ Err (k, at) → kind ≡ edit_number k → IsRefusedSession bytes kind at

-- the text of what is asked is refused: as one of edits for a session, and else as one of a program
abbrev pub IsRefusedFor : Ask → List ℕ → ℕ → ℕ → Type 0
IsRefusedFor (session name) bytes kind at = IsRefusedSession bytes kind at
IsRefusedFor ask bytes kind at = IsRefused bytes kind at
