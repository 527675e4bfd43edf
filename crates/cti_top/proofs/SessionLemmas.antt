-- Why a text of edits is refused.
use Rattle.std.proofs.Common.{◌≡◌, ℕ, List, [], refl, Err}
use Rattle.edit_texts.specs.Edits.{Refusal, outcome}
use Rattle.edit_texts.specs.EditsFaults.{IfRefused}
use Rattle.edit_texts.specs.declared.edits_fault.EditsFault.{EditsFault}
use Rattle.edit_texts.specs.declared.edits_fault.EditsFault.TheVariants as edits
use Rattle.prolog_reader.specs.declared.fault.ReadFault.{ReadFault}
use Rattle.prolog_reader.specs.declared.fault.ReadFault.TheVariants as reading
use Rattle.prolog_reader.specs.Answers.{RefusesText}
use Rattle.prolog_reader.specs.Naming.{BeginNames, text_own}
use Rattle.prolog_reader.specs.Table.{Table}
use Rattle.prolog_terms.specs.Clauses.{Clause}
use Rattle.cti_top.specs.declared.source.SourceFault.{SourceFault}
use Rattle.cti_top.specs.Faults.{IsSessionFault, edits_fault, read_fault}
use Rattle.cti_top.specs.Programs.{ReadsAs}
use Rattle.cti_top.specs.Sessions.{session_names}
use Rattle.cti_top.specs.Sessions as sessions

-- a fault in reading refuses the text
pub not_read : (bytes : List ℕ) (names : List (List ℕ)) (fault : ReadFault) (r : SourceFault) → r ≡ read_fault fault → BeginNames text_own [] bytes names fault → RefusesText names bytes fault
    → IsSessionFault bytes r
not_read bytes names (reading.Fault kind at) r e b h = rw e (sessions.not_read b.all kind b.are (h b.all b.begin) refl)
not_read bytes names reading.Memory r e b h = rw e tt

-- and so does the first edit that is refused
pub not_done : (bytes : List ℕ) (read : List (List ℕ)) (clauses : List Clause) (table : Table) (fault : EditsFault) (r : SourceFault) → r ≡ edits_fault fault
    → ReadsAs bytes read clauses table → IfRefused fault (λ (q : Refusal). outcome (session_names read) [] clauses ≡ Err q) → IsSessionFault bytes r
not_done bytes read clauses table (edits.Refused kind at) r e reads h = rw e (sessions.not_done read clauses table kind reads h refl)
not_done bytes read clauses table edits.Memory r e reads h = rw e tt
