-- Private.
-- What a fault of a text is. Nothing here has to be believed.
use Rattle.std.specs.Prelude.{ℕ, ◌≤◌, List, length, min}
use Rattle.cti_top.specs.declared.source.SourceFault.{SourceFault}
use Rattle.cti_top.specs.declared.source.SourceFault.TheVariants as source
use Rattle.prolog_reader.specs.declared.fault.ReadFault.{ReadFault}
use Rattle.prolog_reader.specs.declared.fault.ReadFault.TheVariants as reading
use Rattle.clause_normal.specs.declared.fault.NormFault.{NormFault}
use Rattle.clause_normal.specs.declared.fault.NormFault.TheVariants as normal
use Rattle.cti_top.specs.Refusal.{read_number, normal_number}
use Rattle.edit_texts.specs.declared.edits_fault.EditsFault.{EditsFault}
use Rattle.edit_texts.specs.declared.edits_fault.EditsFault.TheVariants as edits
use Rattle.cti_top.specs.Programs.{IsRefused}
use Rattle.cti_top.specs.Sessions.{IsRefusedSession, edit_number}
use Rattle.cti_top.specs.Queries.{Known, IsQueryRefused}

-- the bytes of a program are refused so; out of memory says nothing
abbrev pub IsProgramFault : List ℕ → SourceFault → Type 0
IsProgramFault bytes (source.Refused kind at) = IsRefused bytes kind at
IsProgramFault bytes source.Memory = Unit {0}

-- the query is refused so, and its place is no further on than a short text
abbrev pub IsQueryFault : Known → List ℕ → SourceFault → Type 0
IsQueryFault known query (source.Refused kind at) = IsQueryRefused known query kind at × (min at (length query) ≤ 1048576)
IsQueryFault known query source.Memory = Unit {0}

-- the bytes of a text of edits are refused so
abbrev pub IsSessionFault : List ℕ → SourceFault → Type 0
IsSessionFault bytes (source.Refused kind at) = IsRefusedSession bytes kind at
IsSessionFault bytes source.Memory = Unit {0}

abbrev pub read_fault : ReadFault → SourceFault
read_fault (reading.Fault kind at) = source.Refused (read_number kind) at
read_fault reading.Memory = source.Memory

abbrev pub normal_fault : NormFault → SourceFault
normal_fault (normal.Fault kind at) = source.Refused (normal_number kind) at
normal_fault normal.Memory = source.Memory

abbrev pub edits_fault : EditsFault → SourceFault
edits_fault (edits.Refused kind at) = source.Refused (edit_number kind) at
edits_fault edits.Memory = source.Memory
