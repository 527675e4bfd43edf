-- Private.
-- Why a text of edits is refused.
--
-- To believe: all of this file.
use Rattle.clause_normal.specs.declared.fault.NormFault.{NormFault}
use Rattle.clause_normal.specs.declared.fault.NormFault.TheVariants as norm
use Rattle.edit_texts.specs.declared.edits_fault.EditKind.TheVariants as kind
use Rattle.edit_texts.specs.declared.edits_fault.EditsFault.{EditsFault}
use Rattle.edit_texts.specs.declared.edits_fault.EditsFault.TheVariants as fault
use Rattle.edit_texts.specs.Edits.{Refusal}

-- the fault of a clause that is to be added, as that of its edit
abbrev pub edits_fault : NormFault → EditsFault
edits_fault (norm.Fault k at) = fault.Refused (kind.Norm k) at
edits_fault norm.Memory = fault.Memory

-- what a refusal keeps; when memory ran out nothing is said
abbrev pub IfRefused : EditsFault → (Refusal → Type 0) → Type 0
IfRefused (fault.Refused k at) P = P (k, at)
IfRefused fault.Memory P = Unit {0}
