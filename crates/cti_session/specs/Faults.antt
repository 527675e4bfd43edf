-- Private.
-- Why a clause is not added.
--
-- To believe: all of this file.
use Rattle.clause_normal.specs.declared.fault.NormFault.{NormFault}
use Rattle.clause_normal.specs.declared.fault.NormFault.TheVariants as norm
use Rattle.clause_normal.specs.NormalForm.{Fault}
use Rattle.cti_session.specs.declared.edit.EditFault.{EditFault}
use Rattle.cti_session.specs.declared.edit.EditFault.TheVariants as edit

-- the fault of a clause, as that of an edit
abbrev pub edit_fault : NormFault → EditFault
edit_fault (norm.Fault kind at) = edit.Norm kind at
edit_fault norm.Memory = edit.Memory

-- what a fault of the clause keeps; when memory ran out nothing is said
abbrev pub IfNorm : EditFault → (Fault → Type 0) → Type 0
IfNorm (edit.Norm kind at) P = P (kind, at)
IfNorm edit.Memory P = Unit {0}
