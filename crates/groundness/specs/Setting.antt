-- Private.
-- What a search for ground rows reads. Nothing here has to be believed.
use Rattle.call_components.specs.Partition.{AreComponents}
use Rattle.cti_terms.specs.Listing.{IsProgram}
use Rattle.groundness.specs.Marks.{AreHeads, AreUsers}
use Rattle.groundness.specs.declared.setting.Setting.{Setting}

-- a program with its components, and the clauses of its predicates
pub record IsSetting {N : Type 0} (s : Setting N) : Type 0 where
  pub program : IsProgram s.program.now
  pub components : AreComponents s.program.now s.comps.now
  pub heads : AreHeads s.program.now s.heads.now
  pub users : AreUsers s.program.now s.users.now
