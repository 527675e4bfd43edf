-- Private.
-- The numbers of the statuses.
use Rattle.std.specs.Prelude.{ℕ}
use Rattle.cti_top.specs.declared.status.Status.{Status}
use Rattle.cti_top.specs.declared.status.Status.TheVariants.{Done, No, Usage, Refused, FileFault, OutFault, Memory, Stopped, Overflow}

-- the number with which the process ends
abbrev pub number_of : Status → ℕ
number_of Done = 0
number_of No = 1
number_of Usage = 2
number_of Refused = 3
number_of FileFault = 4
number_of OutFault = 5
number_of Memory = 6
number_of Stopped = 7
number_of Overflow = 8
