use Rattle.cert_structure.proofs.FaultLemmas.{fault_moved}
use Rattle.cert_structure.proofs.reading.one_structure_fault.Goals as goal

pub returns : goal.returns
returns c p names one other facts line why h k is = fault_moved p one other h k names facts line why is
