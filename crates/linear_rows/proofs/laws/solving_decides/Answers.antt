use Rattle.linear_rows.proofs.Founds.{found_holds}
use Rattle.linear_rows.proofs.Refutes.{refuted_refutes}
use Rattle.linear_rows.proofs.laws.solving_decides.Goals as goal

pub returns : goal.returns
returns c = record { found = found_holds; refuted = refuted_refutes }
