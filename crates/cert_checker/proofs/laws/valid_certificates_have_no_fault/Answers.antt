use Rattle.cert_checker.proofs.NoFaultLaws.{valid_exactly}
use Rattle.cert_checker.proofs.laws.valid_certificates_have_no_fault.Goals as goal

pub returns : goal.returns
returns c p names facts comps prog named distinct are = valid_exactly p names facts prog named distinct comps are
