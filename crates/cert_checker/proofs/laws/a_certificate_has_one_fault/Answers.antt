use Rattle.cert_checker.proofs.OneFault.{never_two}
use Rattle.cert_checker.proofs.laws.a_certificate_has_one_fault.Goals as goal

pub returns : goal.returns
returns c = λ p names facts line other why because prog named distinct is also. never_two p names facts prog named distinct line other why because is also
