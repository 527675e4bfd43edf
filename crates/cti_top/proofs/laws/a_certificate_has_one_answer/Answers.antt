use Rattle.cti_top.proofs.OneCertificate.{certificate_once, line_once, certificate_or_refused, neither_long}
use Rattle.cti_top.proofs.laws.a_certificate_has_one_answer.Goals as goal

pub returns : goal.returns
returns c = record { certificate = certificate_once; refused = line_once; apart = certificate_or_refused; long = neither_long }
