use Rattle.std.proofs.Common.{ap}
use Rattle.certificate.proofs.TextLemmas.{one_text}
use Rattle.certificate.proofs.certificate.one_text.Goals as goal

pub returns : goal.returns
returns g c d h k e = ap (λ facts. record { facts = facts }) (one_text c.facts d.facts h k e)
