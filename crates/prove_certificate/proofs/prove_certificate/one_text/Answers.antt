use Rattle.std.proofs.Common.{ap}
use Rattle.prove_certificate.proofs.TextLemmas.{one_text}
use Rattle.prove_certificate.proofs.prove_certificate.one_text.Goals as goal
use Rattle.prove_certificate.specs.FactLaws.{fact_back, one_line}
use Rattle.prove_certificate.specs.Parse.{read_fact}
use Rattle.prove_certificate.specs.Range.{InRange}
use Rattle.prove_certificate.specs.Text.{fact_text}

pub returns : goal.returns
returns g c d h k e = ap (λ facts. record { facts = facts }) (one_text fact_text InRange read_fact one_line fact_back c.facts d.facts h k e)
