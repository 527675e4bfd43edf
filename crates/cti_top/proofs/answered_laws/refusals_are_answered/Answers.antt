use Rattle.cti_top.proofs.OneCertificate.{neither_long}
use Rattle.cti_top.proofs.RefusedLemmas.{unloaded}
use Rattle.cti_top.proofs.UnfailedLemmas.{answered, refusal_answered, query_refusal_answered, certificate_refusal_answered, usage_answered}
use Rattle.cti_top.proofs.answered_laws.refusals_are_answered.Goals as goal

pub returns-clause-text : goal.returns-clause-text
returns-clause-text c told words status u ask bytes kind at asked has refused =
    refusal_answered told words status ask bytes kind at asked has refused (answered told words status u)

pub returns-clause-query : goal.returns-clause-query
returns-clause-query c told words status u ask query bytes kind at asked with_query has refused =
    query_refusal_answered told words status ask bytes kind at query asked with_query has refused (answered told words status u)

pub returns-clause-certificate : goal.returns-clause-certificate
returns-clause-certificate c told words status u name certificate certified line asked held r =
    certificate_refusal_answered told words status name certificate certified asked held r.none (answered told words status u)

pub returns-clause-long_certificate : goal.returns-clause-long_certificate
returns-clause-long_certificate c told words status u name certificate certified asked held long =
    certificate_refusal_answered told words status name certificate certified asked held (neither_long certified long).0 (answered told words status u)

pub returns-clause-usage : goal.returns-clause-usage
returns-clause-usage c told words status u none = usage_answered told words status none (answered told words status u)

pub returns-clause-unloaded : goal.returns-clause-unloaded
returns-clause-unloaded c told words ask bytes kind at before after asked has refused rose = unloaded told words ask bytes kind at before after asked has refused rose
