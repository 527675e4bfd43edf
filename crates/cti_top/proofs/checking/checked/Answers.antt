use Rattle.cti_top.proofs.CheckLemmas.{verdict_on}
use Rattle.cti_top.proofs.checking.checked.Goals as goal

pub returns : goal.returns
returns c =
    let s = c.args.source.now in
    let h = c.in_ok-verdict.ensures in
    verdict_on s.program s.names c.args.certificate.now.facts c.in_ok-verdict.verdict c.status_of.result c.in_ok-verdict_text.field-0.items h.yes h.bounded h.excluded h.fault
    c.status_of.ensures c.in_ok-verdict_text.ensures
