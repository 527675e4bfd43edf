use Rattle.cert_checker.proofs.Claims.{falls, ranked, sizes}
use Rattle.cert_checker.proofs.laws.numbers_show_claims.Goals as goal

pub returns-clause-ranked : goal.returns-clause-ranked
returns-clause-ranked c = ranked

pub returns-clause-sizes : goal.returns-clause-sizes
returns-clause-sizes c = sizes

pub returns-clause-falls : goal.returns-clause-falls
returns-clause-falls c = falls
