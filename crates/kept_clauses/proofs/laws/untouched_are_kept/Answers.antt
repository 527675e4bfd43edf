use Rattle.kept_clauses.proofs.AllKeptLaws.{untouched_are_kept}
use Rattle.kept_clauses.proofs.laws.untouched_are_kept.Goals as goal

pub returns : goal.returns
returns c = untouched_are_kept
