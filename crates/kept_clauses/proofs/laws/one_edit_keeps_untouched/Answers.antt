use Rattle.kept_clauses.proofs.AllKeptLaws.{one_edit_keeps_untouched}
use Rattle.kept_clauses.proofs.laws.one_edit_keeps_untouched.Goals as goal

pub returns : goal.returns
returns c = one_edit_keeps_untouched
