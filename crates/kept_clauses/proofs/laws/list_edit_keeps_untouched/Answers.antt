use Rattle.kept_clauses.proofs.KeptProgramLaws.{list_edit_keeps_untouched}
use Rattle.kept_clauses.proofs.laws.list_edit_keeps_untouched.Goals as goal

pub returns : goal.returns
returns c = list_edit_keeps_untouched
