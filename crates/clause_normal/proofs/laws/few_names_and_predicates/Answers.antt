use Rattle.clause_normal.proofs.SizeLemmas.{program_names_few, program_preds_few}
use Rattle.clause_normal.proofs.laws.few_names_and_predicates.Goals as goal

pub returns : goal.returns
returns c = record { names = program_names_few; preds = program_preds_few }
