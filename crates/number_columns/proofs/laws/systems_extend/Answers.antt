use Rattle.number_columns.proofs.SystemLaws.{system_append}
use Rattle.number_columns.proofs.laws.systems_extend.Goals as goal

pub returns : goal.returns
returns c = λ k vars xs ys. system_append k vars xs ys
