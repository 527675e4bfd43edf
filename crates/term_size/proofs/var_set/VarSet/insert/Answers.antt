use Rattle.std.proofs.Common.{refl}
use Rattle.term_size.proofs.MemberLaws.{inserted}
use Rattle.term_size.proofs.var_set.VarSet.insert.Goals as goal

pub returns : goal.returns
returns c = λ x. inserted _ _ c.args.variable x c.requires refl
