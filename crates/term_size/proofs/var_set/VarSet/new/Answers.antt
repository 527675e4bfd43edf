use Rattle.std.proofs.Common.{refl}
use Rattle.term_size.proofs.MemberLaws.{no_members}
use Rattle.term_size.proofs.var_set.VarSet.new.Goals as goal

pub returns : goal.returns
returns c = no_members _ refl
