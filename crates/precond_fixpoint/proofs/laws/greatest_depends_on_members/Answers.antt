use Rattle.precond_fixpoint.proofs.AllowedLaws.{greatest_depends_on_members}
use Rattle.precond_fixpoint.proofs.laws.greatest_depends_on_members.Goals as goal

pub returns : goal.returns
returns c = greatest_depends_on_members
