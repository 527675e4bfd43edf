use Rattle.term_size.proofs.RigidLaws.{natural, size_at}
use Rattle.term_size.proofs.laws.laws_of_sizes.Goals as goal

pub returns-clause-value : goal.returns-clause-value
returns-clause-value g c = λ vars s t h. (g.met.N.Norm.laws c.args.norm.now).value vars s t h

pub returns-clause-natural : goal.returns-clause-natural
returns-clause-natural g c = natural (g.N.Norm.size c.args.norm.now) (g.N.Norm.truth c.args.norm.now) (g.N.Norm.expression c.args.norm.now) (g.met.N.Norm.laws c.args.norm.now)

pub returns-clause-instances : goal.returns-clause-instances
returns-clause-instances g c = size_at (g.N.Norm.size c.args.norm.now) (g.N.Norm.truth c.args.norm.now) (g.N.Norm.expression c.args.norm.now) (g.met.N.Norm.laws c.args.norm.now)
