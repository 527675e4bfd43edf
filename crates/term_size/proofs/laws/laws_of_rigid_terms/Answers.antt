use Rattle.term_size.proofs.RigidLaws.{rigid_at, fixed}
use Rattle.term_size.proofs.laws.laws_of_rigid_terms.Goals as goal

pub returns-clause-instances : goal.returns-clause-instances
returns-clause-instances g c = rigid_at (g.N.Norm.size c.args.norm.now) (g.N.Norm.truth c.args.norm.now) (g.N.Norm.expression c.args.norm.now) (g.met.N.Norm.laws c.args.norm.now)

pub returns-clause-fixed : goal.returns-clause-fixed
returns-clause-fixed g c = fixed (g.N.Norm.size c.args.norm.now) (g.N.Norm.truth c.args.norm.now) (g.N.Norm.expression c.args.norm.now) (g.met.N.Norm.laws c.args.norm.now)
