use Rattle.size_chains.proofs.NormLaws.{norms_are_systems}
use Rattle.size_chains.proofs.norms.NormSystemsClauseSystems.program.Goals as goal

pub returns-clause-lawful : goal.returns-clause-lawful
returns-clause-lawful g c =
    let n = c.args.self.now.norm.now in
    norms_are_systems (g.N.Norm.size n) (g.N.Norm.truth n) (g.N.Norm.expression n) (g.met.N.Norm.laws n) c.args.self.now.program.now c.clauses-program.ensures.sound
