use Rattle.number_tests.proofs.Sized.{sized_clause}
use Rattle.number_tests.proofs.reaching.resume.Goals as goal

pub first_system-requires : goal.first_system-requires
first_system-requires g c = sized_clause c.args.p.now.preds c.args.sizes.now c.clause.result.now c.requires.sizes c.clause.ensures.sound
