use Rattle.cti_terms.proofs.Texts.{texts_distinct}
use Rattle.cti_terms.proofs.naming.Names.count.Goals as goal

pub returns-clause-distinct : goal.returns-clause-distinct
returns-clause-distinct c = rw (← c.self.view_is) (texts_distinct c.self.inside.texts.keys c.len.ensures.unique)
