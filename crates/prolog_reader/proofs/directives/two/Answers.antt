use Rattle.prolog_terms.specs.Terms.{tree_of}
use Rattle.prolog_reader.proofs.DirectiveLemmas.{two_items}
use Rattle.prolog_reader.proofs.directives.two.Goals as goal

pub returns-then-terms-eq2-clause-found : goal.returns-then-terms-eq2-clause-found
returns-then-terms-eq2-clause-found c = two_items tree_of c.args.terms.now c.index-terms-0.result c.index-terms-1.result c.if-terms-eq2.true c.index-terms-0.is c.index-terms-1.is
