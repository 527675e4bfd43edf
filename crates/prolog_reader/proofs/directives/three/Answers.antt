use Rattle.prolog_terms.specs.Terms.{tree_of}
use Rattle.prolog_reader.proofs.DirectiveLemmas.{three_items}
use Rattle.prolog_reader.proofs.directives.three.Goals as goal

pub returns-then-terms-eq3-clause-found : goal.returns-then-terms-eq3-clause-found
returns-then-terms-eq3-clause-found c = three_items tree_of c.args.terms.now c.index-terms-0.result c.index-terms-1.result c.index-terms-2.result c.if-terms-eq3.true c.index-terms-0.is c.index-terms-1.is c.index-terms-2.is
