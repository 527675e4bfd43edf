use Rattle.prolog_terms.specs.Terms.{tree_of}
use Rattle.prolog_reader.proofs.DirectiveLemmas.{one_item}
use Rattle.prolog_reader.proofs.directives.one.Goals as goal

pub returns-then-terms-eq1-clause-found : goal.returns-then-terms-eq1-clause-found
returns-then-terms-eq1-clause-found c = one_item tree_of c.args.terms.now c.index-terms-0.result c.if-terms-eq1.true c.index-terms-0.is
