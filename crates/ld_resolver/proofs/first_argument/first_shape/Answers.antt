use Rattle.ld_resolver.proofs.FirstArgumentLaws.{has_first}
use Rattle.ld_resolver.proofs.first_argument.first_shape.Goals as goal

pub returns : goal.returns
returns c = has_first c.args.bindings.now c.args.atom.now c.args.base c.as_slice.result.now c.in_ok-term.term.now c.met.result c.as_slice.ensures c.in_ok-term.ensures.value c.met.ensures.same c.met.ensures.met
