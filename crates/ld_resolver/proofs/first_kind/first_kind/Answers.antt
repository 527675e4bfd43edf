use Rattle.ld_resolver.proofs.FirstKindLaws.{kind_of_first}
use Rattle.ld_resolver.proofs.first_kind.first_kind.Goals as goal

pub returns-in-Some : goal.returns-in-Some
returns-in-Some c = kind_of_first c.as_slice.result.now c.args.atom.now.args c.in-Some.term.now c.kind_of.result c.as_slice.ensures c.in-Some.ensures.value c.kind_of.ensures
