use Rattle.std.proofs.Common.{nat_eq}
use Rattle.prolog_reader.proofs.NameLemmas.{found_place, no_place}
use Rattle.clause_variables.proofs.copying.place_in.Goals as goal

pub returns-in-Some : goal.returns-in-Some
returns-in-Some c = (found_place (nat_eq c.args.x) c.args.order.now c.in-Some.place c.in-Some.ensures).0

pub returns-in-None : goal.returns-in-None
returns-in-None c = (no_place (nat_eq c.args.x) c.args.order.now c.in-None.ensures).0
