use Rattle.std.proofs.Common.{arith}
use Rattle.std.proofs.lemmas.Bool.Decides.{nat_tests}
use Rattle.term_size.proofs.MemberLaws.{tested, not_tested}
use Rattle.term_size.proofs.var_set.VarSet.contains.Goals as goal

pub returns-then-variable-lt-SET_VARIABLES : goal.returns-then-variable-lt-SET_VARIABLES
returns-then-variable-lt-SET_VARIABLES c = tested c.args.self c.args.variable (grind (arith, nat_tests))

pub returns-else-variable-lt-SET_VARIABLES : goal.returns-else-variable-lt-SET_VARIABLES
returns-else-variable-lt-SET_VARIABLES c = not_tested c.args.self c.args.variable (grind (arith, nat_tests))
