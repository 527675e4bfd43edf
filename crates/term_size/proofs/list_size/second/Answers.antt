use Rattle.std.proofs.Common.{arith, sym}
use Rattle.term_size.proofs.ListLaws.{second_not}
use Rattle.term_size.proofs.list_size.second.Goals as goal

pub returns-then-args-ne2 : goal.returns-then-args-ne2
returns-then-args-ne2 c = sym (second_not c.args.args.now (λ e. omega (arith, e)))
