use Rattle.std.proofs.Common.{arith}
use Rattle.number_tests.specs.Failing.{second}
use Rattle.number_tests.proofs.point_flaws.pair_flaw.Goals as goal

pub returns-clause-first : goal.returns-clause-first
returns-clause-first c = second c.in-Some-at.second c.in-Some-at.is (c.rows_flaw.ensures.holds.0 c.in_default.is) (omega (arith, c.saturating_add.ensures)) c.in_ok-flaw.ensures.fails
