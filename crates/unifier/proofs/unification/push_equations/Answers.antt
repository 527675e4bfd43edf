use Rattle.std.proofs.Common.{arith}
use Rattle.unifier.specs.Pending.{raw_equations}
use Rattle.unifier.proofs.PendingLaws.{pairs_ended}
use Rattle.unifier.proofs.unification.push_equations.Goals as goal

pub loop-i-init : goal.loop-i-init
loop-i-init c =
    record {
      left_within = omega (arith, c.min-i.ensures);
      right_within = omega (arith, c.min-i.ensures);
      pushed = pairs_ended c.min-i.result c.args.left_base c.args.right_base c.args.left.now c.args.right.now (raw_equations c.args.stack.now.items) c.min-i.ensures;
    }
