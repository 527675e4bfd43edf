use Rattle.term_size.proofs.CountLaws.{one_more, one_less, up_to_all}
use Rattle.term_size.proofs.counting.Counts.occurring.Goals.{then-self-x-gt0, else-self-x-gt0}
use Rattle.term_size.proofs.counting.Counts.occurring.Goals as goal

pub loop-x-preserved : goal.loop-x-preserved
loop-x-preserved c = elim c.if-self-x-gt0.branch [
  | then-self-x-gt0 w ↦ one_more c.loop-x.set w.insert.new.self c.if-self-x-gt0.set c.loop-x.x c.args.self.now.variables c.loop-x.invariant w.insert.ensures w.set-is w.if-self-x-gt0.true
  | else-self-x-gt0 w ↦ one_less c.loop-x.set c.if-self-x-gt0.set c.loop-x.x c.args.self.now.variables c.loop-x.invariant w.set-is w.if-self-x-gt0.false
]

pub returns : goal.returns
returns c = up_to_all c.loop-x.set c.loop-x.x c.args.vars c.args.self.now.variables c.loop-x.invariant c.loop-x.auto.x-end c.loop-x-test.false
