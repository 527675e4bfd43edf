use Rattle.std.proofs.Common.{◌++◌, take, ap, ◌∙◌}
use Rattle.std.proofs.lemmas.List.{append_assoc}
use Rattle.fact_reading.specs.Numbered.{facts_from}
use Rattle.cert_writing.proofs.WritingLemmas.{facts_next}
use Rattle.cert_writing.proofs.writer.write_each.Goals as goal

pub loop-number-preserved : goal.loop-number-preserved
loop-number-preserved g c =
    c.in_ok-write.ensures
    ∙ ap (λ z. z ++ g.W.Writer.facts c.args.writer.now c.loop-number.number c.index-items-number.result) c.loop-number.invariant
    ∙ append_assoc c.args.out.now (facts_from 0 (g.W.Writer.facts c.args.writer.now) (take c.loop-number.number c.args.items.now)) (g.W.Writer.facts c.args.writer.now c.loop-number.number c.index-items-number.result)
    ∙ ap (λ z. c.args.out.now ++ z) (facts_next (g.W.Writer.facts c.args.writer.now) c.loop-number.number c.args.items.now c.index-items-number.result c.index-items-number.result c.loop-number-test.true c.index-items-number.is)
