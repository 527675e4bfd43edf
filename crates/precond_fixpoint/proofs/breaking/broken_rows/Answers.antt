use Rattle.truth_rows.proofs.HeadLaws.{placed_truths, truths_of_placed}
use Rattle.precond_fixpoint.proofs.Depending.{breaks_agree}
use Rattle.precond_fixpoint.proofs.breaking.broken_rows.Goals as goal

pub returns-clause-rows : goal.returns-clause-rows
returns-clause-rows g c = λ row.
    let size = g.N.Norm.size c.args.norm.now in
    let truth = g.N.Norm.truth c.args.norm.now in
    let expression = g.N.Norm.expression c.args.norm.now in
    let laws = g.met.N.Norm.laws c.args.norm.now in
    let k = c.args.rule.now.clause.now in
    let ready = c.requires.grounds_ready in (
      λ t.
          let s = c.in_ok-rows.ensures.some row t in
          let b = c.in_ok-values.ensures.some s.0 s.2 in
          (b.0, b.2, truths_of_placed truth b.0 s.0 row k.head.args b.3 b.1 s.1 s.3),
      λ s. c.in_ok-rows.ensures.all s.0 row
          (λ w agree at. c.in_ok-values.ensures.all w
          (breaks_agree size truth expression laws c.args.table.now c.args.rule.now.ranks.now c.args.rule.now.grounds.now c.args.rule.now.pre.now c.args.rule.now.allowed.now k ready s.0 w agree s.1)
          (placed_truths size truth expression laws k.vars k.head.args ready.head.below s.0 row w agree at s.2))
          s.2,
    )
