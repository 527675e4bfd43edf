use Rattle.truth_rows.proofs.HeadLaws.{placed_truths, truths_of_placed}
use Rattle.truth_rows.proofs.clause_rows.rows_of_clause.Goals as goal

pub returns-clause-all : goal.returns-clause-all
returns-clause-all g c = λ v row like truths.
    let k = c.args.clause.now in
    c.in_ok-rows.ensures.all v row
    (λ w agree at. c.in_ok-bound.ensures.all w (like w agree)
    (placed_truths (g.N.Norm.size c.args.norm.now) (g.N.Norm.truth c.args.norm.now) (g.N.Norm.expression c.args.norm.now) (g.met.N.Norm.laws c.args.norm.now) k.vars k.head.args c.requires.head.below v row w agree at truths))
    truths

pub returns-clause-some : goal.returns-clause-some
returns-clause-some g c = λ row t.
    let s = c.in_ok-rows.ensures.some row t in
    let b = c.in_ok-bound.ensures.some s.0 s.2 in
    (b.0, b.2, truths_of_placed (g.N.Norm.truth c.args.norm.now) b.0 s.0 row c.args.clause.now.head.args b.3 b.1 s.1 s.3)
