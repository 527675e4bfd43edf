use Rattle.truth_rows.proofs.ClauseLaws.{atoms_agree}
use Rattle.groundness.proofs.clause_rows.clause_rows.Goals as goal

pub returns-clause-rows : goal.returns-clause-rows
returns-clause-rows g c = λ row.
    let truth = g.N.Norm.truth c.args.norm.now in
    let k = c.args.clause.now in (
      λ t. let s = c.in_ok-rows.ensures.some row t in (s.0, s.1, s.2),
      λ s. c.in_ok-rows.ensures.all s.0 row
          (λ w agree. atoms_agree (g.N.Norm.size c.args.norm.now) truth (g.N.Norm.expression c.args.norm.now) (g.met.N.Norm.laws c.args.norm.now) c.args.table.now c.args.sets.now k c.requires s.0 w agree s.1)
          s.2,
    )
