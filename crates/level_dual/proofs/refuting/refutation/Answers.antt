use Rattle.std.proofs.Common.{refl}
use Rattle.termination_model.specs.sizes.Sizes.{rows_of}
use Rattle.level_dual.proofs.FullSet.{full_blown}
use Rattle.level_dual.proofs.Results.{if_ok}
use Rattle.level_dual.proofs.refuting.refutation.Goals as goal

pub returns-clause-given_up : goal.returns-clause-given_up
returns-clause-given_up g c =
    let e = g.N.Norm.expression c.args.norm.now in
    let size = g.N.Norm.size c.args.norm.now in
    let truth = g.N.Norm.truth c.args.norm.now in
    let p = c.args.p.now in
    let rows = rows_of c.args.sizes.now.rows in
    let x = c.args.component.now in
    if_ok c.refutation_by-2.result (λ o refused. λ none comps r h no. full_blown size truth e p comps rows r x h no (refused none comps r h)) (c.refutation_by-2.ensures.given_up refl)
