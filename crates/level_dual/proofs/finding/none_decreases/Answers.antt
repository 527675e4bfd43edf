use Rattle.std.proofs.Common.{[], Some, IfSome, sym, subst, ◌∙◌}
use Rattle.termination_model.specs.sizes.Sizes.{rows_of}
use Rattle.level_systems.specs.Found.{IsBlownSet, IsFound, IsRefutationOf}
use Rattle.level_dual.proofs.FoundCases.{refuted_found, wide_is}
use Rattle.level_dual.proofs.Results.{if_ok}
use Rattle.level_dual.proofs.WalkLaws.{full_in}
use Rattle.level_dual.proofs.finding.none_decreases.Goals as goal

pub returns-in-Some : goal.returns-in-Some
returns-in-Some g c = λ comps r h large none.
    let e = g.N.Norm.expression c.args.norm.now in
    let rows = rows_of c.args.sizes.now.rows in
    let is = subst (λ o. IfSome o (IsRefutationOf e c.args.p.now comps rows r)) c.in-Some.is (c.in_ok-refutation.ensures.refutes comps r h.members h.callers h.inside) in
    let found = refuted_found e c.args.p.now comps rows r c.args.large large none c.in-Some.refutation is in
    subst (λ ms. IsFound e c.args.p.now comps rows r (record { mappings = ms; refutation = Some c.in-Some.refutation; blown = c.new-in-Some.result; large = c.args.large })) (sym c.new.ensures)
    (subst (λ bs. IsFound e c.args.p.now comps rows r (record { mappings = []; refutation = Some c.in-Some.refutation; blown = bs; large = c.args.large })) (sym c.new-in-Some.ensures) found)

pub returns-in-None : goal.returns-in-None
returns-in-None g c =
    let e = g.N.Norm.expression c.args.norm.now in
    let size = g.N.Norm.size c.args.norm.now in
    let truth = g.N.Norm.truth c.args.norm.now in
    let p = c.args.p.now in
    let rows = rows_of c.args.sizes.now.rows in
    if_ok c.all_given_up.result (λ f is. λ comps r h large none.
    wide_is e p comps rows r c.args.large large none c.args.full (subst (IsBlownSet e p comps rows r) (sym c.requires.full) (c.in_ok-refutation.ensures.given_up c.in-None.is comps r h none)) (c.requires.full ∙ full_in size truth e p comps rows r c.args.component.now h) f is) c.all_given_up.ensures
