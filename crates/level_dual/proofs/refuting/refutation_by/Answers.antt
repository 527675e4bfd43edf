use Rattle.std.proofs.Common.{map, pos, ap, ◌∙◌}
use Rattle.call_components.specs.Numbers.{number_of}
use Rattle.termination_model.specs.sizes.Sizes.{rows_of}
use Rattle.level_dual.proofs.AcceptedPoints.{points_accepted, spelled_accepted}
use Rattle.level_systems.proofs.HeldCalls.{all_recall, re}
use Rattle.level_dual.proofs.RefuteLaws.{are_pairs, refutation_if}
use Rattle.level_dual.proofs.Results.{if_ok}
use Rattle.level_dual.proofs.refuting.refutation_by.Goals as goal

pub accepted-requires-clause-pairs : goal.accepted-requires-clause-pairs
accepted-requires-clause-pairs g c =
    are_pairs (g.N.Norm.expression c.args.norm.now) c.args.p.now (rows_of c.args.sizes.now.rows) c.args.component.now.calls.items c.requires.held c.in-Some.points (rw c.in-Some.is at c.in_ok-points.ensures.mine)

pub returns-clause-refutes : goal.returns-clause-refutes
returns-clause-refutes g c = if_ok c.accepted.result (λ o given. λ comps r members callers callees.
    let e = g.N.Norm.expression c.args.norm.now in
    let mine = rw c.in-Some.is at c.in_ok-points.ensures.mine in
    refutation_if e c.args.p.now comps (rows_of c.args.sizes.now.rows) r c.args.component.now.calls.items c.requires.held callers callees c.in-Some.points mine o
    (rw (ap (map number_of) c.as_slice.ensures.value ∙ members) at given)) c.accepted.ensures.some

pub returns-in_default-clause-given_up : goal.returns-in_default-clause-given_up
returns-in_default-clause-given_up g c = λ alone none comps r h fit.
    let p = c.args.p.now in
    let size = g.N.Norm.size c.args.norm.now in
    let truth = g.N.Norm.truth c.args.norm.now in
    let e = g.N.Norm.expression c.args.norm.now in
    let rows = rows_of c.args.sizes.now.rows in
    let x = c.args.component.now in
    let refute = rw c.in_default.is at (c.in_ok-points.ensures.exact alone e (re e p comps rows r) (all_recall e p comps rows r x.calls.items h.held)) in
    refute (map pos fit.numbers) fit.refuted (spelled_accepted size truth e p comps rows r x h fit)

pub returns-clause-given_up : goal.returns-clause-given_up
returns-clause-given_up g c = λ alone. if_ok c.accepted.result (λ o fails. λ none comps r h fit.
    let p = c.args.p.now in
    let size = g.N.Norm.size c.args.norm.now in
    let truth = g.N.Norm.truth c.args.norm.now in
    let e = g.N.Norm.expression c.args.norm.now in
    let rows = rows_of c.args.sizes.now.rows in
    let x = c.args.component.now in
    let given = rw c.in-Some.is at (c.in_ok-points.ensures.exact alone e (re e p comps rows r) (all_recall e p comps rows r x.calls.items h.held)) in
    (rw (ap (map number_of) c.as_slice.ensures.value ∙ h.members) at (fails none)) (points_accepted size truth e p comps rows r x h fit c.in-Some.points given)) c.accepted.ensures.none
