use Rattle.std.proofs.Common.{◌≡◌, ◌↔◌, ◌-◌, IsTrue, slice_get, Some, subst}
use Rattle.cti_terms.specs.declared.clauses.Clause.{Clause}
use Rattle.termination_model.specs.grounds.Grounds.{IsClosedUnder}
use Rattle.truth_rows.specs.Sets.{family_of}
use Rattle.truth_rows.proofs.AtomLaws.{closed_is}
use Rattle.truth_rows.proofs.SetLaws.{ready}
use Rattle.truth_rows.proofs.RowLaws.{if_ok_then}
use Rattle.truth_rows.proofs.closedness.is_closed_under.Goals as goal

pub head_follows-requires : goal.head_follows-requires
head_follows-requires g c = ready c.args.p.now c.clauses-count.ensures.sound c.args.table.now c.args.sets.now c.requires.sets c.clause.result.now c.clause.ensures.sound

pub returns-clause-closed : goal.returns-clause-closed
returns-clause-closed g c =
    let truth = g.N.Norm.truth c.args.norm.now in
    let f = c.clause.ensures.there in
    let e = closed_is truth c.args.p.now c.args.table.now c.args.sets.now c.requires.sets c.clauses-count.ensures.sound c.clause.result.now c.clause.ensures.sound in
    if_ok_then {Q = λ closed. (k : Clause) → slice_get c.args.p.now.clauses (c.args.k - 1) ≡ Some k → IsTrue closed ↔ IsClosedUnder (g.N.Norm.truth c.args.norm.now) (family_of c.args.p.now.preds c.args.table.now c.args.sets.now) k} _ c.head_follows.ensures.follows
    (λ x h k at.
    let is : c.clause.result.now ≡ k = cc in
    subst (λ (y : Clause). IsTrue x ↔ IsClosedUnder (g.N.Norm.truth c.args.norm.now) (family_of c.args.p.now.preds c.args.table.now c.args.sets.now) y) is (λ t. e.0 (h.0 t), λ q. h.1 (e.1 q)))
