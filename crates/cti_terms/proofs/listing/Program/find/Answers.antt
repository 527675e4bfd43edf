use Rattle.std.proofs.Common.{is_some, ap}
use Rattle.cti_terms.specs.declared.predicates.Pred.{Pred}
use Rattle.cti_terms.proofs.Wider.{pred_found, pred_there, pred_absent}
use Rattle.cti_terms.proofs.listing.Program.find.Goals as goal

pub returns-in_err-i-clause-absent : goal.returns-in_err-i-clause-absent
returns-in_err-i-clause-absent c =
    let p : Pred = record { name = c.args.name; arity = c.args.arity } in
    (λ e. rw (← c.self.view_is) (pred_absent c.self.inside.preds.keys p c.in_err-i.ensures), λ n. ap is_some c.from_residual.ensures)

pub returns-clause-found : goal.returns-clause-found
returns-clause-found c =
    let p : Pred = record { name = c.args.name; arity = c.args.arity } in
    rw (← c.self.view_is) (pred_found c.self.inside.preds.keys p _ c.in_ok-i.ensures)

pub returns-clause-absent : goal.returns-clause-absent
returns-clause-absent c =
    let p : Pred = record { name = c.args.name; arity = c.args.arity } in
    (λ e. cc, λ n. absurd (n (pred_there c.args.self.now.preds p c.in_ok-i.i (returns-clause-found c))))
