use Rattle.std.proofs.Common.{◌≡◌, ◌≢◌, ◌++◌, ◌∷◌, [], List, Contains, length, refl, ap, subst, ◌∙◌, arith}
use Rattle.std.proofs.lemmas.Map.Made.{AllPairs-from_IsDistinct}
use Rattle.std.specs.List.{AllPairs}
use Rattle.cti_terms.specs.declared.predicates.Pred.{Pred}
use Rattle.cti_terms.specs.Listing.{Listing, with_pred}
use Rattle.cti_terms.proofs.Wider.{pred_decides, pred_new, program_with_builtin}
use Rattle.cti_terms.proofs.listing.Program.add_builtin.Goals as goal

pub returns-in-Ok-clause-preds : goal.returns-in-Ok-clause-preds
returns-in-Ok-clause-preds c =
    let p : Pred = record { name = c.args.name; arity = 2 } in
    let inside : c.insert_full.new.self.keys ≡ with_pred c.self.inside.preds.keys p = c.in-Ok.ensures.keys in
    let same : with_pred c.self.inside.preds.keys p ≡ with_pred c.args.self.now.preds p = ap (λ (l : Listing). with_pred l.preds p) c.self.view_is in
    inside ∙ same ∙ pred_new c.args.self.now.preds p c.requires.new

pub invariant_of-self-in-Ok : goal.invariant_of-self-in-Ok
invariant_of-self-in-Ok c =
    let p : Pred = record { name = c.args.name; arity = 2 } in
    let n = ap (λ (l : Listing). length l.preds) c.self.view_is in
    let keys : c.insert_full.new.self.keys ≡ c.self.inside.preds.keys ++ p ∷ [] =
    c.in-Ok.ensures.keys ∙ pred_new c.self.inside.preds.keys p (λ there. c.requires.new (subst (λ (l : Listing). Contains l.preds p) c.self.view_is there)) in
    let distinct = subst (λ (ks : List Pred). AllPairs (λ q r. q ≢ r) ks) keys (AllPairs-from_IsDistinct pred_decides _ c.in-Ok.ensures.unique) in
    rw (keys, c.in_ok-push.ensures.items) (program_with_builtin c.self.inside.preds.keys p c.self.inside.clauses.items c.self.inside.builtins.items c.self.inside.arith _ c.args.kind c.self.invariant refl (omega (arith, c.len.ensures.len)) (omega (arith, c.requires.room, n)) distinct)
