use Rattle.std.proofs.Common.{◌≡◌, ◌≢◌, List, length, ap, subst, arith}
use Rattle.std.proofs.lemmas.Map.Made.{AllPairs-from_IsDistinct}
use Rattle.std.specs.List.{AllPairs}
use Rattle.cti_terms.specs.declared.predicates.Pred.{Pred}
use Rattle.cti_terms.specs.Listing.{Listing, with_pred}
use Rattle.cti_terms.proofs.Wider.{pred_decides, program_still, preds_stay}
use Rattle.cti_terms.proofs.listing.Program.add_pred.Goals as goal

pub invariant_of-self-2 : goal.invariant_of-self-2
invariant_of-self-2 c =
    let p : Pred = record { name = c.args.name; arity = c.args.arity } in
    let n = ap (λ (l : Listing). length l.preds) c.self.view_is in
    let keys : c.insert_full.new.self.keys ≡ with_pred c.self.inside.preds.keys p = c.in_ok-i.ensures.keys in
    let distinct = subst (λ (ks : List Pred). AllPairs (λ q r. q ≢ r) ks) keys (AllPairs-from_IsDistinct pred_decides _ c.in_ok-i.ensures.unique) in
    rw keys (program_still c.self.inside.preds.keys p c.self.inside.clauses.items (record { names = c.self.inside.arith; builtins = c.self.inside.builtins.items }) c.self.invariant c.requires.small (omega (arith, c.requires.room, n)) distinct)

pub returns-clause-kept : goal.returns-clause-kept
returns-clause-kept c =
    let p : Pred = record { name = c.args.name; arity = c.args.arity } in
    let keys : c.insert_full.new.self.keys ≡ with_pred c.self.inside.preds.keys p = c.in_ok-i.ensures.keys in
    rw (keys, ← c.self.view_is) (preds_stay c.self.inside.preds.keys p)
