use Rattle.std.proofs.Common.{◌≡◌, ◌+◌, inl, List, length, subst, sym, arith}
use Rattle.lex_measures.proofs.DropLaws.{passed_on}
use Rattle.call_components.proofs.Lists.{some_within}
use Rattle.cti_terms.specs.Listing.{IsAtom}
use Rattle.cti_terms.specs.declared.atom_list.Atom.{Atom}
use Rattle.std.specs.List.{AllByRecursion}
use Rattle.termination_model.proofs.Lists.{at_place, by_places}
use Rattle.lex_measures.proofs.printed.Printed.drops_in.Goals as goal

pub drops_at-requires-clause-call : goal.drops_at-requires-clause-call
drops_at-requires-clause-call c =
    let preds = c.args.self.now.p.now.preds in
    let clause = c.clause.result.now in
    let body = c.as_slice-body.result.now in
    let x = c.index-body-place.result in
    let atoms = subst (λ (bs : List Atom). AllByRecursion (IsAtom preds clause.vars) bs) (sym c.as_slice-body.ensures) c.clause.ensures.sound.body in
    let atom = by_places (IsAtom preds clause.vars) body atoms c.loop-place.place x (at_place body c.loop-place.place x c.loop-place-test.true c.index-body-place.is) in
    some_within (λ d. d.arity ≡ length x.args) preds x.pred.0 atom.arity

pub returns-clause-passed : goal.returns-clause-passed
returns-clause-passed c = passed_on _ c.loop-place.at (c.args.clause + 1) (c.loop-place.place + 1) (c.args.clause + 2) 1 (inl (omega arith)) c.loop-place.invariant.passed
