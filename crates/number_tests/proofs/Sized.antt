-- The atoms of a program's clauses have size rows where there are rows for each predicate.
use Rattle.std.proofs.Common.{◌≡◌, ℕ, zero, suc, ◌<◌, ◌≤◌, List, [], ◌∷◌, length, slice_get, IsSomeAnd, subst, arith}
use Rattle.cti_terms.specs.Listing.{IsAtom, IsClause, atom_nodes}
use Rattle.cti_terms.specs.declared.atom_list.Atom.{Atom}
use Rattle.cti_terms.specs.declared.clauses.Clause.{Clause}
use Rattle.cti_terms.specs.declared.limits.TheConstants.{MOST_NODES}
use Rattle.cti_terms.specs.declared.predicates.Pred.{Pred}
use Rattle.linear_rows.specs.Plain.{HaveWidth}
use Rattle.linear_rows.specs.declared.row.Rows.{Rows}
use Rattle.termination_model.specs.sizes.Sizes.{AreSizes}
use Rattle.termination_model.proofs.Facts.{one_arity}
use Rattle.termination_model.proofs.Lists.{by_places, from_places, sum_part}
use Rattle.number_tests.specs.Systems.{IsSizedAtom, IsSizedClause}

pub some_below : {X : Type 0} → (P : X → Type 0) (xs : List X) (i : ℕ) → IsSomeAnd (slice_get xs i) P → i < length xs
some_below P [] i h = absurd h
some_below P (x ∷ xs) zero h = omega arith
some_below P (x ∷ xs) (suc i) h = omega (arith, some_below P xs i h)

sized_atom : (preds : List Pred) (sizes : List Rows) (vars : ℕ) (a : Atom) → AreSizes preds sizes → IsAtom preds vars a → atom_nodes a ≤ MOST_NODES → IsSizedAtom sizes vars a
sized_atom preds sizes vars a are is small = record {
  there = omega (arith, are.each, some_below (λ (p : Pred). p.arity ≡ length a.args) preds a.pred.0 is.arity);
  own = λ r e.
      let w = are.width a.pred.0 r e in
      subst (λ (k : ℕ). HaveWidth k r.list) (one_arity (slice_get preds a.pred.0) r.width (length a.args) w.0 is.arity) w.1;
  below = is.below;
  small = small;
}

pub sized_clause : (preds : List Pred) (sizes : List Rows) (c : Clause) → AreSizes preds sizes → IsClause preds c → IsSizedClause sizes c
sized_clause preds sizes c are is = record {
  head = sized_atom preds sizes c.vars c.head are is.head (let s = is.small in omega arith);
  body = from_places (IsSizedAtom sizes c.vars) c.body (λ i b e. sized_atom preds sizes c.vars b are (by_places (IsAtom preds c.vars) c.body is.body i b e) (let s = is.small in omega (arith, sum_part atom_nodes c.body i b e)));
  few = is.few;
}
