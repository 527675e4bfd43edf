-- Removing the broken rows of a clause of a component.
use Rattle.std.proofs.Common.{◌≡◌, ℕ, ◌==◌, Bool, true, IsTrue, List, slice_get, slice_index_or, Some, ◌⊎◌, inl, inr, subst, eqb-true}
use Rattle.bool_diagrams.specs.declared.diagram.Diagram.{Diagram}
use Rattle.bool_diagrams.specs.Tree.{Tree as Rows}
use Rattle.cti_terms.specs.declared.clauses.Clause.{Clause}
use Rattle.cti_terms.specs.Listing.{Listing, IsAtom, IsClause, IsProgram}
use Rattle.cti_terms.specs.Tree.{Tree}
use Rattle.termination_model.specs.grounds.Grounds.{Family}
use Rattle.truth_rows.specs.Rules.{KeepsSets, same_rank}
use Rattle.truth_rows.specs.Sets.{family_of}
use Rattle.termination_model.proofs.Lists.{by_places}
use Rattle.precond_fixpoint.specs.Greatest.{IsBroken}
use Rattle.precond_fixpoint.specs.Removing.{Needed, RemovesBroken, is_ranked}
use Rattle.precond_fixpoint.proofs.Searching.{searches}

-- the test of the head's rank is that of the component
pub same_test : (ranks : List ℕ) (rank q : ℕ) → is_ranked ranks rank q ≡ true → (λ r. same_rank ranks r q) ≡ is_ranked ranks rank
same_test ranks rank q e = let own : slice_index_or ranks q 0 ≡ rank = eqb-true (slice_index_or ranks q 0) rank e in λ i r. slice_index_or ranks r 0 == own i

pub member_needed : (truth : (ℕ → Bool) → Tree → Bool) (p : Listing) (program : IsProgram p) (before after : List Rows) (ranks : List ℕ) (rank : ℕ) (grounds allowed old new : List Diagram)
    (i : ℕ) (k : Clause) → slice_get p.clauses i ≡ Some k → is_ranked ranks rank k.head.pred.0 ≡ true → RemovesBroken truth p before after ranks grounds allowed old new k
    → Needed truth p before after ranks rank grounds allowed old new
member_needed truth p program before after ranks rank grounds allowed old new i k at member removed coefficients =
    let is = by_places (IsClause p.preds) p.clauses program.clauses i k at in
    (searches truth p (is_ranked ranks rank) (family_of p.preds before allowed) (family_of p.preds before grounds) coefficients).step (family_of p.preds before old) (family_of p.preds after new) i k at member
    (λ q row m arity h. moved q row (removed q row h))
    (λ j b there. (by_places (IsAtom p.preds k.vars) k.body is.body j b there).arity)
  where
    moved : (q : ℕ) (row : List Bool)
        → IsTrue (family_of p.preds after new q row) ⊎ ((q ≡ k.head.pred.0) × IsBroken truth p (λ r. same_rank ranks r k.head.pred.0) (family_of p.preds before allowed) (family_of p.preds before grounds) (family_of p.preds before old) k row)
        → IsTrue (family_of p.preds after new q row) ⊎ ((q ≡ k.head.pred.0) × IsBroken truth p (is_ranked ranks rank) (family_of p.preds before allowed) (family_of p.preds before grounds) (family_of p.preds before old) k row)
    moved q row (inl h) = inl h
    moved q row (inr h) = inr (h.0, subst (λ (t : ℕ → Bool). IsBroken truth p t (family_of p.preds before allowed) (family_of p.preds before grounds) (family_of p.preds before old) k row) (same_test ranks rank k.head.pred.0 member) h.1)

pub member_keeps : (truth : (ℕ → Bool) → Tree → Bool) (ranks : List ℕ) (rank : ℕ) (pre allowed grounds : Family) (k : Clause) → is_ranked ranks rank k.head.pred.0 ≡ true
    → KeepsSets truth pre allowed grounds (λ q. same_rank ranks q k.head.pred.0) k → KeepsSets truth pre allowed grounds (is_ranked ranks rank) k
member_keeps truth ranks rank pre allowed grounds k member h = subst (λ (t : ℕ → Bool). KeepsSets truth pre allowed grounds t k) (same_test ranks rank k.head.pred.0 member) h

pub nothing_needed : (truth : (ℕ → Bool) → Tree → Bool) (p : Listing) (trees : List Rows) (ranks : List ℕ) (rank : ℕ) (grounds allowed sets : List Diagram) → Needed truth p trees trees ranks rank grounds allowed sets sets
nothing_needed truth p trees ranks rank grounds allowed sets coefficients other keeps inside = inside
