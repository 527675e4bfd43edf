-- The value that a new predicate begins with: what it had before, if it was there.
use Rattle.std.proofs.Common.{◌≡◌, ℕ, inl, inr, List, slice_get, Contains, Some, refl, ap, sym, subst, ◌∙◌}
use Rattle.cti_terms.specs.Listing.{IsProgram}
use Rattle.cti_terms.specs.declared.predicates.Pred.{Pred}
use Rattle.component_laws.proofs.UntouchedLaws.{one_number}
use Rattle.solved_program.specs.Carried.{IsCarriedValue}
use Rattle.solved_program.specs.declared.edit.Edit.{Edit}
use Rattle.solved_program.proofs.CarriedRows.{contained}

module _ {X : Type 0} (e : Edit) (old : List X) (none : X) where
  pub value_some : IsProgram e.before.now → (r q : ℕ) (x : Pred) (v : X) → slice_get e.after.now.preds r ≡ Some x → slice_get e.before.now.preds q ≡ Some x → slice_get old q ≡ Some v → IsCarriedValue e old none r v
  value_some prog r q x v there_x here_x at = record {
    same = λ z y here there'.
        let is : x ≡ y = (let g = there_x in cc) in
        let number : z ≡ q = one_number e.before.now.preds prog.distinct z q x (here ∙ ap Some (sym is)) here_x in
        ap (slice_get old) number ∙ at;
    from = inr (q, x, here_x, there_x, at);
  }

  pub value_none : (r : ℕ) (x : Pred) → slice_get e.after.now.preds r ≡ Some x → (Contains e.before.now.preds x → ⊥) → IsCarriedValue e old none r none
  value_none r x there_x absent = record {
    same = λ z y here there'. (let is : x ≡ y = (let g = there_x in cc) in absurd (absent (subst (Contains e.before.now.preds) (sym is) (contained e.before.now.preds z y here))));
    from = inl refl;
  }
