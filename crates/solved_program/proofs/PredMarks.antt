-- A mark for each predicate that has the value of the old one of its name and arity.
use Rattle.std.proofs.Common.{◌≡◌, ◌↔◌, ℕ, ◌<◌, Bool, true, false, List, length, slice_get, slice_index_or, Contains, Some, ap, sym, subst, ◌∙◌, arith}
use Rattle.cti_terms.specs.Listing.{IsProgram}
use Rattle.cti_terms.specs.declared.predicates.Pred.{Pred}
use Rattle.termination_model.proofs.Lists.{place_below, there}
use Rattle.component_laws.proofs.UntouchedLaws.{one_number}
use Rattle.solved_program.specs.Marks.{AreMarkedTo, IsMarkOf}
use Rattle.solved_program.specs.declared.edit.Edit.{Edit}
use Rattle.solved_program.proofs.CarriedRows.{contained}

module _ {X : Type 0} (e : Edit) (old now : ℕ → X) where
  pub mark_some : IsProgram e.before.now → (r q : ℕ) (x : Pred) (b : Bool) → slice_get e.after.now.preds r ≡ Some x → slice_get e.before.now.preds q ≡ Some x → ((b ≡ true) ↔ (now r ≡ old q)) → IsMarkOf e old now r b
  mark_some prog r q x b there_x here_x iff = λ z y here there'.
      let is : x ≡ y = (let g = there_x in cc) in
      let number : z ≡ q = one_number e.before.now.preds prog.distinct z q x (here ∙ ap Some (sym is)) here_x in
      subst (λ (k : ℕ). (b ≡ true) ↔ (now r ≡ old k)) (sym number) iff

  pub mark_none : (r : ℕ) (x : Pred) (b : Bool) → slice_get e.after.now.preds r ≡ Some x → (Contains e.before.now.preds x → ⊥) → IsMarkOf e old now r b
  mark_none r x b there_x absent = λ z y here there'.
      let is : x ≡ y = (let g = there_x in cc) in
      absurd (absent (subst (Contains e.before.now.preds) (sym is) (contained e.before.now.preds z y here)))

  pub marks_all : (n : ℕ) (marks : List Bool) → length marks ≡ length e.after.now.preds → ((r : ℕ) (x : Bool) → slice_get marks r ≡ Some x → IsMarkOf e old now r x) → AreMarkedTo e n old now marks
  marks_all n marks each all = record {
    each = each;
    exact = λ q r d x here there' i lt.
        let at = there marks r false (omega (arith, each, place_below e.after.now.preds r x there')) in
        all r (slice_index_or marks r false) at q x here there';
  }

  -- the marks of members of earlier components
  pub marks_below : (c n : ℕ) (marks : List Bool) → c < n → AreMarkedTo e n old now marks → AreMarkedTo e c old now marks
  marks_below c n marks lt h = record { each = h.each; exact = λ q r d x here there' i less. h.exact q r d x here there' i (omega (arith, lt, less)) }
