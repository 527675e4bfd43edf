-- Sets from before an edit, under the new numbers of predicates, and what they allow.
use Rattle.std.proofs.Common.{◌≡◌, ℕ, ◌==◌, ◌&&◌, ◌||◌, Bool, true, false, IsTrue, inl, inr, List, [], ◌∷◌, length, slice_get, slice_index_or, Option, None, Some, IsSomeAnd, unwrap_or, refl, ap, sym, subst, ◌∙◌, arith}
use Rattle.std.specs.List.{list_any}
use Rattle.bool_diagrams.specs.declared.diagram.Diagram.{Diagram}
use Rattle.bool_diagrams.specs.Cubes.{truth_rows, values_of}
use Rattle.bool_diagrams.specs.Rows.{IsDiagram, ReadsBelow, holds}
use Rattle.bool_diagrams.specs.Tree.{Tree as Rows}
use Rattle.cti_terms.specs.Tree.{Tree}
use Rattle.cti_terms.specs.declared.predicates.Pred.{Pred}
use Rattle.number_tests.specs.Levels.{items_of}
use Rattle.precond_fixpoint.specs.Solving.{AreMappingSets, AreUnions, allowed_family}
use Rattle.precond_fixpoint.proofs.PlaceLaws.{items_there}
use Rattle.termination_model.specs.grounds.Grounds.{Family, HasArity}
use Rattle.termination_model.specs.mappings.View.{all_upper}
use Rattle.termination_model.proofs.Lists.{place_below, there}
use Rattle.truth_rows.specs.Sets.{AreSets, family_of, has_row}
use Rattle.solved_program.specs.Carried.{AreCarriedValues}
use Rattle.solved_program.specs.declared.edit.Edit.{Edit}
use Rattle.carried_preconditions.specs.Resolving.{AreOld, AreSolvedTo}
use Rattle.carried_preconditions.specs.declared.sources.PreconditionSources.{PreconditionSources}
use Rattle.carried_preconditions.proofs.Greatest.{allowed_same}

off : (b : Bool) → (IsTrue b → ⊥) → b ≡ false
off true h = absurd (h refl)
off false h = refl

module _ (e : Edit) (T : List Rows) (old : List (List Diagram)) (old_allowed : List Diagram) (none : Diagram) (known : IsDiagram T none) (no : (row : ℕ → Bool) → holds T none row ≡ false)
    (O : AreMappingSets e.before.now.preds T old) (U : AreUnions e.before.now.preds T old old_allowed)
    (sets : List (List Diagram)) (each : length sets ≡ length e.after.now.preds) (at : AreCarriedValues e old [] sets)
    (allowed : List Diagram) (each_allowed : length allowed ≡ length e.after.now.preds) (at_allowed : AreCarriedValues e old_allowed none allowed) where
  arity_before : (q r : ℕ) (x : Pred) (n : ℕ) → slice_get e.before.now.preds q ≡ Some x → slice_get e.after.now.preds r ≡ Some x → HasArity e.after.now.preds r n → HasArity e.before.now.preds q n
  arity_before q r x n here there' arity = subst (λ (o : Option Pred). IsSomeAnd o (λ (y : Pred). y.arity ≡ n)) (there' ∙ sym here) arity

  one_diagram : (r m : ℕ) (d : Diagram) → slice_get (items_of sets r) m ≡ Some d → (q : ℕ) × (x : Pred) × (slice_get e.before.now.preds q ≡ Some x) × (slice_get e.after.now.preds r ≡ Some x) × (slice_get (items_of old q) m ≡ Some d)
  one_diagram r m d f =
      let lt = items_there sets r m d f in
      let own = slice_index_or sets r [] in
      let here : slice_get sets r ≡ Some own = there sets r [] lt in
      let mine : slice_get own m ≡ Some d = sym (ap (λ (o : Option (List Diagram)). slice_get (unwrap_or o []) m) here) ∙ f in
      elim (at r own here).from [
        | inl is ↦ (let g : None ≡ Some d = sym (ap (λ (ds : List Diagram). slice_get ds m) is) ∙ mine in cc)
        | inr was ↦ (was.0, was.1, was.2, was.3, ap (λ (o : Option (List Diagram)). slice_get (unwrap_or o []) m) was.4 ∙ mine)
      ]

  pub opened_sets : AreMappingSets e.after.now.preds T sets
  opened_sets = record {
    each = each;
    known = λ r m d f. let was = one_diagram r m d f in O.known was.0 m d was.4;
    reads = λ r m n d f arity. let was = one_diagram r m d f in O.reads was.0 m n d was.4 (arity_before was.0 r was.1 n was.2 was.3 arity);
  }

  opened_allowed : AreSets e.after.now.preds T allowed
  opened_allowed = record {
    each = each_allowed;
    known = λ r d f. elim (at_allowed r d f).from [
      | inl is ↦ subst (IsDiagram T) (sym is) known
      | inr was ↦ U.sets.known was.0 d was.4
    ];
    reads = λ r n d f arity. elim (at_allowed r d f).from [
      | inl is ↦ subst (λ (x : Diagram). ReadsBelow T x n) (sym is) (λ row other agree. no row ∙ sym (no other))
      | inr was ↦ U.sets.reads was.0 n d was.4 (arity_before was.0 r was.1 n was.2 was.3 arity)
    ];
  }

  pub opened_same : (q r : ℕ) (x : Pred) → slice_get e.before.now.preds q ≡ Some x → slice_get e.after.now.preds r ≡ Some x → slice_get sets r ≡ slice_get old q
  opened_same q r x here there' =
      let f = there sets r [] (omega (arith, each, place_below e.after.now.preds r x there')) in
      f ∙ sym ((at r _ f).same q x here there')

  allowed_as : (q r : ℕ) (x : Pred) → slice_get e.before.now.preds q ≡ Some x → slice_get e.after.now.preds r ≡ Some x → slice_get allowed r ≡ slice_get old_allowed q
  allowed_as q r x here there' =
      let f = there allowed r none (omega (arith, each_allowed, place_below e.after.now.preds r x there')) in
      f ∙ sym ((at_allowed r _ f).same q x here there')

  -- a predicate that was there
  had : (q r : ℕ) (x : Pred) → slice_get e.before.now.preds q ≡ Some x → slice_get e.after.now.preds r ≡ Some x → family_of e.after.now.preds T allowed r ≡ allowed_family e.after.now.preds T sets r
  had q r x here there' =
      (λ i row. has_row ((there' ∙ sym here) i) T (allowed_as q r x here there' i) row)
      ∙ ap (λ (g : Family). g q) U.rows
      ∙ sym (allowed_same e.before.now.preds e.after.now.preds T old sets q r x here there' (opened_same q r x here there'))

  nothing_here : (r : ℕ) (x : Pred) → slice_get e.after.now.preds r ≡ Some x → family_of e.after.now.preds T allowed r ≡ allowed_family e.after.now.preds T sets r
  nothing_here r x there' =
      let own = slice_index_or sets r [] in
      let f : slice_get sets r ≡ Some own = there sets r [] (omega (arith, each, place_below e.after.now.preds r x there')) in
      let d = slice_index_or allowed r none in
      let g : slice_get allowed r ≡ Some d = there allowed r none (omega (arith, each_allowed, place_below e.after.now.preds r x there')) in
      elim (at r own f).from [
        | inl empty ↦ elim (at_allowed r d g).from [
          | inl is ↦
              let none_there : slice_get allowed r ≡ Some none = g ∙ ap Some is in
              let no_row : (row : List Bool) → ((x.arity == length row) && truth_rows T none row) ≡ false =
              λ row. ap (λ (b : Bool). (x.arity == length row) && b) (no (values_of row)) ∙ and_false (x.arity == length row) in
              let left : (row : List Bool) → family_of e.after.now.preds T allowed r row ≡ false = λ row. (λ i. has_row (there' i) T (none_there i) row) ∙ no_row row in
              let right : (row : List Bool) → allowed_family e.after.now.preds T sets r row ≡ false =
              λ row. (λ i. list_any (λ (y : Diagram). all_upper (has_row (slice_get e.after.now.preds r) T (Some y)) row) (unwrap_or ((f ∙ ap Some empty) i) [])) in
              λ i row. (left row ∙ sym (right row)) i
          | inr was ↦ had was.0 r was.1 was.2 was.3
        ]
        | inr was ↦ had was.0 r was.1 was.2 was.3
      ]
    where
      and_false : (b : Bool) → (b && false) ≡ false
      and_false true = refl
      and_false false = refl

  no_pred : (r : ℕ) → slice_get e.after.now.preds r ≡ None → family_of e.after.now.preds T allowed r ≡ allowed_family e.after.now.preds T sets r
  no_pred r none' = λ i row. (left row ∙ sym (right row)) i
    where
      left : (row : List Bool) → family_of e.after.now.preds T allowed r row ≡ false
      left row = λ i. has_row (none' i) T (slice_get allowed r) row

      any_off : (ds : List Diagram) (row : List Bool) → list_any (λ (y : Diagram). all_upper (has_row None T (Some y)) row) ds ≡ false
      any_off [] row = refl
      any_off (d ∷ ds) row = (let h = upper_off row d in let rest = any_off ds row in λ i. h i || rest i)
        where
          upper_off : (row : List Bool) (d : Diagram) → all_upper (has_row None T (Some d)) row ≡ false
          upper_off [] d = refl
          upper_off (true ∷ row) d = upper_off row d
          upper_off (false ∷ row) d = (λ i. upper_off row d i && all_upper (λ us. false) row)

      right : (row : List Bool) → allowed_family e.after.now.preds T sets r row ≡ false
      right row = (λ i. list_any (λ (y : Diagram). all_upper (has_row (none' i) T (Some y)) row) (items_of sets r)) ∙ any_off (items_of sets r) row

  rows_at : (r : ℕ) (o : Option Pred) → slice_get e.after.now.preds r ≡ o → family_of e.after.now.preds T allowed r ≡ allowed_family e.after.now.preds T sets r
  rows_at r None is = no_pred r is
  rows_at r (Some x) is = nothing_here r x is

  pub opened_unions : AreUnions e.after.now.preds T sets allowed
  opened_unions = record { sets = opened_allowed; rows = λ i r. rows_at r (slice_get e.after.now.preds r) refl i }

-- ---- nothing is found yet
pub begun : {N : Type 0} (truth : (ℕ → Bool) → Tree → Bool) (s : PreconditionSources N) (T : List Rows) (O : AreOld truth s T) (none : Diagram) → IsDiagram T none → ((row : ℕ → Bool) → holds T none row ≡ false)
    → (sets : List (List Diagram)) → length sets ≡ length s.clauses.now.edit.now.after.now.preds → AreCarriedValues s.clauses.now.edit.now s.before.now.solved.now.sets [] sets
    → (allowed : List Diagram) → length allowed ≡ length s.clauses.now.edit.now.after.now.preds
    → AreCarriedValues s.clauses.now.edit.now s.before.now.solved.now.allowed none allowed
    → AreSolvedTo truth s 0 T sets allowed
begun truth s T O none known off_rows sets each at allowed each_allowed at_allowed =
    let e = s.clauses.now.edit.now in
    let old = s.before.now.solved.now.sets in
    let old_allowed = s.before.now.solved.now.allowed in
    record {
      sets_are = opened_sets e T old old_allowed none known off_rows O.sets_are O.allowed_are sets each at allowed each_allowed at_allowed;
      allowed_are = opened_unions e T old old_allowed none known off_rows O.sets_are O.allowed_are sets each at allowed each_allowed at_allowed;
      greatest = λ c lt. absurd (omega (arith, lt));
      kept = λ b c lt h own q r x here there' i. absurd (omega (arith, lt));
      later = λ q r d x here there' i le. opened_same e T old old_allowed none known off_rows O.sets_are O.allowed_are sets each at allowed each_allowed at_allowed q r x here there';
    }
