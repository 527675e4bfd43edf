-- Whether values are what they were before an edit.
use Rattle.std.proofs.Common.{◌≡◌, ◌↔◌, ℕ, zero, suc, ◌+◌, ◌<◌, ◌==◌, ◌&&◌, Bool, true, false, IsTrue, inl, inr, List, [], ◌∷◌, length, map, slice_get, Contains, Option, Some, IsSomeAnd, refl, ap, sym, subst, ◌∙◌, arith, eq-eqb}
use Rattle.std.proofs.lemmas.Bool.{cases_eq}
use Rattle.bool_diagrams.specs.declared.diagram.Diagram.{Diagram}
use Rattle.bool_diagrams.specs.Cubes.{truth_rows, values_of}
use Rattle.bool_diagrams.specs.Rows.{HaveSameRows}
use Rattle.bool_diagrams.specs.Tree.{Tree as Rows}
use Rattle.call_components.specs.Numbers.{number_of}
use Rattle.call_components.specs.Partition.{Partition, AreComponents, IsIn}
use Rattle.cti_terms.specs.Listing.{Listing, IsProgram}
use Rattle.cti_terms.specs.declared.predicates.Pred.{Pred}
use Rattle.cti_terms.specs.declared.predicates.PredId.{PredId}
use Rattle.precond_fixpoint.proofs.PlaceLaws.{member_place}
use Rattle.termination_model.specs.grounds.Grounds.{HasArity}
use Rattle.termination_model.proofs.Lists.{one_element, place_below}
use Rattle.truth_rows.specs.Sets.{AreSets, family_of, has_row}
use Rattle.truth_rows.proofs.RowLaws.{first_row, first_values, length-first}
use Rattle.component_laws.proofs.UntouchedLaws.{one_number}
use Rattle.solved_program.specs.declared.edit.Edit.{Edit}
use Rattle.solved_program.proofs.CarriedRows.{contained}
use Rattle.solved_program.proofs.Comparisons.{refuted}
use Rattle.carried_preconditions.specs.Same.{IsSameAs}

-- ---- by the old predicate
module _ {X : Type 0} (e : Edit) (old now : ℕ → X) where
  pub same_here : IsProgram e.before.now → (r : ℕ) → IsSameAs e old now r → (q : ℕ) (x : Pred) → slice_get e.before.now.preds q ≡ Some x → slice_get e.after.now.preds r ≡ Some x → now r ≡ old q
  same_here prog r s q x here there' =
      let a = s.there in
      let is : s.pred ≡ x = cc in
      let number : s.number ≡ q = one_number e.before.now.preds prog.distinct s.number q x (s.here ∙ ap Some is) here in
      s.same ∙ ap old number

  pub same_some : IsProgram e.before.now → (r q : ℕ) (x : Pred) (b : Bool) → slice_get e.after.now.preds r ≡ Some x → slice_get e.before.now.preds q ≡ Some x → ((b ≡ true) ↔ (now r ≡ old q)) → (b ≡ true) ↔ IsSameAs e old now r
  same_some prog r q x b there' here iff = (λ t. record { number = q; pred = x; here = here; there = there'; same = iff.0 t }, λ s. iff.1 (same_here prog r s q x here there'))

  pub same_none : (r : ℕ) (x : Pred) → slice_get e.after.now.preds r ≡ Some x → (Contains e.before.now.preds x → ⊥) → (false ≡ true) ↔ IsSameAs e old now r
  same_none r x there' absent = (
    λ t. cc,
    λ (s : IsSameAs e old now r).
        let a = s.there in
        let is : s.pred ≡ x = cc in
        absurd (absent (subst (Contains e.before.now.preds) is (contained e.before.now.preds s.number s.pred s.here))),
  )

-- ---- the same rows, and the same family
module _ (preds new_preds : List Pred) (T : List Rows) (sets other : List Diagram) (S : AreSets new_preds T sets) (O : AreSets preds T other) (r q : ℕ) (x : Pred) (at : slice_get new_preds r ≡ Some x) (here : slice_get preds q ≡ Some x)
    (d e : Diagram) (mine : slice_get sets r ≡ Some d) (theirs : slice_get other q ≡ Some e) where
  row_here : (row : List Bool) → family_of new_preds T sets r row ≡ ((x.arity == length row) && truth_rows T d row)
  row_here row = λ i. has_row (at i) T (mine i) row

  row_there : (row : List Bool) → family_of preds T other q row ≡ ((x.arity == length row) && truth_rows T e row)
  row_there row = λ i. has_row (here i) T (theirs i) row

  pub family_of_rows : HaveSameRows T d e → family_of new_preds T sets r ≡ family_of preds T other q
  family_of_rows same = λ i row. (row_here row ∙ ap (λ (b : Bool). (x.arity == length row) && b) (same (values_of row)) ∙ sym (row_there row)) i

  arity : HasArity new_preds r x.arity
  arity = subst (λ (o : Option Pred). IsSomeAnd o (λ (y : Pred). y.arity ≡ x.arity)) (sym at) refl

  old_arity : HasArity preds q x.arity
  old_arity = subst (λ (o : Option Pred). IsSomeAnd o (λ (y : Pred). y.arity ≡ x.arity)) (sym here) refl

  on_first : (row : ℕ → Bool) (b : Bool) → (((x.arity == length (first_row x.arity row)) && b) ≡ b)
  on_first row b = ap (λ (t : Bool). t && b) (eq-eqb x.arity (length (first_row x.arity row)) (sym (length-first x.arity row)))

  rows_of_family : family_of new_preds T sets r ≡ family_of preds T other q → HaveSameRows T d e
  rows_of_family same = λ row.
      let us = first_row x.arity row in
      S.reads r x.arity d mine arity row (values_of us) (λ v lt. sym (first_values x.arity row v lt))
      ∙ sym (row_here us ∙ on_first row (truth_rows T d us))
      ∙ ap (λ (g : List Bool → Bool). g us) same
      ∙ (row_there us ∙ on_first row (truth_rows T e us))
      ∙ sym (O.reads q x.arity e theirs old_arity row (values_of us) (λ v lt. sym (first_values x.arity row v lt)))

  pub same_rows : (b : Bool) → (IsTrue b ↔ HaveSameRows T d e) → (b ≡ true) ↔ (family_of new_preds T sets r ≡ family_of preds T other q)
  same_rows b iff = (λ t. family_of_rows (iff.0 t), λ h. iff.1 (rows_of_family h))

-- ---- equal lists by their places
pub all_places : {X Y : Type 0} (g : X → Y) (xs ys : List X) → length xs ≡ length ys → ((i : ℕ) (x y : X) → i < length xs → slice_get xs i ≡ Some x → slice_get ys i ≡ Some y → g x ≡ g y) → map g xs ≡ map g ys
all_places g [] [] l h = refl
all_places g [] (y ∷ ys) l h = absurd (omega arith)
all_places g (x ∷ xs) [] l h = absurd (omega arith)
all_places g (x ∷ xs) (y ∷ ys) l h =
    let one = h 0 x y (omega arith) refl refl in
    let more = all_places g xs ys (omega arith) (λ i a b lt at there'. h (suc i) a b (omega (arith, lt)) at there') in
    λ i. one i ∷ more i

pub mapped_at : {X Y : Type 0} (g : X → Y) (xs ys : List X) → map g xs ≡ map g ys → (i : ℕ) (x y : X) → slice_get xs i ≡ Some x → slice_get ys i ≡ Some y → g x ≡ g y
mapped_at g [] ys e i x y at there' = cc
mapped_at g (a ∷ xs) [] e i x y at there' = cc
mapped_at g (a ∷ xs) (b ∷ ys) e zero x y at there' =
    let s : a ≡ x = cc in
    let t : b ≡ y = cc in
    let u : g a ≡ g b = cc in
    ap g (sym s) ∙ u ∙ ap g t
mapped_at g (a ∷ xs) (b ∷ ys) e (suc i) x y at there' = (let rest : map g xs ≡ map g ys = cc in mapped_at g xs ys rest i x y at there')

-- two values, of which the first is compared first
pub with_first : {X Y : Type 0} (b : Bool) (x x' : X) (y y' : Y) → (x ≡ x') → ((b ≡ true) ↔ (y ≡ y')) → (b ≡ true) ↔ (◌≡◌ {A = X × Y} (x, y) (x', y'))
with_first {X} {Y} b x x' y y' s t = (λ h. (let r = t.0 h in λ i. (s i, r i)), λ h. t.1 (ap (λ (v : X × Y). v.1) h))

pub without_first : {X Y : Type 0} (b : Bool) (x x' : X) (y y' : Y) → b ≡ false → ((x ≡ x') → ⊥) → (b ≡ true) ↔ (◌≡◌ {A = X × Y} (x, y) (x', y'))
without_first {X} {Y} b x x' y y' off apart = (λ h. absurd (refuted h off), λ h. absurd (apart (ap (λ (v : X × Y). v.0) h)))

-- ---- members of a component in turn
module _ (P : ℕ → Type 0) (members : List PredId) where
  pub one_more : (n : ℕ) (a : PredId) → slice_get members n ≡ Some a → P a.0 → ((j : ℕ) (x : PredId) → j < n → slice_get members j ≡ Some x → P x.0) → (j : ℕ) (x : PredId) → j < n + 1 → slice_get members j ≡ Some x → P x.0
  one_more n a at here before j x lt e = elim (cases_eq j n) [
    | inl same ↦
        let f : slice_get members n ≡ Some x = ap (slice_get members) (sym same) ∙ e in
        subst (λ (y : PredId). P y.0) (one_element members n a x at f) here
    | inr ne ↦ before j x (omega (arith, lt, ne)) e
  ]

  pub each_member : (p : Listing) (comps : Partition) → AreComponents p comps → (c : ℕ) → slice_get comps.members c ≡ Some (map number_of members) → ((j : ℕ) (x : PredId) → j < length members → slice_get members j ≡ Some x → P x.0) → (r : ℕ) → IsIn comps c r → P r
  each_member p comps are c is all r own =
      let place = member_place members r ((are.members c (map number_of members) is r).1 own) in
      subst P (sym place.3) (all place.0 place.1 (place_below members place.0 place.1 place.2) place.2)
