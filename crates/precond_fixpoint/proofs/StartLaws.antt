-- Lists with an element more, and the sets that the search begins with.
use Rattle.std.proofs.Common.{◌≡◌, ◌↔◌, ℕ, zero, suc, ◌+◌, ◌<◌, Bool, IsTrue, List, [], ◌∷◌, ◌++◌, length, map, slice_get, slice_set, Some, ap, sym, subst, ◌∙◌, arith}
use Rattle.bool_diagrams.specs.declared.diagram.Diagram.{Diagram}
use Rattle.bool_diagrams.specs.Cubes.{truth_rows}
use Rattle.bool_diagrams.specs.Rows.{IsDiagram, Keeps, ReadsBelow}
use Rattle.bool_diagrams.specs.Tree.{Tree as Rows}
use Rattle.cti_terms.specs.declared.predicates.Pred.{Pred}
use Rattle.number_tests.specs.Levels.{coefficients_of, items_of, natural, naturals}
use Rattle.number_tests.specs.declared.level_part.LevelPart.{LevelPart}
use Rattle.precond_fixpoint.specs.Removing.{IsCovering}
use Rattle.precond_fixpoint.proofs.PlaceLaws.{items_at}
use Rattle.termination_model.specs.grounds.Grounds.{Family, HasArity}
use Rattle.termination_model.specs.sizes.Rows.{Covers}
use Rattle.truth_rows.specs.Sets.{AreSets, family_of}
use Rattle.truth_rows.proofs.CallerLemmas.{family_at, sets_later, sets_with}
use Rattle.truth_rows.proofs.ListLaws.{set_there}
use Rattle.termination_model.proofs.Lists.{place_below}
use Rattle.truth_rows.proofs.SetLaws.{some_is}

-- an element more at the end
pub pushed : {X : Type 0} → (P : ℕ → X → Type 0) (xs : List X) (x : X) → ((i : ℕ) (y : X) → slice_get xs i ≡ Some y → P i y) → P (length xs) x
    → (i : ℕ) (y : X) → slice_get (xs ++ x ∷ []) i ≡ Some y → P i y
pushed P [] x all one zero y e = let is : x ≡ y = cc in subst (P 0) is one
pushed P [] x all one (suc i) y e = cc
pushed P (z ∷ xs) x all one zero y e = all 0 y e
pushed P (z ∷ xs) x all one (suc i) y e = pushed (λ j. P (suc j)) xs x (λ j w f. all (suc j) w f) one i y e

pub pushed_length : {X : Type 0} → (xs : List X) (x : X) → length (xs ++ x ∷ []) ≡ length xs + 1
pushed_length [] x = omega arith
pushed_length (y ∷ xs) x = omega (arith, pushed_length xs x)

-- the part that stands at a place
pub part_at : (levels : List (List LevelPart)) (m q : ℕ) (own : List LevelPart) → slice_get levels q ≡ Some own → (parts : List LevelPart) → parts ≡ own → (part : LevelPart) → slice_get parts m ≡ Some part
    → slice_get (items_of levels q) m ≡ Some part
part_at levels m q own at parts same part there = ap (λ (xs : List LevelPart). slice_get xs m) (items_at levels q own at ∙ sym same) ∙ there

-- a set that has the rows which the coefficients of its predicate cover
module _ (preds : List Pred) (T T2 : List Rows) (K : Keeps T T2) (sets : List Diagram) (S : AreSets preds T sets) (levels : List (List LevelPart)) (m q : ℕ) (x : Pred) (at : slice_get preds q ≡ Some x)
    (part : LevelPart) (is : slice_get (items_of levels q) m ≡ Some part) (wide : length part.coeffs ≡ x.arity)
    (set : Diagram) (known : IsDiagram T2 set) (reads : ReadsBelow T2 set (length part.coeffs)) where
  below : q < length sets
  below = let l = place_below preds q x at in omega (arith, S.each)

  pub cover_sets : AreSets preds T2 (slice_set sets q set)
  cover_sets = sets_with preds T2 sets (sets_later preds T T2 K sets S) q set below known
      (λ n a.
      let w = some_is (λ (y : Pred). y.arity ≡ n) (slice_get preds q) a in
      let same : x ≡ w.0 = cc in
      subst (ReadsBelow T2 set) (wide ∙ subst (λ (y : Pred). y.arity ≡ n) (sym same) w.2) reads)

  pub cover_own : ((row : List Bool) → length row ≡ length part.coeffs → IsTrue (truth_rows T2 set row) ↔ Covers (map natural part.coeffs) row)
      → IsCovering preds (coefficients_of levels m) (family_of preds T2 (slice_set sets q set)) q
  cover_own covering row arity =
      let w = some_is (λ (y : Pred). y.arity ≡ length row) (slice_get preds q) arity in
      let same : w.0 ≡ x = cc in
      let long : x.arity ≡ length row = subst (λ (y : Pred). y.arity ≡ length row) same w.2 in
      let e = family_at preds T2 (slice_set sets q set) q x set row at (set_there sets q set below) long in
      let c = covering row (sym long ∙ sym wide) in
      let own : coefficients_of levels m q ≡ map natural part.coeffs = ap naturals is in
      subst (λ (ns : List ℕ). IsTrue (family_of preds T2 (slice_set sets q set) q row) ↔ Covers ns row) (sym own) (λ t. c.0 (sym e ∙ t), λ h. e ∙ c.1 h)

-- a family that has the rows of another one at a predicate covers there what the other does
pub covering_same : (preds : List Pred) (coefficients : ℕ → List ℕ) (old new : Family) (q : ℕ) → new q ≡ old q → IsCovering preds coefficients old q → IsCovering preds coefficients new q
covering_same preds coefficients old new q same h =
    subst (λ (s : List Bool → Bool). (row : List Bool) → HasArity preds q (length row) → IsTrue (s row) ↔ Covers (coefficients q) row) (sym same) h
