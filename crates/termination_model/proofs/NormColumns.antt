-- A norm keeps the laws of columns, one for each argument.
use Rattle.std.proofs.Common.{◌≡◌, ℕ, zero, suc, Bool, ℤ, pos, List, [], ◌∷◌, map, Option, Some, inl, inr, refl, ap, sym, subst, ◌∙◌, arith}
use Rattle.std.specs.List.{AllByRecursion}
use Rattle.exact128.specs.Sums.{dot}
use Rattle.linear_rows.specs.Members.{In}
use Rattle.linear_rows.specs.Rows.{Holds}
use Rattle.cti_terms.specs.Arithmetic.{succeeds}
use Rattle.cti_terms.specs.Tree.{Tree, Variable}
use Rattle.cti_terms.specs.Unify.{Binding, applied}
use Rattle.cti_terms.specs.declared.builtins.Arith.{Arith}
use Rattle.cti_terms.specs.declared.builtins.Builtin.{Builtin}
use Rattle.term_size.specs.Norm.{IsNorm}
use Rattle.termination_model.specs.sizes.Stated.{stated_rows}
use Rattle.termination_model.specs.columns.Columns.{Valuation, numbers_from, IsExpression}
use Rattle.termination_model.specs.columns.NormColumns.{norm_columns, NormsAreColumns}
use Rattle.termination_model.proofs.BuiltinLaws.{said, stated_row}
use Rattle.termination_model.proofs.Values.{values_from, expression_value}

same_numbers : (s : Valuation) (x n : ℕ) → values_from x n (λ y. s y 0) ≡ numbers_from 1 x n s
same_numbers s x zero = refl
same_numbers s x (suc n) = ap (λ (vs : List ℕ). s x 0 ∷ vs) (same_numbers s (suc x) n)

all_of : {X : Type 0} (P : X → Type 0) (xs : List X) → ((x : X) → In x xs → P x) → AllByRecursion P xs
all_of P [] h = tt
all_of P (x ∷ xs) h = (h x (inl refl), all_of P xs (λ y i. h y (inr i)))

module _ (o : Option Arith) (size : (ℕ → ℕ) → Tree → ℕ) (truth : (ℕ → Bool) → Tree → Bool) (expression : ℕ → Tree → List ℤ) (norm : IsNorm size truth expression) where
  is_expression : (vars : ℕ) (t : Tree) (j : ℕ) (e : List ℤ) → Some (expression vars t) ≡ Some e → IsExpression (norm_columns size expression) vars t j e
  is_expression vars t j e q =
      let same : expression vars t ≡ e = cc in
      subst (IsExpression (norm_columns size expression) vars t j) same (
        omega (arith, norm.width vars t),
        λ h s. ap (λ (vs : List ℕ). dot (expression vars t) (pos 1 ∷ map pos vs)) (sym (same_numbers s 0 vars)) ∙ expression_value size truth expression norm vars (λ y. s y 0) t h,
      )

  stated_hold : (b : Builtin) (x y : Tree) (bs : List Binding) → succeeds o b x y ≡ Some bs → (s : Valuation)
      → AllByRecursion (λ (r : List ℤ). Holds r 1 (size (λ z. size (λ w. s w 0) (applied bs (Variable z))) x ∷ (size (λ z. size (λ w. s w 0) (applied bs (Variable z))) y ∷ []))) (stated_rows b)
  stated_hold b x y bs e s =
      let here = said size truth expression norm o b bs x y e in
      let s1 : ℕ → ℕ = λ z. size (λ w. s w 0) (applied bs (Variable z)) in
      all_of (λ (r : List ℤ). Holds r 1 (size s1 x ∷ (size s1 y ∷ []))) (stated_rows b) (λ r i. stated_row b (size s1 x) (size s1 y) r (here.2 (λ w. s w 0)) i)

pub are_columns : NormsAreColumns
are_columns o size truth expression norm = record {
  measure_of_instance = λ s a t. λ i j. norm.size_of_instance (λ x. s x 0) a t i;
  truth_of_instance = norm.truth_of_instance;
  rigid_truth = norm.rigid_truth;
  rigid_measure = λ r s t h. λ i j. norm.rigid_size (λ x. r x 0) (λ x. s x 0) t h i;
  closed_truth = norm.closed_truth;
  expressions = is_expression o size truth expression norm;
  stated = stated_hold o size truth expression norm;
}
