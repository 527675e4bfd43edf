-- How long the columns of expressions are, and what holds of each element.
use Rattle.std.proofs.Common.{◌≡◌, ℕ, zero, suc, ◌<◌, ℤ, List, [], ◌∷◌, All, refl, Some, length, slice_get, ap, subst, ◌∙◌, arith}
use Rattle.std.proofs.lemmas.List.{length-map}
use Rattle.exact128.specs.Sums.{entry}
use Rattle.termination_model.specs.sizes.Replacing.{AreColumns}
use Rattle.termination_model.proofs.Lists.{any_default, indexed, place_below}

pub column_lengths : (es : List (List ℤ)) (vars n : ℕ) (columns : List (List ℤ)) → AreColumns es vars columns → suc (length es) ≡ n → All (λ c. length c ≡ n) columns
column_lengths es vars n columns are e k d lt =
    ap length (any_default columns k d [] lt ∙ are.each k (omega (arith, are.count))) ∙ ap suc (length-map es (λ e. entry e k)) ∙ e

pub element_of : {X : Type 0} → (P : X → Type 0) (xs : List X) (i : ℕ) (x : X) → All P xs → slice_get xs i ≡ Some x → P x
element_of P xs i x all e = subst P (indexed xs i x x e) (all i x (place_below xs i x e))

pub an_element : {X : Type 0} → (xs : List X) (i : ℕ) → i < length xs → (x : X) × (slice_get xs i ≡ Some x)
an_element [] i lt = absurd (omega arith)
an_element (x ∷ xs) zero lt = (x, refl)
an_element (x ∷ xs) (suc i) lt = an_element xs i (omega arith)
