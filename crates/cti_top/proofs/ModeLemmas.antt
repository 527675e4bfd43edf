-- What stands at a place of a list.
use Rattle.std.proofs.Common.{◌≡◌, ℕ, zero, suc, List, [], ◌∷◌, Some}
use Rattle.std.specs.Prelude.{slice_get}
use Rattle.std.specs.List.{AllByRecursion}

-- what stands at a place has what all have
pub known_at : {A : Type 0} (F : A → Type 0) (xs : List A) (n : ℕ) (x : A) → AllByRecursion F xs → slice_get xs n ≡ Some x → F x
known_at F [] n x all at = cc
known_at F (y ∷ xs) zero x all at = let same : y ≡ x = cc in rw same at all.0
known_at F (y ∷ xs) (suc n) x all at = known_at F xs n x all.1 at
