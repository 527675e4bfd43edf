-- The value of a row.
use Rattle.std.proofs.Common.{◌≡◌, ℤ, ◌+ℤ◌, ◌*ℤ◌, Option, None, Some, List, ◌∷◌, ◌∙◌}
use Rattle.std.specs.Prelude.{SomeIff, IfSome}
use Rattle.exact128.specs.Sums.{dot}

-- the value of a row, constant first
pub value_is : (b t : ℤ) (cs w : List ℤ) (P : Type 0) (x y : ℤ) (o : Option ℤ) → SomeIff o P (x +ℤ y) → x ≡ b *ℤ t → y ≡ dot cs w → IfSome o (λ v. v ≡ dot (b ∷ cs) (t ∷ w))
unfolding dot
value_is b t cs w P x y None s ex ey = tt
value_is b t cs w P x y (Some v) s ex ey = s.1 ∙ (λ i. ex i +ℤ ey i)
