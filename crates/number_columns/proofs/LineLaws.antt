-- Rows that are made number by number.
use Rattle.std.proofs.Common.{◌≡◌, ◌∙◌, ℤ, List, [], ◌∷◌, ◌++◌, Bool, true, false, ◌&&◌, refl, ap}
use Rattle.exact128.specs.Fits.{fits}
use Rattle.linear_rows.specs.Replacing.{row_fits}

and_true : (b : Bool) → (b && true) ≡ (true && b)
and_true true = refl
and_true false = refl

and_assoc : (a b c : Bool) → (a && (b && c)) ≡ ((a && b) && c)
and_assoc true b c = refl
and_assoc false b c = refl

-- one number more
pub fits_more : (zs : List ℤ) (z : ℤ) → row_fits (zs ++ z ∷ []) ≡ (row_fits zs && fits z)
fits_more [] z = and_true (fits z)
fits_more (y ∷ ys) z = ap (λ b. fits y && b) (fits_more ys z) ∙ and_assoc (fits y) (row_fits ys) (fits z)

pub and_kept : (a b : Bool) → b ≡ true → (a && b) ≡ a
and_kept true b h = h
and_kept false b h = refl

pub and_lost : (a b : Bool) → b ≡ false → (a && b) ≡ false
and_lost true b h = h
and_lost false b h = refl
