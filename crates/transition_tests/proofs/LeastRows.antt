-- Size rows of heads, a number at a time.
use Rattle.std.proofs.Common.{◌≡◌, ℕ, zero, suc, ◌+◌, ℤ, List, [], ◌∷◌, ◌++◌, take, length, slice_get, Option, None, Some, refl, ap, arith}
use Rattle.termination_model.specs.columns.ColumnRows.{least, negative}

pub length_least : (zs : List ℤ) (es : List (Option (List ℤ))) → length (least zs es) ≡ length zs
length_least [] es = refl
length_least (z ∷ zs) [] = refl
length_least (z ∷ zs) (None ∷ es) = ap suc (length_least zs es)
length_least (z ∷ zs) (Some e ∷ es) = ap suc (length_least zs es)

pub least_more : (zs : List ℤ) (es : List (Option (List ℤ))) (i : ℕ) (z : ℤ) (e : Option (List ℤ)) → slice_get zs i ≡ Some z → slice_get es i ≡ Some e
    → least (take (i + 1) zs) (take (i + 1) es) ≡ least (take i zs) (take i es) ++ least (z ∷ []) (e ∷ [])
least_more [] es i z e p q = cc
least_more (y ∷ zs) [] i z e p q = cc
least_more (y ∷ zs) (d ∷ es) zero z e p q =
    let same : y ≡ z = cc in
    let other : d ≡ e = cc in
    λ i. least (same i ∷ []) (other i ∷ [])
least_more (y ∷ zs) (None ∷ es) (suc i) z e p q =
    let rest = least_more zs es i z e p q in
    let more : suc i + 1 ≡ suc (i + 1) = omega arith in
    rw more (ap (λ s. negative y ∷ s) rest)
least_more (y ∷ zs) (Some d ∷ es) (suc i) z e p q =
    let rest = least_more zs es i z e p q in
    let more : suc i + 1 ≡ suc (i + 1) = omega arith in
    rw more (ap (λ s. y ∷ s) rest)
