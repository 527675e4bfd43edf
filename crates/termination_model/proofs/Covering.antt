-- Rows of truth values that cover coefficients, place by place.
use Rattle.std.proofs.Common.{◌≡◌, ℕ, zero, suc, ◌<◌, Bool, true, List, [], ◌∷◌, refl, arith}
use Rattle.termination_model.specs.sizes.Rows.{Covers}
use Rattle.termination_model.specs.mappings.Coefficients.{coefficient}

pub value_at : List Bool → ℕ → Bool
value_at [] i = true
value_at (b ∷ bs) zero = b
value_at (b ∷ bs) (suc i) = value_at bs i

pub covered_at : (cs : List ℕ) (bs : List Bool) → Covers cs bs → (i : ℕ) → 0 < coefficient cs i → value_at bs i ≡ true
unfolding value_at
covered_at [] bs h i l = absurd (omega arith)
covered_at (a ∷ cs) [] h i l = refl
covered_at (a ∷ cs) (b ∷ bs) h zero l = h.0 l
covered_at (a ∷ cs) (b ∷ bs) h (suc i) l = covered_at cs bs h.1 i l

pub covered_by : (cs : List ℕ) (bs : List Bool) → ((i : ℕ) → 0 < coefficient cs i → value_at bs i ≡ true) → Covers cs bs
unfolding value_at
covered_by [] bs h = tt
covered_by (a ∷ cs) [] h = tt
covered_by (a ∷ cs) (b ∷ bs) h = (h 0, covered_by cs bs (λ i. h (suc i)))
