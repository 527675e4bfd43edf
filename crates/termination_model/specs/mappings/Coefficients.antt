-- To believe, for the modes.
-- The coefficients of mappings, by argument.
--
-- To believe: all of this file.
use Rattle.std.specs.Prelude.{ℕ, zero, suc, ◌<◌, List, [], ◌∷◌}
use Rattle.termination_model.specs.claims.Claims.{Mapping, SomeOf}

-- the coefficient of argument i, from 0 on
abbrev pub coefficient : List ℕ → ℕ → ℕ
coefficient [] i = 0
coefficient (a ∷ cs) zero = a
coefficient (a ∷ cs) (suc i) = coefficient cs i

-- one of the mappings has a positive coefficient at argument i of the predicate q
abbrev pub IsSupported : List Mapping → ℕ → ℕ → Type 0
IsSupported ls q i = SomeOf (λ (l : Mapping). 0 < coefficient (l.coefficients q) i) ls
