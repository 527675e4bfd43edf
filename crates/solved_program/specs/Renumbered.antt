-- Private.
-- Steps of passes over clauses that have other numbers.
use Rattle.std.specs.Prelude.{ℕ, suc, ◌==◌, if◌then◌else◌, List, [], ◌∷◌, length, slice_index_or}
use Rattle.termination_model.specs.chains.ChainSteps.{Step}
use Rattle.component_laws.specs.Runs.{with_number}

-- the place after this one among n, where the first comes after the last
abbrev pub next_place : ℕ → ℕ → ℕ
next_place n place = if suc place == n then 0 else suc place

-- steps with the numbers of these clauses, which come in turn from this place on
abbrev pub in_turn : List ℕ → ℕ → List Step → List Step
in_turn own place [] = []
in_turn own place (s ∷ ss) = with_number (slice_index_or own place 0) s ∷ in_turn own (next_place (length own) place) ss
