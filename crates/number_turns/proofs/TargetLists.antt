-- The targets of a turn, one transition after another.
use Rattle.std.proofs.Common.{◌≡◌, ℕ, Bool, true, false, List, [], ◌∷◌, ◌++◌, length, refl, ap}
use Rattle.std.specs.Prelude.{slice_index_or}
use Rattle.transitions.specs.StuckSets.{Feature}
use Rattle.transitions.specs.Transitions.{Transition}
use Rattle.transitions.specs.Turns.{fall_target, level_target, targets}
use Rattle.number_turns.specs.Demanding.{targets_by}

none_marked : (k : ℕ) → slice_index_or [] k false ≡ false
none_marked k = refl

pub targets_more : (fs : List Feature) (τs : List Transition) (τ : Transition) (marks : List Bool)
    → targets fs (τs ++ τ ∷ []) marks ≡ targets fs τs marks ++ targets_by fs (slice_index_or marks (length τs) false) τ
targets_more fs [] τ [] = refl
targets_more fs [] τ (false ∷ marks) = refl
targets_more fs [] τ (true ∷ marks) = refl
targets_more fs (σ ∷ τs) τ [] = ap (λ s. fall_target fs 0 σ ∷ s) (targets_more fs τs τ [])
targets_more fs (σ ∷ τs) τ (false ∷ marks) = ap (λ s. fall_target fs 0 σ ∷ s) (targets_more fs τs τ marks)
targets_more fs (σ ∷ τs) τ (true ∷ marks) = ap (λ s. fall_target fs 1 σ ∷ (level_target fs σ ∷ s)) (targets_more fs τs τ marks)
