-- What the search at a set is taken for.
use Rattle.std.proofs.Common.{ℕ, List, [], ◌∷◌, ◌++◌, inl, inr, subst}
use Rattle.transitions.specs.Transitions.{Transition}
use Rattle.number_lists.specs.declared.position.Position.{Position}
use Rattle.linear_rows.proofs.Members.{of-append}
use Rattle.number_lists.specs.Found.{AreVoid, IsVoid}

module _ (members : List ℕ) (positions : List Position) (τs : List Transition) (width : ℕ → ℕ) where
  -- one more set at which no list descends
  pub more_void : (sets : List (List ℕ)) (s : List ℕ) → AreVoid members positions τs width sets → IsVoid members positions τs width s → AreVoid members positions τs width (sets ++ s ∷ [])
  more_void sets s before here t i = elim (of-append sets (s ∷ []) t i) [
    | inl old ↦ before t old
    | inr (inl e) ↦ subst (IsVoid members positions τs width) e here
    | inr (inr none) ↦ absurd none
  ]
