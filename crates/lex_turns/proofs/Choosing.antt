-- What the search at a set is taken for.
use Rattle.std.proofs.Common.{ℕ, ℤ, List, [], ◌∷◌, ◌++◌, inl, inr, subst}
use Rattle.call_components.specs.Partition.{Partition}
use Rattle.cti_terms.specs.Listing.{Listing}
use Rattle.cti_terms.specs.Tree.{Tree}
use Rattle.linear_rows.proofs.Members.{of-append}
use Rattle.lex_turns.specs.Found.{AreVoid, IsChosen, IsVoid}
use Rattle.lex_turns.specs.FoundLists.{IsUnmapped}
use Rattle.lex_turns.specs.declared.within.Within.{Within}
use Rattle.lex_turns.specs.declared.within.Within.TheVariants as within

module _ (expression : ℕ → Tree → List ℤ) (p : Listing) (comps : Partition) (rows : ℕ → List (List ℤ)) (c : ℕ) where
  -- where no mapping is known, each list may be taken
  pub all_chosen : (s : List ℕ) (w : Within) → IsUnmapped expression p comps rows c s → IsChosen expression p comps rows c s w
  all_chosen s (within.List l) h = λ long. h
  all_chosen s within.Nothing h = tt
  all_chosen s within.GivenUp h = h

  -- one more set at which no list descends
  pub more_void : (sets : List (List ℕ)) (s : List ℕ) → AreVoid expression p comps rows c sets → IsVoid expression p comps rows c s → AreVoid expression p comps rows c (sets ++ s ∷ [])
  more_void sets s before here t i = elim (of-append sets (s ∷ []) t i) [
    | inl old ↦ before t old
    | inr (inl e) ↦ subst (IsVoid expression p comps rows c) e here
    | inr (inr none) ↦ absurd none
  ]
