-- Lists that are parts of others, in their order.
use Rattle.std.proofs.Common.{◌≡◌, ℕ, suc, ◌+◌, inl, inr, List, [], ◌∷◌, ◌++◌, take, slice_get, Some, refl, ap, sym, subst, ◌∙◌, arith}
use Rattle.linear_rows.specs.Members.{In}
use Rattle.linear_rows.proofs.Members.{of-append}
use Rattle.termination_model.proofs.Lists.{taken_more}
use Rattle.level_systems.specs.Subsequences.{AreOnce, IsSubsequence}

pub longer : {X : Type 0} (xs ys : List X) (y : X) → IsSubsequence xs ys → IsSubsequence xs (ys ++ y ∷ [])
longer [] ys y h = tt
longer (x ∷ xs) [] y h = absurd h
longer (x ∷ xs) (z ∷ ys) y (inl e) = inl (e.0, longer xs ys y e.1)
longer (x ∷ xs) (z ∷ ys) y (inr r) = inr (longer (x ∷ xs) ys y r)

pub one_more_each : {X : Type 0} (xs ys : List X) (y : X) → IsSubsequence xs ys → IsSubsequence (xs ++ y ∷ []) (ys ++ y ∷ [])
one_more_each [] [] y h = inl (refl, tt)
one_more_each [] (z ∷ ys) y h = inr (one_more_each [] ys y tt)
one_more_each (x ∷ xs) [] y h = absurd h
one_more_each (x ∷ xs) (z ∷ ys) y (inl e) = inl (e.0, one_more_each xs ys y e.1)
one_more_each (x ∷ xs) (z ∷ ys) y (inr r) = inr (one_more_each (x ∷ xs) ys y r)

module _ {X : Type 0} (order xs : List X) (i : ℕ) (s : X) (at : slice_get order i ≡ Some s) (h : IsSubsequence xs (take i order)) where
  next : take i order ++ s ∷ [] ≡ take (suc i) order
  next = let more : i + 1 ≡ suc i = omega arith in sym (taken_more order i s at) ∙ ap (λ n. take n order) more

  pub kept_order : IsSubsequence xs (take (suc i) order)
  kept_order = subst (IsSubsequence xs) next (longer xs (take i order) s h)

  pub pushed_order : IsSubsequence (xs ++ s ∷ []) (take (suc i) order)
  pushed_order = subst (IsSubsequence (xs ++ s ∷ [])) next (one_more_each xs (take i order) s h)

pub once_push : {X : Type 0} (xs : List X) (y : X) → AreOnce xs → (In y xs → ⊥) → AreOnce (xs ++ y ∷ [])
once_push [] y o n = ((λ i. i), tt)
once_push (x ∷ xs) y o n = (
  (λ i. elim (of-append xs (y ∷ []) x i) [
    | inl old ↦ o.0 old
    | inr new ↦ elim new [ inl e ↦ n (inl (sym e)) | inr none ↦ none ]
  ]),
  once_push xs y o.1 (λ i. n (inr i)),
)

-- what is in a part is in the whole
pub in_whole : {X : Type 0} (xs ys : List X) (x : X) → IsSubsequence xs ys → In x xs → In x ys
in_whole [] ys x h i = absurd i
in_whole (y ∷ xs) [] x h i = absurd h
in_whole (y ∷ xs) (z ∷ ys) x (inl e) (inl s) = inl (sym e.0 ∙ s)
in_whole (y ∷ xs) (z ∷ ys) x (inl e) (inr i) = inr (in_whole xs ys x e.1 i)
in_whole (y ∷ xs) (z ∷ ys) x (inr r) i = inr (in_whole (y ∷ xs) ys x r i)
