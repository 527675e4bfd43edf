-- Laws of lists of clauses by predicates.
use Rattle.std.proofs.Common.{◌≡◌, ◌⊎◌, inl, inr, ℕ, zero, suc, ◌<◌, List, [], ◌∷◌, ◌++◌, length, replicate, slice_index_or, slice_set, Contains, sym, subst, arith}
use Rattle.std.proofs.lemmas.Bool.{cases_eq}
use Rattle.std.proofs.lemmas.List.{get_or-set_same, get_or-set_other}
use Rattle.std.proofs.lemmas.List.Elements.{Contains-append_left, Contains-push, Contains-push_cases}
use Rattle.groundness.specs.Marks.{HasUser}

-- the lists with a clause added to one of them
abbrev pub with_user : List (List ℕ) → ℕ → ℕ → List (List ℕ)
with_user lists q k = slice_set lists q (slice_index_or lists q [] ++ k ∷ [])

module _ (lists : List (List ℕ)) (q k : ℕ) (lt : q < length lists) where
  own : slice_index_or (with_user lists q k) q [] ≡ slice_index_or lists q [] ++ k ∷ []
  own = get_or-set_same lists q (slice_index_or lists q [] ++ k ∷ []) [] lt

  others : (r : ℕ) → ((r ≡ q) → ⊥) → slice_index_or (with_user lists q k) r [] ≡ slice_index_or lists r []
  others r ne = get_or-set_other lists q r (slice_index_or lists q [] ++ k ∷ []) [] ne

  pub user_more : (r j : ℕ) → HasUser lists r j → HasUser (with_user lists q k) r j
  user_more r j h = elim (cases_eq r q) [
    | inl same ↦
        subst (λ m. HasUser (with_user lists q k) m j) (sym same)
        (subst (λ (xs : List ℕ). Contains xs j) (sym own) (Contains-append_left (slice_index_or lists q []) (k ∷ []) j (subst (λ m. HasUser lists m j) same h)))
    | inr other ↦ subst (λ (xs : List ℕ). Contains xs j) (sym (others r other)) h
  ]

  pub user_added : HasUser (with_user lists q k) q k
  user_added = subst (λ (xs : List ℕ). Contains xs k) (sym own) (Contains-push (slice_index_or lists q []) k)

  pub user_only : (r j : ℕ) → HasUser (with_user lists q k) r j → HasUser lists r j ⊎ (j ≡ k)
  user_only r j h = elim (cases_eq r q) [
    | inl same ↦
        elim (Contains-push_cases (slice_index_or lists q []) k j (subst (λ (xs : List ℕ). Contains xs j) own (subst (λ m. HasUser (with_user lists q k) m j) same h))) [
          | inl before ↦ inl (subst (λ m. HasUser lists m j) (sym same) before)
          | inr last ↦ inr (sym last)
        ]
    | inr other ↦ inl (subst (λ (xs : List ℕ). Contains xs j) (others r other) h)
  ]

pub no_users : (n q j : ℕ) → HasUser (replicate n []) q j → ⊥
no_users zero q j h = let lt = h.1 in absurd (omega arith)
no_users (suc n) zero j h = let lt = h.1 in absurd (omega arith)
no_users (suc n) (suc q) j h = no_users n q j h
