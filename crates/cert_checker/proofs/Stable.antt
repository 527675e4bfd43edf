-- Statements that hold where it is refuted that they do not: equal tests, orders of numbers, and what is made of these.
use Rattle.std.proofs.Common.{◌≡◌, ◌<◌, ◌≤ℤ◌, ◌⊎◌, inl, inr, ℕ, ℤ, pos, negsuc, Bool, true, false, List, [], ◌∷◌, refl, arith}
use Rattle.std.proofs.lemmas.Bool.{cases_lt}
use Rattle.std.proofs.lemmas.Bool.Decides.{Decides-int_eq}
use Rattle.std.proofs.lemmas.Int.{by_lt_z, ints}
use Rattle.std.specs.List.{AllByRecursion}
use Rattle.std.specs.Ordering.{int_eq}
use Rattle.cti_terms.specs.declared.builtins.Builtin.{Builtin}
use Rattle.cti_terms.specs.declared.builtins.Builtin.TheVariants as builtin
use Rattle.linear_rows.specs.Members.{In}
use Rattle.termination_model.specs.claims.Claims.{SomeOf}
use Rattle.termination_model.specs.sizes.Stated.{is_row, stated_rows}

-- what cannot fail holds
abbrev pub IsStable : Type 0 → Type 0
IsStable A = ¬ (¬ A) → A

pub stable_true : (b : Bool) → IsStable (b ≡ true)
stable_true true h = refl
stable_true false h = absurd (h (λ e. cc))

pub stable_less : (m n : ℕ) → IsStable (m < n)
stable_less m n h = elim (cases_lt m n) [
  | inl lt ↦ lt
  | inr le ↦ absurd (h (λ lt. omega (arith, lt, le)))
]

pub stable_at_most : (a b : ℤ) → IsStable (a ≤ℤ b)
stable_at_most a b h = by_lt_z b a (λ less. absurd (h (λ le. omega (arith, ints, less, le)))) (λ le. le)

pub stable_same : (a b : ℤ) → IsStable (a ≡ b)
stable_same a b h = by (int_eq a b) refl
  where
    by : (t : Bool) → int_eq a b ≡ t → a ≡ b
    by true e = (Decides-int_eq a b).0 e
    by false e = absurd (h (λ same. let equal = (Decides-int_eq a b).1 same in cc))

pub stable_both : (A B : Type 0) → IsStable A → IsStable B → IsStable (A × B)
stable_both A B left right h = (left (λ no. h (λ both. no both.0)), right (λ no. h (λ both. no both.1)))

pub stable_all : {X : Type 0} → (P : X → Type 0) → ((x : X) → IsStable (P x)) → (xs : List X) → IsStable (AllByRecursion P xs)
stable_all P each [] h = tt
stable_all P each (x ∷ xs) h = (each x (λ no. h (λ all. no all.0)), stable_all P each xs (λ no. h (λ all. no all.1)))

stable_row : (r : List ℤ) → IsStable (is_row ≡ r)
stable_row [] h = absurd (h (λ e. cc))
stable_row (a ∷ []) h = absurd (h (λ e. cc))
stable_row (a ∷ (b ∷ [])) h = absurd (h (λ e. cc))
stable_row (a ∷ (b ∷ (c ∷ []))) h =
    let x = stable_same (pos 0) a (λ no. h (λ e. no (let same : pos 0 ≡ a = cc in same))) in
    let y = stable_same (negsuc 0) b (λ no. h (λ e. no (let same : negsuc 0 ≡ b = cc in same))) in
    let z = stable_same (pos 0) c (λ no. h (λ e. no (let same : pos 0 ≡ c = cc in same))) in
    λ i. x i ∷ (y i ∷ (z i ∷ []))
stable_row (a ∷ (b ∷ (c ∷ (d ∷ ds)))) h = absurd (h (λ e. cc))

-- a row is stated of built-in predicates of a kind
pub stable_stated : (b : Builtin) (r : List ℤ) → IsStable (In r (stated_rows b))
stable_stated builtin.Is r h = inl (stable_row r (λ no. h (λ has. elim has [
  | inl same ↦ no same
  | inr none ↦ none
])))
stable_stated builtin.Equal r h = h (λ has. has)
stable_stated builtin.NotEqual r h = h (λ has. has)
stable_stated builtin.Less r h = h (λ has. has)
stable_stated builtin.AtMost r h = h (λ has. has)
stable_stated builtin.Greater r h = h (λ has. has)
stable_stated builtin.AtLeast r h = h (λ has. has)

-- a list has an element with what can be decided, or it has none
pub some_or_none : {X : Type 0} → (P : X → Type 0) → ((x : X) → P x ⊎ (¬ P x)) → (xs : List X) → SomeOf P xs ⊎ (¬ SomeOf P xs)
some_or_none P which [] = inr (λ h. h)
some_or_none P which (x ∷ xs) = elim (which x) [
  | inl has ↦ inl (inl has)
  | inr lacks ↦ elim (some_or_none P which xs) [
    | inl some ↦ inl (inr some)
    | inr none ↦ inr (λ h. elim h [
      | inl has ↦ lacks has
      | inr some ↦ none some
    ])
  ]
]
