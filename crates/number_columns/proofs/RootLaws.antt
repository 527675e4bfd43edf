-- The node that stands for the set of a node.
use Rattle.std.proofs.Common.{◌≡◌, ◌∙◌, ℕ, zero, suc, ◌+◌, ◌*◌, ◌/◌, ◌%◌, ◌<◌, ◌≤◌, ◌==◌, Bool, true, false, if◌then◌else◌, List, length, inl, inr, refl, ap, sym, subst, arith}
use Rattle.std.proofs.lemmas.Bool.{cases_eq}
use Rattle.std.proofs.lemmas.Bool.Decides.{nat_tests}
use Rattle.number_columns.specs.Links.{AreFalling, Respects, mark_of, node_of, parent}

root_from : ℕ → List ℕ → ℕ → ℕ
root_from zero ps i = i
root_from (suc n) ps i = if parent ps i == i then i else root_from n ps (parent ps i)

pub root_of : List ℕ → ℕ → ℕ
root_of ps i = root_from i ps i

pub same_test : (a b : ℕ) → a ≡ b → (a == b) ≡ true
same_test a b e = grind (arith, nat_tests)

pub test_same : (a b : ℕ) → (a == b) ≡ true → a ≡ b
test_same a b e = grind (arith, nat_tests)

other_test : (a b : ℕ) → (a ≡ b → ⊥) → (a == b) ≡ false
other_test a b e = grind (arith, nat_tests)

module _ (ps : List ℕ) (falling : AreFalling ps) where
  step_same : (n i : ℕ) → parent ps i ≡ i → root_from n ps i ≡ i
  unfolding root_from
  step_same zero i e = refl
  step_same (suc n) i e = ap (λ (b : Bool). if b then i else root_from n ps (parent ps i)) (same_test (parent ps i) i e)

  step_up : (n i : ℕ) → (parent ps i ≡ i → ⊥) → root_from (suc n) ps i ≡ root_from n ps (parent ps i)
  unfolding root_from
  step_up n i e = ap (λ (b : Bool). if b then i else root_from n ps (parent ps i)) (other_test (parent ps i) i e)

  -- from far enough it does not matter how far
  enough : (n m i : ℕ) → i < length ps → i ≤ n → i ≤ m → root_from n ps i ≡ root_from m ps i
  enough zero m i lt h k =
      let e : parent ps i ≡ i = omega (arith, h, falling i lt) in
      step_same zero i e ∙ sym (step_same m i e)
  enough (suc n) zero i lt h k =
      let e : parent ps i ≡ i = omega (arith, k, falling i lt) in
      step_same (suc n) i e ∙ sym (step_same zero i e)
  enough (suc n) (suc m) i lt h k = elim (cases_eq (parent ps i) i) [
    | inl e ↦ step_same (suc n) i e ∙ sym (step_same (suc m) i e)
    | inr ne ↦ step_up n i ne ∙ enough n m (parent ps i) (omega (arith, lt, falling i lt)) (omega (arith, h, falling i lt, ne)) (omega (arith, k, falling i lt, ne)) ∙ sym (step_up m i ne)
  ]

  pub roots_respect : Respects (root_of ps) ps
  unfolding root_of
  roots_respect i lt = elim (cases_eq (parent ps i) i) [
    | inl e ↦ ap (root_of ps) e
    | inr ne ↦ at i lt ne
  ]
    where
      at : (i : ℕ) → i < length ps → (parent ps i ≡ i → ⊥) → root_from (parent ps i) ps (parent ps i) ≡ root_from i ps i
      at zero lt ne = absurd (ne (omega (arith, falling zero lt)))
      at (suc k) lt ne =
          enough (parent ps (suc k)) k (parent ps (suc k)) (omega (arith, lt, falling (suc k) lt)) (omega arith) (omega (arith, falling (suc k) lt, ne)) ∙ sym (step_up k (suc k) ne)

  pub root_is : (r : ℕ) → parent ps r ≡ r → root_of ps r ≡ r
  unfolding root_of
  root_is r e = step_same r r e

-- ---- marks of positions

pub mark_is : (s : ℕ → ℕ → Bool) (q i : ℕ) → i < 12 → mark_of s (node_of q i) ≡ (if s q i then 1 else 0)
mark_is s q i lt =
    let next : node_of q i ≡ suc (q * 12 + i) = omega arith in
    let pred : (q * 12 + i) / 12 ≡ q = omega arith in
    let place : (q * 12 + i) % 12 ≡ i = omega arith in
    ap (mark_of s) next ∙ (λ j. if s (pred j) (place j) then 1 else 0)
