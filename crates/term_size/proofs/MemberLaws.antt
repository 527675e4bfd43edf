-- The members of a set of bits, and sets with one more.
use Rattle.std.proofs.Common.{◌≡◌, ◌↔◌, ◌⊎◌, inl, inr, ℕ, zero, suc, ◌+◌, ◌*◌, ◌%◌, ◌^◌, ◌<◌, ◌≤◌, Bool, true, false, ◌==◌, if◌then◌else◌, IsTrue, List, [], ◌∷◌, Contains, All, refl, sym, ap, ◌∙◌, arith, eqb-true, ltb-true, nat_lt, bit_or, w64, slice_index_or, nat_eq, bit_and, ◌/◌}
use Rattle.std.specs.Int.{bit_at}
use Rattle.std.proofs.lemmas.Bool.{cases_eq, eq-eqb}
use Rattle.std.proofs.lemmas.List.Elements.{All-contains_itself, Contains-append_right, Contains-push_cases, Contains-append_cases}
use Rattle.std.proofs.lemmas.Nat.Bits.{bit_at_set_same, bit_at_set_other, shr_and_one, bit_at-zero}
use Rattle.term_size.specs.declared.var_set.VarSet.{VarSet}
use Rattle.term_size.specs.Members.{members_from, members}

contains_cons_cases : (y : ℕ) (ys : List ℕ) (x : ℕ) → Contains (y ∷ ys) x → (y ≡ x) ⊎ Contains ys x
contains_cons_cases y ys x h = elim (Contains-append_cases (y ∷ []) ys x h) [
  | inl one ↦ elim (Contains-push_cases [] y x one) [ inl none ↦ absurd (omega (arith, none.1)) | inr e ↦ inl e ]
  | inr rest ↦ inr rest
]

-- a number is a member where it is in range and its bit is set
made : (bits k n x : ℕ) → k ≤ x → x < k + n → bit_at bits x ≡ 1 → Contains (members_from bits k n) x
unfolding members_from
made bits k zero x le lt set = absurd (omega arith)
made bits k (suc n) x le lt set = go (bit_at bits k == 1) refl (cases_eq k x) (λ above. made bits (suc k) n x above (omega arith) set)
  where
    go : (b : Bool) → (bit_at bits k == 1) ≡ b → ((k ≡ x) ⊎ ((k ≡ x) → ⊥)) → (suc k ≤ x → Contains (members_from bits (suc k) n) x) → Contains (if b then k ∷ members_from bits (suc k) n else members_from bits (suc k) n) x
    go true e (inl same) more = (0, omega arith, same)
    go true e (inr other) more = Contains-append_right (k ∷ []) (members_from bits (suc k) n) x (more (omega arith))
    go false e (inl same) more = let one : bit_at bits k ≡ 1 = ap (bit_at bits) same ∙ set in let t = eq-eqb (bit_at bits k) 1 one in absurd (cc)
    go false e (inr other) more = more (omega arith)

-- and only there
found : (bits k n x : ℕ) → Contains (members_from bits k n) x → (k ≤ x) × (x < k + n) × (bit_at bits x ≡ 1)
unfolding members_from
found bits k zero x h = absurd (omega (arith, h.1))
found bits k (suc n) x h = go (bit_at bits k == 1) refl h (λ m. let r = found bits (suc k) n x m in (omega (arith, r.0), omega (arith, r.1), r.2))
  where
    go : (b : Bool) → (bit_at bits k == 1) ≡ b → Contains (if b then k ∷ members_from bits (suc k) n else members_from bits (suc k) n) x → (Contains (members_from bits (suc k) n) x → (k ≤ x) × (x < k + suc n) × (bit_at bits x ≡ 1)) → (k ≤ x) × (x < k + suc n) × (bit_at bits x ≡ 1)
    go true e m later = elim (contains_cons_cases k (members_from bits (suc k) n) x m) [
      | inl same ↦ (omega arith, omega arith, ap (bit_at bits) (sym same) ∙ eqb-true (bit_at bits k) 1 e)
      | inr rest ↦ later rest
    ]
    go false e m later = later m

pub contains_made : (set : VarSet) (x : ℕ) → x < 64 → bit_at set.0 x ≡ 1 → Contains (members set) x
unfolding members
contains_made set x lt one = made set.0 0 64 x (omega arith) (omega arith) one

pub contains_found : (set : VarSet) (x : ℕ) → Contains (members set) x → (x < 64) × (bit_at set.0 x ≡ 1)
unfolding members
contains_found set x h = let r = found set.0 0 64 x h in (omega (arith, r.1), r.2)

none_from : (k n : ℕ) → members_from 0 k n ≡ []
unfolding members_from
none_from k zero = refl
none_from k (suc n) = rw (bit_at-zero k) (none_from (suc k) n)

-- the set without members
pub no_members : (set : VarSet) → set.0 ≡ 0 → members set ≡ []
unfolding members
no_members set e = rw e (none_from 0 64)

-- the test of a member
pub tested : (set : VarSet) (x : ℕ) → x < 64 → IsTrue (nat_eq (bit_and (set.0 / 2 ^ x) 1) 1) ↔ Contains (members set) x
tested set x lt = (
  λ t. contains_made set x lt (sym (shr_and_one set.0 x) ∙ eqb-true (bit_and (set.0 / 2 ^ x) 1) 1 t),
  λ m. eq-eqb (bit_and (set.0 / 2 ^ x) 1) 1 (shr_and_one set.0 x ∙ (contains_found set x m).1),
)

pub not_tested : (set : VarSet) (x : ℕ) → 64 ≤ x → IsTrue (nat_lt x 64) ↔ Contains (members set) x
not_tested set x le = (λ f. absurd (omega (arith, ltb-true x 64 f)), λ m. absurd (omega (arith, (contains_found set x m).0)))

-- a set with one more
pub inserted : (old new : VarSet) (k x : ℕ) → k < 64 → new.0 ≡ bit_or old.0 (1 * 2 ^ k % 2 ^ 64) → Contains (members new) x ↔ (Contains (members old) x ⊎ (x ≡ k))
inserted old new k x lt e = (forth (cases_eq x k), back)
  where
    forth : (x ≡ k) ⊎ ((x ≡ k) → ⊥) → Contains (members new) x → Contains (members old) x ⊎ (x ≡ k)
    forth (inl same) m = inr same
    forth (inr other) m =
        let r = contains_found new x m in
        inl (contains_made old x r.0 (sym (bit_at_set_other w64 old.0 k lt x other) ∙ ap (λ b. bit_at b x) (sym e) ∙ r.1))

    put : Contains (members old) x → (x ≡ k) ⊎ ((x ≡ k) → ⊥) → Contains (members new) x
    put m (inl same) = contains_made new x (omega arith) (ap (λ b. bit_at b x) e ∙ ap (bit_at (bit_or old.0 (1 * 2 ^ k % 2 ^ 64))) same ∙ bit_at_set_same w64 old.0 k lt)
    put m (inr other) =
        let r = contains_found old x m in
        contains_made new x r.0 (ap (λ b. bit_at b x) e ∙ bit_at_set_other w64 old.0 k lt x other ∙ r.1)

    back : Contains (members old) x ⊎ (x ≡ k) → Contains (members new) x
    back (inl m) = put m (cases_eq x k)
    back (inr same) = contains_made new x (omega arith) (ap (λ b. bit_at b x) e ∙ ap (bit_at (bit_or old.0 (1 * 2 ^ k % 2 ^ 64))) same ∙ bit_at_set_same w64 old.0 k lt)

-- a fact of each member
pub all_members : (P : ℕ → Type 0) (xs : List ℕ) → ((x : ℕ) → Contains xs x → P x) → All P xs
all_members P xs h = λ k d lt. h (slice_index_or xs k d) (All-contains_itself xs k d lt)
