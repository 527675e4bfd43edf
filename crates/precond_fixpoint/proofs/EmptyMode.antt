-- Where a set has the row of no arguments, it has no other minimal row.
use Rattle.std.proofs.Common.{◌≡◌, ◌<◌, ℕ, zero, suc, Bool, true, false, ◌&&◌, not, nat_lt, List, [], ◌∷◌, ◌++◌, length, map, refl, ap, ◌∙◌, arith}
use Rattle.std.proofs.lemmas.Bool.{le-ltb, lt-ltb}
use Rattle.std.specs.List.{AllByRecursion, filter, list_any}
use Rattle.termination_model.specs.claims.Descent.{mode_row}
use Rattle.termination_model.specs.grounds.Modes.{chosen, chosen_up_to, is_part, modes}
use Rattle.precond_fixpoint.proofs.ModeLaws.{any_false}

-- none of the lists is empty
abbrev AreFull : List (List ℕ) → Type 0
AreFull ls = AllByRecursion (λ (args : List ℕ). 0 < length args) ls

full_map : (i : ℕ) (ls : List (List ℕ)) → AreFull (map (λ args. i ∷ args) ls)
full_map i [] = tt
full_map i (args ∷ ls) = (omega arith, full_map i ls)

full_append : (xs ys : List (List ℕ)) → AreFull xs → AreFull ys → AreFull (xs ++ ys)
full_append [] ys fx fy = fy
full_append (x ∷ xs) ys fx fy = (fx.0, full_append xs ys fx.1 fy)

full_chosen : (k i m : ℕ) → AreFull (chosen (suc k) i m)
full_chosen k i zero = tt
full_chosen k i (suc m) = full_append (map (λ args. i ∷ args) (chosen k (suc i) m)) (chosen (suc k) (suc i) m) (full_map i (chosen k (suc i) m)) (full_chosen k (suc i) m)

-- those of at most k arguments, but the empty one
abbrev others : ℕ → ℕ → List (List ℕ)
others n zero = []
others n (suc k) = others n k ++ chosen (suc k) 1 n

empty_first : (n k : ℕ) → chosen_up_to n k ≡ [] ∷ others n k
empty_first n zero = refl
empty_first n (suc k) = ap (λ ls. ls ++ chosen (suc k) 1 n) (empty_first n k)

full_others : (n k : ℕ) → AreFull (others n k)
full_others n zero = tt
full_others n (suc k) = full_append (others n k) (chosen (suc k) 1 n) (full_others n k) (full_chosen k 1 n)

full_if : (f : List ℕ → Bool) (x : List ℕ) (xs : List (List ℕ)) (b : Bool) → f x ≡ b → 0 < length x → AreFull (filter f xs) → AreFull (filter f (x ∷ xs))
full_if f x xs true e full rest = rw e (full, rest)
full_if f x xs false e full rest = rw e rest

full_filter : (f : List ℕ → Bool) (ls : List (List ℕ)) → AreFull ls → AreFull (filter f ls)
full_filter f [] h = tt
full_filter f (x ∷ xs) h = full_if f x xs (f x) refl h.0 (full_filter f xs h.1)

none_kept : (f : List ℕ → Bool) (ls : List (List ℕ)) → ((x : List ℕ) → 0 < length x → f x ≡ false) → AreFull ls → filter f ls ≡ []
none_kept f [] each h = refl
none_kept f (x ∷ xs) each h = rw (each x h.0) (none_kept f xs each h.1)

-- whether a shorter one of the lists is part of this one
abbrev has_less : List (List ℕ) → List ℕ → Bool
has_less ls args = list_any (λ less. nat_lt (length less) (length args) && is_part less args) ls

empty_has_none : (ls : List (List ℕ)) → has_less ls [] ≡ false
empty_has_none ls = any_false (λ (less : List ℕ). nat_lt (length less) 0 && is_part less []) ls (λ i less e. rw (le-ltb (length less) 0 (omega arith)) refl)

full_has_empty : (ls : List (List ℕ)) (args : List ℕ) → 0 < length args → has_less ([] ∷ ls) args ≡ true
full_has_empty ls [] h = absurd (omega (arith, h))
full_has_empty ls (x ∷ args) h = rw (lt-ltb 0 (suc (length args)) (omega arith)) refl

only_empty : (ls : List (List ℕ)) → AreFull ls → filter (λ args. not (has_less ([] ∷ ls) args)) ([] ∷ ls) ≡ [] ∷ []
only_empty ls full =
    let rest = none_kept (λ args. not (has_less ([] ∷ ls) args)) ls (λ x h. ap not (full_has_empty ls x h)) full in
    rw (ap not (empty_has_none ([] ∷ ls))) (ap (λ xs. [] ∷ xs) rest)

-- the only mode is the empty one
pub empty_mode : (n : ℕ) (set : List Bool → Bool) → set (mode_row [] 1 n) ≡ true → modes n set ≡ [] ∷ []
empty_mode n set has =
    let f : List ℕ → Bool = λ args. set (mode_row args 1 n) in
    let kept : filter f ([] ∷ others n n) ≡ [] ∷ filter f (others n n) = rw has refl in
    let all = ap (filter f) (empty_first n n) ∙ kept in
    ap (λ ls. filter (λ args. not (has_less ls args)) ls) all ∙ only_empty (filter f (others n n)) (full_filter f (others n n) (full_others n n))
