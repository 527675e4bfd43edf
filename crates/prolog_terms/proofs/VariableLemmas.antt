-- Numbering one variable.
use Rattle.std.proofs.Common.{◌≡◌, ℕ, zero, suc, get_or, ◌+◌, ◌<◌, ◌≤◌, Bool, true, false, nat_eq, List, [], ◌∷◌, ◌++◌, length, refl, inl, inr, arith, lt-ltb, le-ltb}
use Rattle.std.specs.Cmp.Lexicographic.{pointwise}
use Rattle.cti_terms.specs.Numbers.{number_of, with_text}
use Rattle.prolog_terms.specs.Symbols.{Seen, is_anonymous, is_seen, with_variable}
use Rattle.prolog_operators.proofs.NameLemmas.{Placed, placed, text_there, text_away}

module _ (named : List (List ℕ)) (numbers : List ℕ) (count : ℕ) (name : List ℕ) (paired : length named ≡ length numbers) (plain : is_anonymous name ≡ false) where
  abbrev seen : Seen
  seen = record { named = named; numbers = numbers; count = count }

  -- a variable that was there changes nothing
  pub variable_there : number_of named name < length numbers → (with_text named name ≡ named) × (with_variable seen name ≡ seen)
  variable_there h = by_place (placed (pointwise nat_eq name) named)
    where
      by_place : Placed (pointwise nat_eq name) named → (with_text named name ≡ named) × (with_variable seen name ≡ seen)
      by_place (inl there) = (text_there named name there.0, rw (plain, lt-ltb (number_of named name) (length numbers) h) refl)
      by_place (inr away) = absurd (omega (arith, h, away.1, paired))

  -- a new one comes last
  pub variable_away : length numbers ≤ number_of named name
      → (with_text named name ≡ named ++ name ∷ []) × (with_variable seen name ≡ record { named = named ++ name ∷ []; numbers = numbers ++ count ∷ []; count = count + 1 })
  variable_away h = by_place (placed (pointwise nat_eq name) named)
    where
      by_place : Placed (pointwise nat_eq name) named
          → (with_text named name ≡ named ++ name ∷ []) × (with_variable seen name ≡ record { named = named ++ name ∷ []; numbers = numbers ++ count ∷ []; count = count + 1 })
      by_place (inl there) = absurd (omega (arith, h, there.1, paired))
      by_place (inr away) = (text_away named name away.0, rw (plain, le-ltb (number_of named name) (length numbers) h) refl)

-- one variable or `_` more at most
pub variable_count : (seen : Seen) (name : List ℕ) → (with_variable seen name).count ≤ seen.count + 1
variable_count seen name = by_tests (is_anonymous name) (is_seen seen name) refl refl
  where
    by_tests : (a b : Bool) → is_anonymous name ≡ a → is_seen seen name ≡ b → (with_variable seen name).count ≤ seen.count + 1
    by_tests true b e f = rw e (omega arith)
    by_tests false true e f = rw (e, f) (omega arith)
    by_tests false false e f = rw (e, f) (omega arith)

-- one number more, and one variable more
pub each_pushed : (xs : List ℕ) (n i d : ℕ) → ((j : ℕ) → j < length xs → get_or xs j d < n) → i < length (xs ++ n ∷ []) → get_or (xs ++ n ∷ []) i d < n + 1
each_pushed [] n zero d h g = omega arith
each_pushed [] n (suc i) d h g = absurd (omega (arith, g))
each_pushed (x ∷ xs) n zero d h g = let k : x < n = h 0 (omega arith) in omega (arith, k)
each_pushed (x ∷ xs) n (suc i) d h g = each_pushed xs n i d (λ j k. h (suc j) (omega (arith, k))) (omega (arith, g))
