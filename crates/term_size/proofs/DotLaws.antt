-- Laws of the name of a list's cells.
use Rattle.std.proofs.Common.{◌≡◌, ℕ, zero, suc, ◌+◌, Bool, true, false, if◌then◌else◌, List, [], ◌∷◌, length, drop, slice_get, Option, None, Some, unwrap_or, refl, ap, sym, ◌∙◌, arith}
use Rattle.cti_terms.specs.declared.naming.Name.{Name}
use Rattle.term_size.specs.AnyNorm.{dot_from, is_dot_text}

at_drop : (xs : List (List ℕ)) (i : ℕ) (t : List ℕ) → slice_get xs i ≡ Some t → drop i xs ≡ t ∷ drop (suc i) xs
at_drop [] zero t e = cc
at_drop [] (suc i) t e = cc
at_drop (x ∷ xs) zero t e = ap (λ (o : Option (List ℕ)). unwrap_or o x ∷ xs) e
at_drop (x ∷ xs) (suc i) t e = at_drop xs i t e

past_all : (xs : List (List ℕ)) (i : ℕ) → i ≡ length xs → drop i xs ≡ []
past_all [] zero e = refl
past_all [] (suc i) e = refl
past_all (x ∷ xs) zero e = absurd (omega (arith, e))
past_all (x ∷ xs) (suc i) e = past_all xs i (omega (arith, e))

module _ (xs : List (List ℕ)) (i : ℕ) where
  -- text i is a dot
  pub dot_here : (t : List ℕ) → slice_get xs i ≡ Some t → is_dot_text t ≡ true → dot_from i (drop i xs) ≡ Some (record { 0 = i })
  dot_here t at dot = ap (dot_from i) (at_drop xs i t at) ∙ ap (λ (b : Bool). if b then Some (record { 0 = i }) else dot_from (suc i) (drop (suc i) xs)) dot

  -- it is not
  pub dot_later : (t : List ℕ) → slice_get xs i ≡ Some t → is_dot_text t ≡ false → dot_from i (drop i xs) ≡ dot_from (i + 1) (drop (i + 1) xs)
  dot_later t at other =
      ap (dot_from i) (at_drop xs i t at)
      ∙ ap (λ (b : Bool). if b then Some (record { 0 = i }) else dot_from (suc i) (drop (suc i) xs)) other
      ∙ ap (λ (k : ℕ). dot_from k (drop k xs)) (let e : suc i ≡ i + 1 = omega arith in e)

  -- there are no more texts
  pub no_dot : i ≡ length xs → dot_from i (drop i xs) ≡ None
  no_dot e = ap (dot_from i) (past_all xs i e)
