-- Rows with zeros for more naturals, and a natural for each column of a head that has no expression.
use Rattle.std.proofs.Common.{◌≡◌, ℕ, zero, suc, ◌≤◌, ℤ, pos, Bool, true, false, ◌&&◌, ◌||◌, if◌then◌else◌, not, inl, inr, List, [], ◌∷◌, ◌++◌, map, length, Option, None, Some, refl, ap, sym, subst, ◌∙◌, arith}
use Rattle.std.specs.Prelude.{All, ◌≤ℤ◌}
use Rattle.std.specs.List.{AllByRecursion}
use Rattle.std.proofs.lemmas.Int.{ints}
use Rattle.exact128.specs.Fits.{fits}
use Rattle.linear_rows.specs.Members.{In}
use Rattle.linear_rows.proofs.Members.{from_All, of-append, to_All}
use Rattle.linear_rows.specs.Replacing.{row_fits}
use Rattle.linear_rows.specs.Solving.{units, zeros}
use Rattle.termination_model.specs.sizes.ShortSystems.{short_row}
use Rattle.termination_model.specs.sizes.Sizes.{wide_rows}
use Rattle.size_chains.specs.Systems.{IsHeadColumn, missing, tied, widened}

-- ---- zeros behind a row
zeros_fit : (m : ℕ) → row_fits (zeros m) ≡ true
zeros_fit zero = refl
zeros_fit (suc m) = zeros_fit m

fits_widened : (m : ℕ) (r : List ℤ) → row_fits (widened m r) ≡ row_fits r
fits_widened m [] = zeros_fit m
fits_widened m (x ∷ r) = ap (λ (b : Bool). fits x && b) (fits_widened m r)

noughts : List ℤ → List ℤ
noughts r = map (λ _. pos 0) r

noughts_widened : (m : ℕ) (r : List ℤ) → noughts (widened m r) ≡ widened m (noughts r)
unfolding noughts
noughts_widened m [] = all m
  where
    all : (m : ℕ) → map (λ _. pos 0) (zeros m) ≡ zeros m
    all zero = refl
    all (suc m) = ap (λ (xs : List ℤ). pos 0 ∷ xs) (all m)
noughts_widened m (x ∷ r) = ap (λ (xs : List ℤ). pos 0 ∷ xs) (noughts_widened m r)

short_widened_row : (m : ℕ) (r : List ℤ) → short_row (widened m r) ≡ widened m (short_row r)
unfolding noughts
short_widened_row m r = go (row_fits r) refl
  where
    go : (b : Bool) → row_fits r ≡ b → short_row (widened m r) ≡ widened m (short_row r)
    go true e =
        ap (λ (b : Bool). if b then widened m r else map (λ _. pos 0) (widened m r)) (fits_widened m r ∙ e)
        ∙ ap (λ (b : Bool). widened m (if b then r else map (λ _. pos 0) r)) (sym e)
    go false e =
        ap (λ (b : Bool). if b then widened m r else map (λ _. pos 0) (widened m r)) (fits_widened m r ∙ e)
        ∙ noughts_widened m r
        ∙ ap (λ (b : Bool). widened m (if b then r else map (λ _. pos 0) r)) (sym e)

pub short_widened : (m : ℕ) (rows : List (List ℤ)) → map short_row (map (widened m) rows) ≡ map (widened m) (map short_row rows)
short_widened m [] = refl
short_widened m (r ∷ rows) = let here = short_widened_row m r in let more = short_widened m rows in λ i. here i ∷ more i

pub wide_widened : (m : ℕ) (rows : List (List ℤ)) → wide_rows (map (widened m) rows) ≡ wide_rows rows
wide_widened m [] = refl
wide_widened m (r ∷ rows) = let here = fits_widened m r in let more = wide_widened m rows in λ i. not (here i) || more i

-- ---- columns without an expression
pub missing_most : (es : List (Option (List ℤ))) → missing es ≤ length es
missing_most [] = omega arith
missing_most (None ∷ es) = let more = missing_most es in omega arith
missing_most (Some e ∷ es) = let more = missing_most es in omega arith

pub tied_length : (n m i : ℕ) (es : List (Option (List ℤ))) → length (tied n m i es) ≡ length es
tied_length n m i [] = refl
tied_length n m i (None ∷ es) = ap suc (tied_length n m (suc i) es)
tied_length n m i (Some e ∷ es) = ap suc (tied_length n m i es)

-- ---- naturals
abbrev Natural : ℤ → Type 0
Natural x = pos 0 ≤ℤ x

zero_natural : Natural (pos 0)
zero_natural = omega (arith, ints)

one_natural : Natural (pos 1)
one_natural = omega (arith, ints)

in_zeros : (n : ℕ) (x : ℤ) → In x (zeros n) → Natural x
in_zeros zero x i = absurd i
in_zeros (suc n) x (inl e) = subst Natural e zero_natural
in_zeros (suc n) x (inr i) = in_zeros n x i

in_units : (n k : ℕ) (x : ℤ) → In x (units n k) → Natural x
in_units zero k x i = absurd i
in_units (suc n) zero x (inl e) = subst Natural e one_natural
in_units (suc n) zero x (inr i) = in_zeros n x i
in_units (suc n) (suc k) x (inl e) = subst Natural e zero_natural
in_units (suc n) (suc k) x (inr i) = in_units n k x i

own_natural : (n m k : ℕ) → All Natural (pos 0 ∷ (zeros n ++ units m k))
own_natural n m k = to_All Natural (pos 0 ∷ (zeros n ++ units m k)) each
  where
    each : (x : ℤ) → In x (pos 0 ∷ (zeros n ++ units m k)) → Natural x
    each x (inl e) = subst Natural e zero_natural
    each x (inr i) = elim (of-append (zeros n) (units m k) x i) [
      | inl j ↦ in_zeros n x j
      | inr j ↦ in_units m k x j
    ]

widened_natural : (m : ℕ) (e : List ℤ) → All Natural e → All Natural (widened m e)
widened_natural m e h = to_All Natural (widened m e) (λ x i. elim (of-append e (zeros m) x i) [
  | inl j ↦ from_All Natural e x h j
  | inr j ↦ in_zeros m x j
])

pub tied_natural : (n m i : ℕ) (es : List (Option (List ℤ))) → AllByRecursion (IsHeadColumn n) es → All (λ (r : List ℤ). All Natural r) (tied n m i es)
tied_natural n m i es h = to_All (λ (r : List ℤ). All Natural r) (tied n m i es) (each i es h)
  where
    each : (i : ℕ) (es : List (Option (List ℤ))) → AllByRecursion (IsHeadColumn n) es → (r : List ℤ) → In r (tied n m i es) → All Natural r
    each i [] h r j = absurd j
    each i (None ∷ es) h r (inl e) = subst (All Natural) e (own_natural n m i)
    each i (None ∷ es) h r (inr j) = each (suc i) es h.1 r j
    each i (Some x ∷ es) h r (inl e) = subst (All Natural) e (widened_natural m x h.0.1)
    each i (Some x ∷ es) h r (inr j) = each i es h.1 r j
