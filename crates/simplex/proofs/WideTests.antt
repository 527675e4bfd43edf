-- Tests with a number that does not fit are blown.
use Rattle.std.proofs.Common.{◌≡◌, ℕ, zero, suc, ◌+◌, ℤ, pos, negsuc, neg_ℤ, Bool, true, false, ◌&&◌, if◌then◌else◌, inl, inr, List, [], ◌∷◌, ◌++◌, map, length, Some, refl, ap, sym, subst, ◌∙◌}
use Rattle.exact128.specs.Fits.{fits}
use Rattle.exact128.specs.Sums.{entry}
use Rattle.linear_rows.specs.Members.{In}
use Rattle.linear_rows.specs.Blown.{all_of, numbers_fit, blown_from, blown_step}
use Rattle.linear_rows.specs.Solving.{zeros, units, coefficients, carried, floors, start_rows, solution, solved_by}
use Rattle.linear_rows.specs.Solving.Solution.{Blown}
use Rattle.linear_rows.specs.Systems.{at_last, test_rows, opposite}
use Rattle.linear_rows.specs.Irredundant.{TestIsBlown, EndsBlown}
use Rattle.linear_rows.specs.Step.{columns}
use Rattle.linear_rows.specs.Replacing.{row_fits}

pub and_false : (a b : Bool) → b ≡ false → (a && b) ≡ false
and_false true b e = e
and_false false b e = refl

-- a list with a number that does not fit
pub all_append : (xs ys : List ℤ) → all_of fits ys ≡ false → all_of fits (xs ++ ys) ≡ false
all_append [] ys e = e
all_append (x ∷ xs) ys e = and_false (fits x) (all_of fits (xs ++ ys)) (all_append xs ys e)

pub all_left : (xs ys : List ℤ) → all_of fits xs ≡ false → all_of fits (xs ++ ys) ≡ false
all_left [] ys e = cc
all_left (x ∷ xs) ys e = go (fits x) e (all_left xs ys)
  where
    go : (b : Bool) → (b && all_of fits xs) ≡ false → (all_of fits xs ≡ false → all_of fits (xs ++ ys) ≡ false) → (b && all_of fits (xs ++ ys)) ≡ false
    go true e more = more e
    go false e more = refl

pub wide_all : (r : List ℤ) → row_fits r ≡ false → all_of fits r ≡ false
wide_all [] e = cc
wide_all (x ∷ r) e = go (fits x) e (wide_all r)
  where
    go : (b : Bool) → (b && row_fits r) ≡ false → (row_fits r ≡ false → all_of fits r ≡ false) → (b && all_of fits r) ≡ false
    go true e more = more e
    go false e more = refl

-- a row keeps its numbers where its constant comes after its coefficients
pub moved : (lead more : List ℤ) (r : List ℤ) → row_fits r ≡ false → all_of fits (lead ++ (coefficients r ++ entry r 0 ∷ more)) ≡ false
moved lead more [] e = cc
moved lead more (b ∷ cs) e = all_append lead (cs ++ b ∷ more) (go (fits b) refl e)
  where
    go : (x : Bool) → fits b ≡ x → (fits b && row_fits cs) ≡ false → all_of fits (cs ++ b ∷ more) ≡ false
    go true is e = all_left cs (b ∷ more) (wide_all cs (sym (ap (λ (y : Bool). y && row_fits cs) is) ∙ e))
    go false is e = all_append cs (b ∷ more) (ap (λ (y : Bool). y && all_of fits more) is)

-- rows of which one has a number that does not fit
pub not_all : (rows : List (List ℤ)) (r : List ℤ) → In r rows → all_of fits r ≡ false → numbers_fit rows ≡ false
not_all [] r i e = absurd i
not_all (x ∷ rows) r (inl is) e = ap (λ (b : Bool). b && numbers_fit rows) (ap (all_of fits) is ∙ e)
not_all (x ∷ rows) r (inr i) e = and_false (all_of fits x) (numbers_fit rows) (not_all rows r i e)

pub in_carried : (long i : ℕ) (given : List (List ℤ)) (r : List ℤ) → In r given → (j : ℕ) × In (pos 0 ∷ (coefficients r ++ entry r 0 ∷ units long j)) (carried long i given)
in_carried long i [] r h = absurd h
in_carried long i (x ∷ xs) r (inl is) = (i, inl (ap (λ (y : List ℤ). pos 0 ∷ (coefficients y ++ entry y 0 ∷ units long i)) is))
in_carried long i (x ∷ xs) r (inr h) = let m = in_carried long (suc i) xs r h in (m.0, inr m.1)

pub in_left : {X : Type 0} (xs ys : List X) (x : X) → In x xs → In x (xs ++ ys)
in_left [] ys x i = absurd i
in_left (y ∷ xs) ys x (inl is) = inl is
in_left (y ∷ xs) ys x (inr i) = inr (in_left xs ys x i)

pub in_right : {X : Type 0} (xs ys : List X) (x : X) → In x ys → In x (xs ++ ys)
in_right [] ys x i = i
in_right (y ∷ xs) ys x i = inr (in_right xs ys x i)

pub in_map : {X Y : Type 0} (f : X → Y) (xs : List X) (x : X) → In x xs → In (f x) (map f xs)
in_map f [] x i = absurd i
in_map f (y ∷ xs) x (inl is) = inl (ap f is)
in_map f (y ∷ xs) x (inr i) = inr (in_map f xs x i)

pub wide_blown : (m : ℕ) (ks : List ℕ) (rows : List (List ℤ)) → numbers_fit rows ≡ false → blown_step m ks rows ≡ Some (0, true)
unfolding blown_step
wide_blown m ks rows e = ap (λ (b : Bool). if b then blown_from m 1 ks rows else (Some (0, true))) e

-- the test of any row on rows with such a row is blown
pub start_wide : (n : ℕ) (given : List (List ℤ)) (q : List ℤ) → In q given → row_fits q ≡ false → numbers_fit (start_rows n given) ≡ false
unfolding start_rows
start_wide n given q i e =
    let c = in_carried (length given) 0 given q i in
    let bad : all_of fits (pos 0 ∷ (coefficients q ++ entry q 0 ∷ units (length given) c.0)) ≡ false = and_false (fits (pos 0)) (all_of fits (coefficients q ++ entry q 0 ∷ units (length given) c.0)) (moved [] (units (length given) c.0) q e) in
    let long = n + 1 + length given in
    not_all (floors n 0 long ++ (negsuc 0 ∷ units long n) ∷ carried (length given) 0 given) (pos 0 ∷ (coefficients q ++ entry q 0 ∷ units (length given) c.0)) (in_right (floors n 0 long) ((negsuc 0 ∷ units long n) ∷ carried (length given) 0 given) _ (inr c.1)) bad

pub wide_solution : (n : ℕ) (given : List (List ℤ)) (q : List ℤ) → In q given → row_fits q ≡ false → solution n given ≡ Blown 0 true
unfolding solution
wide_solution n given q i e = ap (solved_by n given) (wide_blown (n + 1) (columns 1 (n + 1)) (start_rows n given) (start_wide n given q i e))

pub fits_same : (xs : List ℤ) → row_fits xs ≡ all_of fits xs
fits_same [] = refl
fits_same (x ∷ xs) = ap (λ (b : Bool). fits x && b) (fits_same xs)

fits_neg : (z : ℤ) → fits (neg_ℤ z) ≡ fits z
fits_neg (pos zero) = refl
fits_neg (pos (suc n)) = refl
fits_neg (negsuc n) = refl

fits_opposite : (xs : List ℤ) → all_of fits (opposite xs) ≡ all_of fits xs
fits_opposite [] = refl
fits_opposite (x ∷ xs) = λ i. fits_neg x i && fits_opposite xs i

pub wide_target : (n : ℕ) (rows : List (List ℤ)) (target : List ℤ) → all_of fits target ≡ false → TestIsBlown n rows target
wide_target n rows target e =
    let q : List ℤ = at_last (opposite target) (negsuc 0) in
    let there : In q (test_rows n rows target) = in_right (map (λ (x : List ℤ). at_last x (pos 0)) rows) ((negsuc 0 ∷ (zeros n ++ pos 1 ∷ [])) ∷ q ∷ []) q (inr (inl refl)) in
    let bad : row_fits q ≡ false = fits_same q ∙ and_false (fits (negsuc 0)) (all_of fits (coefficients (opposite target) ++ entry (opposite target) 0 ∷ [])) (moved [] [] (opposite target) (fits_same (opposite target) ∙ fits_opposite target ∙ e)) in
    subst (EndsBlown rows target) (sym (wide_solution (n + 1) (test_rows n rows target) q there bad)) tt
