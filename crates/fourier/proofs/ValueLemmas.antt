-- Values, common multiples and checks, a step at a time.
use Rattle.std.proofs.Common.{◌≡◌, ℕ, zero, suc, ℤ, pos, negsuc, List, [], ◌∷◌, ◌++◌, ◌+◌, ◌*◌, ◌/◌, ◌<◌, ◌≤◌, Bool, true, false, Option, Some, None, drop, length, get_or, refl, sym, subst, ap, ◌∙◌, arith, append_assoc}
use Rattle.std.specs.Prelude.{◌≤ℤ◌, ◌*ℤ◌, ◌+ℤ◌, unsigned_abs, ◌&&◌, SomeIff, IfSome}
use Rattle.std.specs.Cmp.Derive.{both_true}
use Rattle.std.proofs.Math.Seq.{drop-cons}
use Rattle.std.proofs.Math.Nat.{mul-div_cancel'}
use Rattle.std.proofs.lemmas.Int.{ints}
use Rattle.std.proofs.lemmas.List.{append-nil}
use Rattle.exact128.specs.Fits.{Fits, fits}
use Rattle.exact128.specs.Gcd.{gcd}
use Rattle.exact128.specs.Sums.{entry}
use Rattle.exact128.specs.Fractions.{Fraction, whole, where_fits, then_do}
use Rattle.exact128.proofs.Gcds.{gcd_is}
use Rattle.exact128.proofs.Rings.{mul_pos}
use Rattle.exact128.proofs.FractionSums.{abs_pos}
use Rattle.exact128.proofs.FitsLemmas.{to_fits, of_fits, both, either_bool}
use Rattle.linear_rows.specs.Elimination.{rising}
use Rattle.linear_rows.specs.Step.{eliminated, columns}
use Rattle.linear_rows.specs.Solving.{greatest, values_of, common_of, made_whole, sums_fit, zeros}
use Rattle.linear_rows.specs.Plain.{plain_row}
use Rattle.linear_rows.specs.declared.row.Row.{Row}
use Rattle.fourier.specs.History.{history_of, values_back}
use Rattle.sparse_rows.proofs.SparseLemmas.{drop-all}

-- ---- values, from the last column back
pub values_more : (i n : ℕ) (hs : List (List (List ℤ))) (rows : List (List ℤ)) (vs : List Fraction) (v : Fraction) → i < length hs → rows ≡ get_or hs i [] → values_back (columns (suc (suc i)) n) (drop (suc i) hs) ≡ Some vs →
    greatest (i + 1) vs (whole (pos 0)) (rising (i + 1) rows) ≡ Some v → values_back (columns (suc i) (suc n)) (drop i hs) ≡ Some (v ∷ vs)
values_more i n hs rows vs v h e is g =
    let one : i + 1 ≡ suc i = omega arith in
    let g2 : greatest (suc i) vs (whole (pos 0)) (rising (suc i) (get_or hs i [])) ≡ Some v = ap (λ k. greatest k vs (whole (pos 0)) (rising k (get_or hs i []))) (sym one) ∙ ap (λ r. greatest (i + 1) vs (whole (pos 0)) (rising (i + 1) r)) (sym e) ∙ g in
    rw (drop-cons hs i [] h) (ap (λ o. then_do o (λ vs. then_do (greatest (suc i) vs (whole (pos 0)) (rising (suc i) (get_or hs i []))) (λ v. Some (v ∷ vs)))) is ∙ ap (λ o. then_do o (λ v. Some (v ∷ vs))) g2)

values_none : (i n : ℕ) (hs : List (List (List ℤ))) → i ≤ length hs → values_back (columns (suc i) n) (drop i hs) ≡ None → values_back (columns 1 (i + n)) hs ≡ None
values_none zero n hs h e = let z : 0 + n ≡ n = omega arith in rw z e
values_none (suc i) n hs h e =
    let z : suc i + n ≡ i + suc n = omega arith in
    rw z (values_none i (suc n) hs (omega arith) (rw (drop-cons hs i [] (omega arith)) (ap (λ o. then_do o (λ vs. then_do (greatest (suc i) vs (whole (pos 0)) (rising (suc i) (get_or hs i []))) (λ v. Some (v ∷ vs)))) e)))

pub values_stop : (i n : ℕ) (hs : List (List (List ℤ))) (rows : List (List ℤ)) (vs : List Fraction) → i < length hs → suc i + n ≡ length hs → rows ≡ get_or hs i [] → values_back (columns (suc (suc i)) n) (drop (suc i) hs) ≡ Some vs →
    greatest (i + 1) vs (whole (pos 0)) (rising (i + 1) rows) ≡ None → values_back (columns 1 (length hs)) hs ≡ None
values_stop i n hs rows vs h len e is g =
    let one : i + 1 ≡ suc i = omega arith in
    let g2 : greatest (suc i) vs (whole (pos 0)) (rising (suc i) (get_or hs i [])) ≡ None = ap (λ k. greatest k vs (whole (pos 0)) (rising k (get_or hs i []))) (sym one) ∙ ap (λ r. greatest (i + 1) vs (whole (pos 0)) (rising (i + 1) r)) (sym e) ∙ g in
    let none : values_back (columns (suc i) (suc n)) (drop i hs) ≡ None =
    rw (drop-cons hs i [] h) (ap (λ o. then_do o (λ vs. then_do (greatest (suc i) vs (whole (pos 0)) (rising (suc i) (get_or hs i []))) (λ v. Some (v ∷ vs)))) is ∙ ap (λ o. then_do o (λ v. Some (v ∷ vs))) g2) in
    let all : i + suc n ≡ length hs = omega arith in
    subst (λ k. values_back (columns 1 k) hs ≡ None) all (values_none i (suc n) hs (omega arith) none)

pub length-history : (m : ℕ) (ks : List ℕ) (rows : List (List ℤ)) → length (history_of m ks rows) ≡ length ks
length-history m [] rows = refl
length-history m (k ∷ ks) rows = ap suc (length-history m ks (eliminated m k rows))

pub values_same : (m : ℕ) (ks : List ℕ) (rows : List (List ℤ)) → values_back ks (history_of m ks rows) ≡ values_of m ks rows
values_same m [] rows = refl
values_same m (k ∷ ks) rows = ap (λ o. then_do o (λ vs. then_do (greatest k vs (whole (pos 0)) (rising k rows)) (λ v. Some (v ∷ vs)))) (values_same m ks (eliminated m k rows))

-- ---- a common multiple
common_here : (c : ℤ) (vs : List Fraction) (i : ℕ) (v : Fraction) → i < length vs → v ≡ get_or vs i v →
    common_of c (drop i vs) ≡ then_do (where_fits (fits (pos (unsigned_abs c / gcd (unsigned_abs c) (unsigned_abs v.den)) *ℤ v.den)) (pos (unsigned_abs c / gcd (unsigned_abs c) (unsigned_abs v.den)) *ℤ v.den)) (λ d. common_of d (drop (suc i) vs))
common_here c vs i v h e = rw (drop-cons vs i v h, ← e) refl

pub common_goes_on : (c : ℤ) (vs : List Fraction) (i : ℕ) (v : Fraction) (more : ℤ) (all : Option ℤ) → i < length vs → v ≡ get_or vs i v → common_of c (drop i vs) ≡ all →
    Fits (pos (unsigned_abs c / gcd (unsigned_abs c) (unsigned_abs v.den)) *ℤ v.den) → more ≡ pos (unsigned_abs c / gcd (unsigned_abs c) (unsigned_abs v.den)) *ℤ v.den → common_of more (drop (i + 1) vs) ≡ all
common_goes_on c vs i v more all h e is f em =
    let one : i + 1 ≡ suc i = omega arith in
    rw (one, em) (sym (common_here c vs i v h e ∙ ap (λ b. then_do (where_fits b (pos (unsigned_abs c / gcd (unsigned_abs c) (unsigned_abs v.den)) *ℤ v.den)) (λ d. common_of d (drop (suc i) vs))) (to_fits (pos (unsigned_abs c / gcd (unsigned_abs c) (unsigned_abs v.den)) *ℤ v.den) f)) ∙ is)

pub common_stops : (c : ℤ) (vs : List Fraction) (i : ℕ) (v : Fraction) (all : Option ℤ) → i < length vs → v ≡ get_or vs i v → common_of c (drop i vs) ≡ all →
    ¬ Fits (pos (unsigned_abs c / gcd (unsigned_abs c) (unsigned_abs v.den)) *ℤ v.den) → None ≡ all
common_stops c vs i v all h e is out =
    sym (common_here c vs i v h e ∙ ap (λ b. then_do (where_fits b (pos (unsigned_abs c / gcd (unsigned_abs c) (unsigned_abs v.den)) *ℤ v.den)) (λ d. common_of d (drop (suc i) vs))) (either_bool (fits (pos (unsigned_abs c / gcd (unsigned_abs c) (unsigned_abs v.den)) *ℤ v.den)) (λ t. out (of_fits (pos (unsigned_abs c / gcd (unsigned_abs c) (unsigned_abs v.den)) *ℤ v.den) t)))) ∙ is

pub common_ends : (c : ℤ) (vs : List Fraction) (i : ℕ) (all : Option ℤ) → length vs ≤ i → common_of c (drop i vs) ≡ all → Some c ≡ all
common_ends c vs i all h is = sym (ap (common_of c) (drop-all i vs h)) ∙ is

part_some : (g n : ℕ) → 0 < g * n → 0 < n
part_some g zero p = absurd (omega arith)
part_some g (suc n) p = omega arith

pub multiple_pos : (a b : ℤ) → pos 1 ≤ℤ a → pos 1 ≤ℤ b → pos 1 ≤ℤ (pos (unsigned_abs a / gcd (unsigned_abs a) (unsigned_abs b)) *ℤ b)
multiple_pos a b pa pb =
    let g = gcd (unsigned_abs a) (unsigned_abs b) in
    let is = gcd_is (unsigned_abs a) (unsigned_abs b) in
    let e : g * (unsigned_abs a / g) ≡ unsigned_abs a = mul-div_cancel' g is.0 in
    let some : 0 < unsigned_abs a / g = part_some g (unsigned_abs a / g) (omega (arith, e, abs_pos a pa)) in
    mul_pos (pos (unsigned_abs a / g)) b (omega (arith, ints, some)) pb

pub if_some : (r : Option ℤ) (P : Type 0) (v : ℤ) → SomeIff r P v → pos 1 ≤ℤ v → IfSome r (λ x. pos 1 ≤ℤ x)
if_some None P v h p = tt
if_some (Some x) P v h p = subst (λ x. pos 1 ≤ℤ x) (sym h.1) p

-- ---- whole numbers
made_here : (c : ℤ) (vs : List Fraction) (i : ℕ) (v : Fraction) → i < length vs → v ≡ get_or vs i v →
    made_whole c (drop i vs) ≡ then_do (where_fits (fits (v.num *ℤ pos (unsigned_abs c / unsigned_abs v.den))) (v.num *ℤ pos (unsigned_abs c / unsigned_abs v.den))) (λ x. then_do (made_whole c (drop (suc i) vs)) (λ xs. Some (x ∷ xs)))
made_here c vs i v h e = rw (drop-cons vs i v h, ← e) refl

-- what is made so far, and the rest
pub made_goes_on : (c : ℤ) (vs : List Fraction) (i : ℕ) (v : Fraction) (x : ℤ) (done more : List ℤ) (all : Option (List ℤ)) → i < length vs → v ≡ get_or vs i v →
    then_do (made_whole c (drop i vs)) (λ xs. Some (done ++ xs)) ≡ all → Fits (v.num *ℤ pos (unsigned_abs c / unsigned_abs v.den)) → x ≡ v.num *ℤ pos (unsigned_abs c / unsigned_abs v.den) → more ≡ done ++ x ∷ [] →
    then_do (made_whole c (drop (i + 1) vs)) (λ xs. Some (more ++ xs)) ≡ all
made_goes_on c vs i v x done more all h e is f ex em =
    let one : i + 1 ≡ suc i = omega arith in
    let y = v.num *ℤ pos (unsigned_abs c / unsigned_abs v.den) in
    let here : made_whole c (drop i vs) ≡ then_do (made_whole c (drop (suc i) vs)) (λ xs. Some (x ∷ xs)) =
    made_here c vs i v h e ∙ ap (λ b. then_do (where_fits b y) (λ x. then_do (made_whole c (drop (suc i) vs)) (λ xs. Some (x ∷ xs)))) (to_fits y f) ∙ ap (λ x. then_do (made_whole c (drop (suc i) vs)) (λ xs. Some (x ∷ xs))) (sym ex) in
    rw (one, em) (turn (made_whole c (drop (suc i) vs)) ∙ sym (ap (λ o. then_do o (λ xs. Some (done ++ xs))) here) ∙ is)
  where
    turn : (o : Option (List ℤ)) → then_do o (λ xs. Some ((done ++ x ∷ []) ++ xs)) ≡ then_do (then_do o (λ xs. Some (x ∷ xs))) (λ xs. Some (done ++ xs))
    turn None = refl
    turn (Some xs) = ap Some (append_assoc done (x ∷ []) xs)

pub made_stops : (c : ℤ) (vs : List Fraction) (i : ℕ) (v : Fraction) (done : List ℤ) (all : Option (List ℤ)) → i < length vs → v ≡ get_or vs i v →
    then_do (made_whole c (drop i vs)) (λ xs. Some (done ++ xs)) ≡ all → ¬ Fits (v.num *ℤ pos (unsigned_abs c / unsigned_abs v.den)) → all ≡ None
made_stops c vs i v done all h e is out =
    let y = v.num *ℤ pos (unsigned_abs c / unsigned_abs v.den) in
    let here : made_whole c (drop i vs) ≡ None = made_here c vs i v h e ∙ ap (λ b. then_do (where_fits b y) (λ x. then_do (made_whole c (drop (suc i) vs)) (λ xs. Some (x ∷ xs)))) (either_bool (fits y) (λ t. out (of_fits y t))) in
    sym is ∙ ap (λ o. then_do o (λ xs. Some (done ++ xs))) here

pub made_ends : (c : ℤ) (vs : List Fraction) (i : ℕ) (done : List ℤ) (all : Option (List ℤ)) → length vs ≤ i → then_do (made_whole c (drop i vs)) (λ xs. Some (done ++ xs)) ≡ all → all ≡ Some done
made_ends c vs i done all h is = sym is ∙ ap (λ l. then_do (made_whole c l) (λ xs. Some (done ++ xs))) (drop-all i vs h) ∙ ap Some (append-nil done)

pub made_starts : (o : Option (List ℤ)) → then_do o (λ xs. Some ([] ++ xs)) ≡ o
made_starts None = refl
made_starts (Some xs) = refl

zeros-more : (n : ℕ) → zeros n ++ pos 0 ∷ [] ≡ zeros (suc n)
zeros-more zero = refl
zeros-more (suc n) = ap (λ l. pos 0 ∷ l) (zeros-more n)

pub zeros_on : (n : ℕ) → zeros n ++ pos 0 ∷ [] ≡ zeros (n + 1)
zeros_on n = let one : n + 1 ≡ suc n = omega arith in zeros-more n ∙ ap zeros (sym one)

length-zeros : (n : ℕ) → length (zeros n) ≡ n
length-zeros zero = refl
length-zeros (suc n) = ap suc (length-zeros n)

pub minus_one_long : (n : ℕ) (row : Row) → plain_row row ≡ negsuc 0 ∷ zeros n → length (plain_row row) ≡ n + 1
minus_one_long n row e = ap length e ∙ omega (arith, length-zeros n)

-- ---- sums at a point
fits_here : (s : ℤ) (row w : List ℤ) (k : ℕ) (a b : ℤ) → k < length row → k < length w → a ≡ entry row k → b ≡ entry w k →
    sums_fit s (drop k row) (drop k w) ≡ ((fits (a *ℤ b) && fits (s +ℤ a *ℤ b)) && sums_fit (s +ℤ a *ℤ b) (drop (suc k) row) (drop (suc k) w))
fits_here s row w k a b p q ea eb = rw (drop-cons row k (pos 0) p, drop-cons w k (pos 0) q, ea, eb) refl

pub fits_goes_on : (s next : ℤ) (row w : List ℤ) (k : ℕ) (a b : ℤ) (all : Bool) → k < length row → k < length w → a ≡ entry row k → b ≡ entry w k → sums_fit s (drop k row) (drop k w) ≡ all →
    Fits (a *ℤ b) → Fits (s +ℤ a *ℤ b) → next ≡ s +ℤ a *ℤ b → sums_fit next (drop (k + 1) row) (drop (k + 1) w) ≡ all
fits_goes_on s next row w k a b all p q ea eb is f g en =
    let one : k + 1 ≡ suc k = omega arith in
    rw (one, en) (sym (fits_here s row w k a b p q ea eb ∙ ap (λ t. t && sums_fit (s +ℤ a *ℤ b) (drop (suc k) row) (drop (suc k) w)) (both_true (to_fits (a *ℤ b) f) (to_fits (s +ℤ a *ℤ b) g))) ∙ is)

-- the first product, on top of 0
pub fits_first : (next a b : ℤ) (row w : List ℤ) → Fits (a *ℤ b) → Fits (pos 0 +ℤ a *ℤ b) → next ≡ pos 0 +ℤ a *ℤ b → sums_fit next row w ≡ sums_fit (pos 0) (a ∷ row) (b ∷ w)
fits_first next a b row w f g en =
    rw en (sym (ap (λ t. t && sums_fit (pos 0 +ℤ a *ℤ b) row w) (both_true (to_fits (a *ℤ b) f) (to_fits (pos 0 +ℤ a *ℤ b) g))))

not_both : (x y : ℤ) → ¬ (Fits x × Fits y) → (fits x && fits y) ≡ false
not_both x y out = either_bool (fits x && fits y) (λ t. let two = both (fits x) (fits y) t in out (of_fits x two.0, of_fits y two.1))

pub fits_first_not : (a b : ℤ) (row w : List ℤ) → ¬ (Fits (a *ℤ b) × Fits (pos 0 +ℤ a *ℤ b)) → false ≡ sums_fit (pos 0) (a ∷ row) (b ∷ w)
fits_first_not a b row w out = sym (ap (λ t. t && sums_fit (pos 0 +ℤ a *ℤ b) row w) (not_both (a *ℤ b) (pos 0 +ℤ a *ℤ b) out))

pub fits_stops : (s : ℤ) (row w : List ℤ) (k : ℕ) (a b : ℤ) (all : Bool) → k < length row → k < length w → a ≡ entry row k → b ≡ entry w k → sums_fit s (drop k row) (drop k w) ≡ all →
    ¬ (Fits (a *ℤ b) × Fits (s +ℤ a *ℤ b)) → false ≡ all
fits_stops s row w k a b all p q ea eb is out =
    sym (fits_here s row w k a b p q ea eb ∙ ap (λ t. t && sums_fit (s +ℤ a *ℤ b) (drop (suc k) row) (drop (suc k) w)) (not_both (a *ℤ b) (s +ℤ a *ℤ b) out)) ∙ is

pub fits_ends : (s : ℤ) (row w : List ℤ) (k : ℕ) (all : Bool) → length w ≤ k → sums_fit s (drop k row) (drop k w) ≡ all → true ≡ all
fits_ends s row w k all h is = sym (ap (sums_fit s (drop k row)) (drop-all k w h) ∙ nothing (drop k row)) ∙ is
  where
    nothing : (xs : List ℤ) → sums_fit s xs [] ≡ true
    nothing [] = refl
    nothing (x ∷ xs) = refl
