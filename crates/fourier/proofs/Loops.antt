-- Loops that take one step for each row with a property.
use Rattle.std.proofs.Common.{◌≡◌, ℕ, zero, suc, ℤ, pos, List, [], ◌∷◌, ◌++◌, ◌+◌, ◌<◌, ◌≤◌, Bool, true, false, cond, map, take, length, get_or, refl, sym, subst, ap, ◌∙◌, arith, ◌^◌, ◌/◌}
use Rattle.std.specs.Prelude.{All, fold, filter, ◌&&◌, unsigned_abs, ◌+ℤ◌, ◌*ℤ◌}
use Rattle.std.specs.List.{flat_map}
use Rattle.std.specs.Cmp.Derive.{both_true}
use Rattle.exact128.specs.Fits.{Fits, fits}
use Rattle.exact128.specs.Sums.{entry}
use Rattle.linear_rows.specs.Elimination.{crossed}
use Rattle.linear_rows.specs.Blown.{all_of, crossed_fits, blend_fits}
use Rattle.sparse_rows.specs.Blending.{blended}
use Rattle.sparse_rows.specs.Adding.{AllFit, AllLong}
use Rattle.exact128.specs.Gcd.{gcd}
use Rattle.std.proofs.lemmas.Bool.{ltb-true}
use Rattle.std.proofs.lemmas.List.Elements.{All-cons}
use Rattle.exact128.proofs.FitsLemmas.{both}
use Rattle.sparse_rows.proofs.NumberTests.{entry_fits}
use Rattle.sparse_rows.proofs.Added.{fold-more, filter_yes, filter_no, take_all}

-- the state after the items so far: one step each, and each passes
pub record Done {K X : Type 0} (G : K → X → K) (q : X → Bool) (start : K) (xs : List X) (kept : K) : Type 0 where
  pub kept_is : kept ≡ fold G start xs
  pub pass : all_of q xs ≡ true

all_of-more : {X : Type 0} (q : X → Bool) (xs : List X) (x : X) → all_of q xs ≡ true → q x ≡ true → all_of q (xs ++ x ∷ []) ≡ true
all_of-more q [] x h e = both_true e refl
all_of-more q (y ∷ ys) x h e = let two = both (q y) (all_of q ys) h in both_true two.0 (all_of-more q ys x two.1 e)

pub done_none : {K X : Type 0} (G : K → X → K) (q : X → Bool) (start : K) → Done G q start [] start
done_none G q start = record { kept_is = refl; pass = refl }

pub done_more : {K X : Type 0} (G : K → X → K) (q : X → Bool) (start kept next : K) (xs : List X) (x : X) → Done G q start xs kept → next ≡ G kept x → q x ≡ true → Done G q start (xs ++ x ∷ []) next
done_more G q start kept next xs x d e p = record {
  kept_is = e ∙ ap (λ k. G k x) d.kept_is ∙ sym (fold-more G start xs x);
  pass = all_of-more q xs x d.pass p;
}

-- an item that does not pass
pub not_all : {X : Type 0} (p q : X → Bool) (xs : List X) (i : ℕ) (d : X) → i < length xs → p (get_or xs i d) ≡ true → q (get_or xs i d) ≡ false → all_of q (filter p xs) ≡ false
not_all p q [] i d h e f = absurd (omega arith)
not_all p q (x ∷ xs) zero d h e f = rw e (rw f refl)
not_all p q (x ∷ xs) (suc i) d h e f = front (p x) (not_all p q xs i d (omega arith) e f)
  where
    right_false : (b : Bool) → (b && false) ≡ false
    right_false true = refl
    right_false false = refl

    front : (b : Bool) → all_of q (filter p xs) ≡ false → all_of q (cond b (x ∷ filter p xs) (filter p xs)) ≡ false
    front true e = rw e (right_false (q x))
    front false e = e

pub at_fit : (rows : List (List ℤ)) (i : ℕ) → i < length rows → AllFit rows → All Fits (get_or rows i [])
at_fit rows i h f = f i [] h

pub at_long : (n : ℕ) (rows : List (List ℤ)) (i : ℕ) → i < length rows → AllLong n rows → n ≡ length (get_or rows i [])
at_long n rows i h f = sym (f i [] h)

pub entry_at_fits : (rows : List (List ℤ)) (i k : ℕ) → i < length rows → AllFit rows → Fits (entry (get_or rows i []) k)
entry_at_fits rows i k h f = entry_fits (get_or rows i []) k (at_fit rows i h f)

pub fold-map : {K X Y : Type 0} (G : K → Y → K) (f : X → Y) (start : K) (xs : List X) → fold (λ k x. G k (f x)) start xs ≡ fold G start (map f xs)
fold-map G f start [] = refl
fold-map G f start (x ∷ xs) = fold-map G f (G start (f x)) xs

pub fold-append : {K X : Type 0} (G : K → X → K) (start : K) (xs ys : List X) → fold G start (xs ++ ys) ≡ fold G (fold G start xs) ys
fold-append G start [] ys = refl
fold-append G start (x ∷ xs) ys = fold-append G (G start x) xs ys

pub fold-flat_map : {K X Y : Type 0} (G : K → Y → K) (f : X → List Y) (start : K) (xs : List X) → fold (λ k x. fold G k (f x)) start xs ≡ fold G start (flat_map f xs)
fold-flat_map G f start [] = refl
fold-flat_map G f start (x ∷ xs) = fold-flat_map G f (fold G start (f x)) xs ∙ sym (fold-append G start (f x) (flat_map f xs))

-- the combination's numbers fit
pub blended_fit : (a b : ℤ) (r s : List ℤ) → length r ≡ length s → blend_fits a b r s ≡ true → All Fits (blended a b r s)
blended_fit a b [] [] el e = λ k d l. absurd (omega arith)
blended_fit a b [] (y ∷ s) el e = absurd (omega arith)
blended_fit a b (x ∷ r) [] el e = absurd (omega arith)
blended_fit a b (x ∷ r) (y ∷ s) el e =
    let two = both (fits (a *ℤ x) && (fits (b *ℤ y) && fits (a *ℤ x +ℤ b *ℤ y))) (blend_fits a b r s) e in
    let one = both (fits (a *ℤ x)) (fits (b *ℤ y) && fits (a *ℤ x +ℤ b *ℤ y)) two.0 in
    let more = both (fits (b *ℤ y)) (fits (a *ℤ x +ℤ b *ℤ y)) one.1 in
    All-cons Fits (a *ℤ x +ℤ b *ℤ y) (blended a b r s) (ltb-true (unsigned_abs (a *ℤ x +ℤ b *ℤ y)) (2 ^ 127) more.1) (blended_fit a b r s (omega arith) two.1)

pub crossed_fit : (k : ℕ) (r s row : List ℤ) → length r ≡ length s → crossed_fits k r s ≡ true → row ≡ crossed k r s → All Fits row
unfolding crossed crossed_fits
crossed_fit k r s row el e is =
    let g = gcd (unsigned_abs (entry r k)) (unsigned_abs (entry s k)) in
    subst (All Fits) (sym is) (blended_fit (pos (unsigned_abs (entry s k) / g)) (pos (unsigned_abs (entry r k) / g)) r s el e)

-- ---- steps that are done, each at an item with a property
pub done_yes : {K X : Type 0} (G : K → X → K) (q p : X → Bool) (start kept next : K) (rows : List X) (i : ℕ) (d x : X) → i < length rows → Done G q start (filter p (take i rows)) kept → p (get_or rows i d) ≡ true → x ≡ get_or rows i d →
    next ≡ G kept x → q x ≡ true → Done G q start (filter p (take (i + 1) rows)) next
done_yes G q p start kept next rows i d x h s e is n f =
    subst (λ l. Done G q start l next) (filter_yes p rows i d h e) (done_more G q start kept next (filter p (take i rows)) (get_or rows i d) s (n ∙ ap (G kept) is) (subst (λ x. q x ≡ true) is f))

pub done_no : {K X : Type 0} (G : K → X → K) (q p : X → Bool) (start kept : K) (rows : List X) (i : ℕ) (d : X) → i < length rows → Done G q start (filter p (take i rows)) kept → p (get_or rows i d) ≡ false → Done G q start (filter p (take (i + 1) rows)) kept
done_no G q p start kept rows i d h s e = subst (λ l. Done G q start l kept) (filter_no p rows i d h e) s

pub done_all : {K X : Type 0} (G : K → X → K) (q p : X → Bool) (start kept : K) (rows : List X) (i : ℕ) → length rows ≤ i → Done G q start (filter p (take i rows)) kept → Done G q start (filter p rows) kept
done_all G q p start kept rows i h s = subst (λ l. Done G q start (filter p l) kept) (take_all rows i h) s
