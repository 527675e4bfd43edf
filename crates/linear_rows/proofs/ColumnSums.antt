use Rattle.std.proofs.Common.{◌≡◌, ℕ, ℤ, pos, List, [], ◌∷◌, ◌++◌, ◌+◌, ◌<◌, ◌+ℤ◌, ◌*ℤ◌, take, length, get_or, refl, sym, ap, ◌∙◌, arith, below_more}
use Rattle.std.proofs.lemmas.List.{take_more, get_or-map, length-map, length-take-le}
use Rattle.exact128.specs.Fits.{Fits}
use Rattle.exact128.specs.Sums.{entry, dot, DotFits}
use Rattle.linear_rows.specs.Rows.{column}
use Rattle.linear_rows.specs.Plain.{plain_row, plain_rows}
use Rattle.linear_rows.specs.declared.row.Row.{Row}
use Rattle.exact128.proofs.Dots.{dot-append}

pub dot_more : (xs ys : List ℤ) (n : ℕ) → n < length xs → n < length ys →
    dot (take (n + 1) xs) (take (n + 1) ys) ≡ dot (take n xs) (take n ys) +ℤ entry xs n *ℤ entry ys n
dot_more xs ys n p q = rw (take_more xs n (pos 0) p, take_more ys n (pos 0) q) (dot-append (take n xs) (take n ys) _ _ (omega (arith, length-take-le n xs, length-take-le n ys)))

-- the state of a loop that sums the first n products
pub record IsSumTo (n : ℕ) (xs ys : List ℤ) (sum : ℤ) : Type 0 where
  pub value : sum ≡ dot (take n xs) (take n ys)
  pub fits : DotFits n xs ys

pub sum_to_zero : (xs ys : List ℤ) → IsSumTo 0 xs ys (pos 0)
unfolding dot
sum_to_zero xs ys = record {
  value = refl;
  fits = record { products = λ k h. absurd (omega arith); sums = λ k h. let e : k ≡ 0 = omega arith in rw e (omega arith) };
}

pub sum_to_more : (xs ys : List ℤ) (n : ℕ) (sum product next x y : ℤ) → IsSumTo n xs ys sum → n < length xs → n < length ys →
    x ≡ entry xs n → y ≡ entry ys n → Fits (x *ℤ y) → product ≡ x *ℤ y → Fits (sum +ℤ product) → next ≡ sum +ℤ product → IsSumTo (n + 1) xs ys next
sum_to_more xs ys n sum product next x y is p q ex ey fp ep fs es =
    let more : dot (take (n + 1) xs) (take (n + 1) ys) ≡ sum +ℤ product = rw (ep, ex, ey, is.value) (dot_more xs ys n p q) in
    record {
      value = es ∙ sym more;
      fits = record {
        products = below_more _ n is.fits.products (rw (ex, ey) at fp);
        sums = λ k h. below_more (λ k. Fits (dot (take k xs) (take k ys))) (n + 1) (λ k h. is.fits.sums k (omega arith)) (rw more fs) k (omega arith);
      };
    }

pub product_too_wide : (xs ys : List ℤ) (n m : ℕ) (x y : ℤ) → n < m → x ≡ entry xs n → y ≡ entry ys n → ¬ Fits (x *ℤ y) → ¬ DotFits m xs ys
product_too_wide xs ys n m x y h ex ey out f = out (rw (ex, ey) (f.products n h))

pub sum_too_wide : (xs ys : List ℤ) (n m : ℕ) (sum product x y : ℤ) → IsSumTo n xs ys sum → n < length xs → n < length ys → n < m →
    x ≡ entry xs n → y ≡ entry ys n → product ≡ x *ℤ y → ¬ Fits (sum +ℤ product) → ¬ DotFits m xs ys
sum_too_wide xs ys n m sum product x y is p q h ex ey ep out f =
    let more : dot (take (n + 1) xs) (take (n + 1) ys) ≡ sum +ℤ product = rw (ep, ex, ey, is.value) (dot_more xs ys n p q) in
    out (rw (← more) (f.sums (n + 1) (omega arith)))

pub column_at : (rows : List Row) (i k : ℕ) (d : Row) → i < length rows → entry (column (plain_rows rows) k) i ≡ entry (plain_row (get_or rows i d)) k
column_at rows i k d h =
    get_or-map (λ row. entry row k) (plain_rows rows) i (plain_row d) (pos 0) (omega (arith, length-map rows plain_row))
    ∙ ap (λ row. entry row k) (get_or-map plain_row rows i d (plain_row d) h)

pub length-column : (rows : List Row) (k : ℕ) → length (column (plain_rows rows) k) ≡ length rows
length-column rows k = length-map (plain_rows rows) (λ row. entry row k) ∙ length-map rows plain_row
