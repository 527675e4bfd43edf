use Rattle.std.proofs.Common.{◌≡◌, ℕ, ℤ, List, [], ◌∷◌, ◌++◌, ◌+◌, ◌<◌, length, refl, ◌∙◌, arith, below_more, length-append}
use Rattle.std.proofs.lemmas.Grind.{common_steps}
use Rattle.exact128.specs.Sums.{entry, dot, DotFits}
use Rattle.linear_rows.specs.Rows.{column}
use Rattle.linear_rows.specs.Combine.{CombineFits}

-- the first n columns, and that their numbers fit
pub record IsPartial (n : ℕ) (rows : List (List ℤ)) (ms row : List ℤ) : Type 0 where
  pub long : length row ≡ n
  pub sums : (k : ℕ) → k < n → entry row k ≡ dot ms (column rows k)
  pub fits : CombineFits n rows ms

kept : (row : List ℤ) (x : ℤ) (k : ℕ) → k < length row → entry (row ++ x ∷ []) k ≡ entry row k
kept row x k h = grind (arith, common_steps)

added : (row : List ℤ) (x : ℤ) (k : ℕ) → k ≡ length row → entry (row ++ x ∷ []) k ≡ x
added row x k h = grind (arith, common_steps)

pub partial_one : (rows : List (List ℤ)) (ms : List ℤ) (m : ℕ) (sum : ℤ) → m ≡ length rows → DotFits m ms (column rows 0) → sum ≡ dot ms (column rows 0) → IsPartial 1 rows ms (sum ∷ [])
partial_one rows ms m sum em f e = record {
  long = refl;
  sums = λ k h. let z : k ≡ 0 = omega arith in rw z e;
  fits = λ k h. let z : k ≡ 0 = omega arith in rw z (rw em at f);
}

pub partial_more : (n m : ℕ) (rows : List (List ℤ)) (ms row : List ℤ) (sum : ℤ) → IsPartial n rows ms row → m ≡ length rows → DotFits m ms (column rows n) → sum ≡ dot ms (column rows n) → IsPartial (n + 1) rows ms (row ++ sum ∷ [])
partial_more n m rows ms row sum is em f e = record {
  long = omega (arith, is.long, length-append row (sum ∷ []));
  sums = below_more (λ k. entry (row ++ sum ∷ []) k ≡ dot ms (column rows k)) n
      (λ k h. kept row sum k (omega (arith, is.long)) ∙ is.sums k h)
      (added row sum n (omega (arith, is.long)) ∙ e);
  fits = below_more (λ k. DotFits (length rows) ms (column rows k)) n is.fits (rw em at f);
}
