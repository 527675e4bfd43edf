-- Rows whose numbers fit.
use Rattle.std.proofs.Common.{◌≡◌, zero, suc, ℤ, true, inl, inr, List, [], ◌∷◌, sym, subst, arith}
use Rattle.std.specs.List.{AllByRecursion}
use Rattle.exact128.specs.Fits.{fits}
use Rattle.linear_rows.specs.Blown.{all_of}
use Rattle.linear_rows.specs.declared.row.Row.{Row}
use Rattle.linear_rows.specs.Plain.{plain_rows}
use Rattle.termination_model.specs.chains.ChainRows.{Sieved}
use Rattle.polyhedra.specs.PolyLaws.{HaveFit}

abbrev pub Fitting : List (List ℤ) → Type 0
Fitting = AllByRecursion (λ r. all_of fits r ≡ true)

pub fits_all : (rows : List Row) → HaveFit rows → Fitting (plain_rows rows)
fits_all [] f = tt
fits_all (r ∷ rows) f = (f 0 r (omega arith), fits_all rows (λ j e m. f (suc j) e (omega arith)))

pub fits_kept : (Goes : List ℤ → Type 0) (xs ys : List (List ℤ)) → Sieved (λ _. Unit {0}) Goes xs ys → Fitting xs → Fitting ys
fits_kept Goes [] ys s a = subst Fitting (sym s) tt
fits_kept Goes (x ∷ xs) ys (inl (_, zs, e, more)) a = subst Fitting (sym e) (a.0, fits_kept Goes xs zs more a.1)
fits_kept Goes (x ∷ xs) ys (inr (_, more)) a = fits_kept Goes xs ys more a.1

pub have_fit : (rows : List Row) → Fitting (plain_rows rows) → HaveFit rows
have_fit [] a k d l = absurd (omega arith)
have_fit (r ∷ rows) a zero d l = a.0
have_fit (r ∷ rows) a (suc k) d l = have_fit rows a.1 k d (omega arith)
