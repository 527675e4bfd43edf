-- Rows that are put last, one after the other.
use Rattle.std.proofs.Common.{◌≡◌, ◌∙◌, ℕ, zero, suc, ◌<◌, ℤ, List, [], ◌∷◌, ◌++◌, length, refl, ap, sym, subst, arith, slice_index_or}
use Rattle.std.specs.List.{AllByRecursion}
use Rattle.cti_terms.specs.declared.builtins.Builtin.{Builtin}
use Rattle.cti_terms.specs.declared.builtins.Builtin.TheVariants.{Is, Equal, NotEqual, Less, AtMost, Greater, AtLeast}
use Rattle.linear_rows.specs.Plain.{plain_row, plain_rows, HaveWidth}
use Rattle.linear_rows.specs.declared.row.Row.{Row}
use Rattle.termination_model.specs.columns.Measures.{stated_rows}
use Rattle.termination_model.proofs.Lists.{map_push}

-- one row more
pub plain_push : (rows new : List Row) (r : Row) (before : List (List ℤ)) (z : List ℤ) → new ≡ rows ++ r ∷ [] → plain_rows rows ≡ before → plain_row r ≡ z → plain_rows new ≡ before ++ z ∷ []
plain_push rows new r before z e b q = ap plain_rows e ∙ map_push plain_row rows r ∙ (λ i. b i ++ q i ∷ [])

pub append_five : (p : List (List ℤ)) (a b c d e : List ℤ) → (((p ++ a ∷ []) ++ (b ∷ (c ∷ []))) ++ d ∷ []) ++ e ∷ [] ≡ p ++ (a ∷ (b ∷ (c ∷ (d ∷ (e ∷ [])))))
append_five [] a b c d e = refl
append_five (x ∷ p) a b c d e = ap (λ s. x ∷ s) (append_five p a b c d e)

-- lists of numbers of one length are rows of one width
pub rows_of_width : (n : ℕ) (rows : List Row) (zs : List (List ℤ)) → plain_rows rows ≡ zs → AllByRecursion (λ (z : List ℤ). length z ≡ suc n) zs → HaveWidth n rows
rows_of_width n rows zs e h = at rows (subst (AllByRecursion (λ (z : List ℤ). length z ≡ suc n)) (sym e) h)
  where
    at : (rs : List Row) → AllByRecursion (λ (z : List ℤ). length z ≡ suc n) (plain_rows rs) → HaveWidth n rs
    at [] k i d lt = absurd (omega arith)
    at (r ∷ rs) k zero d lt = omega (arith, k.0)
    at (r ∷ rs) k (suc i) d lt = at rs k.1 i d (omega arith)

pub stated_long : (b : Builtin) → AllByRecursion (λ (z : List ℤ). length z ≡ 7) (stated_rows b)
stated_long Is = (refl, (refl, (refl, (refl, (refl, tt)))))
stated_long Equal = (refl, (refl, tt))
stated_long NotEqual = tt
stated_long Less = (refl, tt)
stated_long AtMost = (refl, tt)
stated_long Greater = (refl, tt)
stated_long AtLeast = (refl, tt)
