-- Lemmas on the union of measures.
use Rattle.std.proofs.Common.{◌≡◌, ◌||◌, if◌then◌else◌, List, [], ◌∷◌, ◌++◌, length, refl, ap, ap₂, sym, ◌∙◌, arith, append_assoc}
use Rattle.std.specs.Prelude.{ℤ, pos}
use Rattle.number_tests.specs.Levels.{is_positive}
use Rattle.number_tests.specs.declared.level_part.LevelPart.{LevelPart}
use Rattle.lex_certificate.specs.Flat.{united, united_coefficients}

-- what is united so far, and what is left of both lists
pub united_more : (both ls rs xs ys : List ℤ) (x y : ℤ) (zs : List ℤ) → ls ≡ x ∷ xs → rs ≡ y ∷ ys → both ++ united ls rs ≡ zs
    → (both ++ (if is_positive x || is_positive y then pos 1 else pos 0) ∷ []) ++ united xs ys ≡ zs
united_more both ls rs xs ys x y zs left right h =
    append_assoc both ((if is_positive x || is_positive y then pos 1 else pos 0) ∷ []) (united xs ys) ∙ ap₂ (λ a b. both ++ united a b) (sym left) (sym right) ∙ h

pub united_end : (both ls rs zs : List ℤ) → length ls ≡ 0 → both ++ united ls rs ≡ zs → both ++ rs ≡ zs
united_end both [] rs zs e h = h
united_end both (x ∷ ls) rs zs e h = absurd (omega (arith, e))

pub united_other : (both ls rs zs : List ℤ) → length rs ≡ 0 → both ++ united ls rs ≡ zs → both ++ ls ≡ zs
united_other both [] [] zs e h = h
united_other both (x ∷ ls) [] zs e h = h
united_other both ls (y ∷ rs) zs e h = absurd (omega (arith, e))

-- measures, before others whose union is known
abbrev pub united_from : List LevelPart → List ℤ → List ℤ
united_from [] zs = zs
united_from (l ∷ ls) zs = united l.coeffs (united_from ls zs)

pub from_last : (ls : List LevelPart) (l : LevelPart) (zs : List ℤ) → united_from (ls ++ l ∷ []) zs ≡ united_from ls (united l.coeffs zs)
from_last [] l zs = refl
from_last (k ∷ ls) l zs = ap (united k.coeffs) (from_last ls l zs)

pub from_none : (ls : List LevelPart) → united_from ls [] ≡ united_coefficients ls
from_none [] = refl
from_none (l ∷ ls) = ap (united l.coeffs) (from_none ls)

pub from_end : (ls : List LevelPart) (zs : List ℤ) → length ls ≡ 0 → united_from ls zs ≡ zs
from_end [] zs e = refl
from_end (l ∷ ls) zs e = absurd (omega (arith, e))

-- the last of the measures that are left
pub from_split : (rest before : List LevelPart) (last : LevelPart) (zs all : List ℤ) → rest ≡ before ++ last ∷ [] → united_from rest zs ≡ all → united_from before (united last.coeffs zs) ≡ all
from_split rest before last zs all e h = sym (from_last before last zs) ∙ ap (λ ls. united_from ls zs) (sym e) ∙ h
