-- Private.
-- Rows over an atom's columns, with an expression over variables in the place of each column.
--
-- A row that needs an expression which is not there has no row over the variables: in a system zeros stand for it.
--
-- To believe: all of this file.
use Rattle.std.specs.Prelude.{ℕ, zero, suc, Bool, true, false, ◌&&◌, ◌||◌, not, if◌then◌else◌, ℤ, pos, negsuc, List, [], ◌∷◌, map, replicate, Option, None, Some}
use Rattle.linear_rows.specs.Replacing.{substituted}

abbrev pub is_zero : ℤ → Bool
is_zero (pos zero) = true
is_zero (pos (suc n)) = false
is_zero (negsuc n) = false

abbrev pub are_zero : List ℤ → Bool
are_zero [] = true
are_zero (z ∷ zs) = is_zero z && are_zero zs

-- a number other than 0 stands at an expression that is not there
abbrev pub lacks : List ℤ → List (Option (List ℤ)) → Bool
lacks [] es = false
lacks (z ∷ zs) [] = false
lacks (z ∷ zs) (None ∷ es) = not (is_zero z) || lacks zs es
lacks (z ∷ zs) (Some e ∷ es) = lacks zs es

-- the rows, with the row without a number where there is none
abbrev pub or_empty : Option (List ℤ) → List ℤ
or_empty None = []
or_empty (Some e) = e

-- a row over columns, over n numbers instead
abbrev pub row_over : ℕ → List (Option (List ℤ)) → List ℤ → Option (List ℤ)
row_over n es [] = Some (replicate (suc n) (pos 0))
row_over n es (b ∷ row) = if lacks row es then None else Some (substituted n (map or_empty es) (b ∷ row))

-- a row over the columns of a clause's head: a positive number at an expression that is not there counts as 0, since no
-- column is negative
abbrev pub negative : ℤ → ℤ
negative (pos n) = pos 0
negative (negsuc n) = negsuc n

abbrev pub least : List ℤ → List (Option (List ℤ)) → List ℤ
least [] es = []
least (z ∷ zs) [] = z ∷ zs
least (z ∷ zs) (None ∷ es) = negative z ∷ least zs es
least (z ∷ zs) (Some e ∷ es) = z ∷ least zs es

abbrev pub least_over : ℕ → List (Option (List ℤ)) → List ℤ → Option (List ℤ)
least_over n es [] = row_over n es []
least_over n es (b ∷ row) = row_over n es (b ∷ least row es)

-- zeros where there is no row
abbrev pub or_zeros : ℕ → Option (List ℤ) → List ℤ
or_zeros n None = replicate (suc n) (pos 0)
or_zeros n (Some r) = r
