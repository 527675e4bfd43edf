-- To believe, for a Yes.
-- The norm in force, term size or list size, and the name of a list's cells.
--
-- To believe: all of this file but `any_is_a_norm`.
use Rattle.std.specs.Prelude.{ℕ, suc, ◌==◌, ℤ, Bool, false, if◌then◌else◌, List, [], ◌∷◌, Option, None, Some}
use Rattle.cti_terms.specs.Tree.{Tree, size, truth}
use Rattle.cti_terms.specs.declared.naming.Name.{Name}
use Rattle.term_size.specs.declared.any_norm.AnyNorm.{AnyNorm}
use Rattle.term_size.specs.declared.any_norm.AnyNorm.TheVariants.{Terms, Lists}
use Rattle.term_size.specs.ListSize.{list_row, list_size, list_truth}
use Rattle.term_size.specs.ListSizeLaws.{list_size_is_a_norm}
use Rattle.term_size.specs.Norm.{IsNorm}
use Rattle.term_size.specs.Occurrences.{size_row}
use Rattle.term_size.specs.TermSize.{is_a_norm}

abbrev pub any_size : AnyNorm → (ℕ → ℕ) → Tree → ℕ
any_size (Terms n) = size
any_size (Lists n) = list_size n.dot

abbrev pub any_truth : AnyNorm → (ℕ → Bool) → Tree → Bool
any_truth (Terms n) = truth
any_truth (Lists n) = list_truth n.dot

abbrev pub any_row : AnyNorm → ℕ → Tree → List ℤ
any_row (Terms n) = size_row
any_row (Lists n) = list_row n.dot

pub any_is_a_norm : (n : AnyNorm) → IsNorm (any_size n) (any_truth n) (any_row n)
any_is_a_norm (Terms n) = is_a_norm
any_is_a_norm (Lists n) = list_size_is_a_norm n.dot

-- whether a text is a dot
abbrev pub is_dot_text : List ℕ → Bool
is_dot_text [] = false
is_dot_text (b ∷ []) = b == 46
is_dot_text (b ∷ (c ∷ bs)) = false

-- the first name whose text is a dot, where these texts are numbered from i
abbrev pub dot_from : ℕ → List (List ℕ) → Option Name
dot_from i [] = None
dot_from i (t ∷ ts) = if is_dot_text t then Some (record { 0 = i }) else dot_from (suc i) ts

-- the name of a list's cells among texts
abbrev pub dot_among : List (List ℕ) → Option Name
dot_among = dot_from 0
