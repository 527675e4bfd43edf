-- To believe, for reading.
-- The texts of the operators before the first clause, and how texts are put to a list of names.
--
-- To believe: all of this file, and below it `with_text` of cti_terms.
use Rattle.std.specs.Prelude.{List, ℕ, [], ◌∷◌, ◌++◌, codes}
use Rattle.cti_terms.specs.Numbers.{with_text}

-- the names, and after them those of these texts that are new, in order
unfoldable pub with_names : List (List ℕ) → List (List ℕ) → List (List ℕ)
with_names names [] = names
with_names names (t ∷ ts) = with_names (with_text names t) ts

-- the texts of the operators before the first clause
abbrev pub clause_texts : List (List ℕ)
clause_texts = codes ":-" ∷ codes "-->" ∷ codes ":-" ∷ codes "?-" ∷ codes ";" ∷ codes "->" ∷ codes "\\+" ∷ []

abbrev pub comparison_texts : List (List ℕ)
comparison_texts =
    codes "=" ∷ codes "\\=" ∷ codes "==" ∷ codes "\\==" ∷ codes "@<" ∷ codes "@=<" ∷ codes "@>" ∷ codes "@>=" ∷ codes "=.." ∷ codes "is" ∷ codes "=:=" ∷ codes "=\\=" ∷ codes "<" ∷ codes "=<" ∷ codes ">"
    ∷ codes ">=" ∷ []

abbrev pub arithmetic_texts : List (List ℕ)
arithmetic_texts =
    codes "+" ∷ codes "-" ∷ codes "/\\" ∷ codes "\\/" ∷ codes "*" ∷ codes "/" ∷ codes "//" ∷ codes "rem" ∷ codes "mod" ∷ codes "<<" ∷ codes ">>" ∷ codes "**" ∷ codes "^" ∷ codes "-" ∷ codes "\\" ∷ []

abbrev pub operator_texts : List (List ℕ)
operator_texts = clause_texts ++ comparison_texts ++ arithmetic_texts
