-- To believe, for the modes.
-- What is stated of built-in predicates: their size rows.
--
-- The first argument of `is` is an integer where it succeeds, so its size is 0. Nothing is said of the sizes of others.
--
-- To believe: all of this file. The stated truth row, of two rigid arguments, stands in Grounds.antt.
use Rattle.std.specs.Prelude.{◌≡◌, ℕ, ℤ, pos, negsuc, List, [], ◌∷◌, Some}
use Rattle.std.specs.List.{AllByRecursion}
use Rattle.cti_terms.specs.Arithmetic.{Arithmetic, kind_of}
use Rattle.cti_terms.specs.declared.builtins.Builtin.{Builtin}
use Rattle.cti_terms.specs.declared.builtins.Builtin.TheVariants.{Is}
use Rattle.linear_rows.specs.Members.{In}

-- the stated row of `is`, the constant first: the size of the first argument is at most 0
abbrev pub is_row : List ℤ
is_row = pos 0 ∷ (negsuc 0 ∷ (pos 0 ∷ []))

-- the stated size rows of a kind
abbrev pub stated_rows : Builtin → List (List ℤ)
stated_rows Is = is_row ∷ []
stated_rows b = []

-- the size rows of each built-in predicate are among its stated ones
abbrev pub AreStated : Arithmetic → (ℕ → List (List ℤ)) → Type 0
AreStated ar rows = (q : ℕ) (b : Builtin) → kind_of ar q ≡ Some b → AllByRecursion (λ r. In r (stated_rows b)) (rows q)
