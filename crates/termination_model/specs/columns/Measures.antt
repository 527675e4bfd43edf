-- Private.
-- Three measures of a term: its size, and what its value has above and below 0.
--
-- A term's value is what it has above 0 less what it has below. Both are sums of products of the variables' own, so
-- that they are measures of an instance too.
--
-- To believe: all of this file.
use Rattle.std.specs.Prelude.{ℕ, zero, suc, ◌+◌, ◌*◌, ◌==◌, if◌then◌else◌, ℤ, pos, negsuc, List, [], ◌∷◌, Option, None, Some}
use Rattle.cti_terms.specs.Tree.{Tree, Trees, Variable, Integer, Compound, End, More, size}
use Rattle.cti_terms.specs.declared.builtins.Arith.{Arith}
use Rattle.cti_terms.specs.declared.builtins.Builtin.{Builtin}
use Rattle.cti_terms.specs.declared.builtins.Builtin.TheVariants.{Is, Equal, NotEqual, Less, AtMost, Greater, AtLeast}
use Rattle.termination_model.specs.columns.Columns.{Valuation}

-- what a value has above 0, and what it has below
abbrev pub Parts : Type 0
Parts = ℕ × ℕ

abbrev pub of_integer : ℤ → Parts
of_integer (pos n) = (n, 0)
of_integer (negsuc n) = (0, suc n)

abbrev pub no_parts : Parts
no_parts = (0, 0)

abbrev pub sum_parts : Parts → Parts → Parts
sum_parts a b = (a.0 + b.0, a.1 + b.1)

abbrev pub minus_parts : Parts → Parts
minus_parts a = (a.1, a.0)

abbrev pub product_parts : Parts → Parts → Parts
product_parts a b = (a.0 * b.0 + a.1 * b.1, a.0 * b.1 + a.1 * b.0)

-- the parts of the term with this name, at those of its arguments
abbrev pub parts_at : Arith → ℕ → List Parts → Parts
parts_at o f [] = no_parts
parts_at o f (a ∷ []) = if f == o.minus.0 then minus_parts a else no_parts
parts_at o f (a ∷ (b ∷ [])) =
    if f == o.plus.0 then sum_parts a b
    else if f == o.minus.0 then sum_parts a (minus_parts b)
    else if f == o.times.0 then product_parts a b
    else no_parts
parts_at o f (a ∷ (b ∷ (c ∷ cs))) = no_parts

-- the same where operations may have no names
abbrev pub parts_of : Option Arith → ℕ → List Parts → Parts
parts_of None f ps = no_parts
parts_of (Some o) f ps = parts_at o f ps

abbrev mutual
  -- the parts of a term, where each variable has its own
  pub parts : Option Arith → Valuation → Tree → Parts
  parts o s (Variable x) = (s x 1, s x 2)
  parts o s (Integer n) = of_integer n
  parts o s (Compound f ts) = parts_of o f (all_parts o s ts)

  pub all_parts : Option Arith → Valuation → Trees → List Parts
  all_parts o s End = []
  all_parts o s (More t ts) = parts o s t ∷ all_parts o s ts

-- the measures of a term by number: size, above, below
abbrev pub measure : Option Arith → Valuation → Tree → ℕ → ℕ
measure o s t zero = size (λ x. s x 0) t
measure o s t (suc zero) = (parts o s t).0
measure o s t (suc (suc zero)) = (parts o s t).1
measure o s t (suc (suc (suc j))) = 0

-- ---- stated rows, over the columns size, above, below of both arguments

-- the value of the first, less that of the second, and d
abbrev pub first_exceeds : ℤ → List ℤ
first_exceeds d = d ∷ (pos 0 ∷ (pos 1 ∷ (negsuc 0 ∷ (pos 0 ∷ (negsuc 0 ∷ (pos 1 ∷ []))))))

-- the value of the second, less that of the first, and d
abbrev pub second_exceeds : ℤ → List ℤ
second_exceeds d = d ∷ (pos 0 ∷ (negsuc 0 ∷ (pos 1 ∷ (pos 0 ∷ (pos 1 ∷ (negsuc 0 ∷ []))))))

-- of `is` the first argument is an integer where it succeeds: its size is 0, and of its parts one is
abbrev pub size_is_zero : List ℤ
size_is_zero = pos 0 ∷ (negsuc 0 ∷ (pos 0 ∷ (pos 0 ∷ (pos 0 ∷ (pos 0 ∷ (pos 0 ∷ []))))))

abbrev pub above_is_within : List ℤ
above_is_within = pos 0 ∷ (pos 0 ∷ (negsuc 0 ∷ (pos 0 ∷ (pos 0 ∷ (pos 1 ∷ (pos 0 ∷ []))))))

abbrev pub below_is_within : List ℤ
below_is_within = pos 0 ∷ (pos 0 ∷ (pos 0 ∷ (negsuc 0 ∷ (pos 0 ∷ (pos 0 ∷ (pos 1 ∷ []))))))

abbrev pub stated_rows : Builtin → List (List ℤ)
stated_rows Is = size_is_zero ∷ (first_exceeds (pos 0) ∷ (second_exceeds (pos 0) ∷ (above_is_within ∷ (below_is_within ∷ []))))
stated_rows Equal = first_exceeds (pos 0) ∷ (second_exceeds (pos 0) ∷ [])
stated_rows NotEqual = []
stated_rows Less = second_exceeds (negsuc 0) ∷ []
stated_rows AtMost = second_exceeds (pos 0) ∷ []
stated_rows Greater = first_exceeds (negsuc 0) ∷ []
stated_rows AtLeast = first_exceeds (pos 0) ∷ []

abbrev pub kinds_of_evaluated : List ℕ
kinds_of_evaluated = 3 ∷ (3 ∷ [])
