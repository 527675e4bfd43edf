-- Private.
-- The numbers in one column of the two rows of a term, as the code finds them. Nothing here has to be believed.
use Rattle.std.specs.Prelude.{◌≡◌, ◌-◌, ◌^◌, ◌==◌, ◌&&◌, min, ℕ, ℤ, Bool, false, if◌then◌else◌, List, [], ◌∷◌, Option, None, Some, is_some}
use Rattle.cti_terms.specs.Tree.{Tree, Trees, Variable, Integer, Compound, End, More}
use Rattle.cti_terms.specs.declared.builtins.Arith.{Arith}
use Rattle.termination_model.specs.columns.Expressions.{Linear, linear, minus_if, sum_if, product_if}
use Rattle.termination_model.specs.columns.Measures.{Parts, minus_parts, no_parts, of_integer, product_parts, sum_parts}
use Rattle.number_columns.specs.declared.cell.Cell.{Cell}
use Rattle.number_columns.specs.declared.cell.Column.{Column}
use Rattle.number_columns.specs.declared.cell.Column.TheVariants.{Constant, Number}
use Rattle.number_columns.specs.declared.parts.Parts.{Parts as CodeParts}

-- a number of at most 128 bits; the greatest one stands for all from it on
abbrev pub capped : ℕ → ℕ
capped n = min n (2 ^ 128 - 1)

abbrev pub IsCapped : Parts → CodeParts → Type 0
IsCapped p c = (c.above ≡ capped p.0) × (c.below ≡ capped p.1)

-- ---- terms that are operations, as records

abbrev pub minus_linear : Linear → Linear
minus_linear l = record { rows = minus_if l.rows; fixed = l.fixed; parts = minus_parts l.parts }

abbrev pub sum_linear : Linear → Linear → Linear
sum_linear l m = record { rows = sum_if l.rows m.rows; fixed = l.fixed && m.fixed; parts = sum_parts l.parts m.parts }

abbrev pub product_linear : Linear → Linear → Linear
product_linear l m = record { rows = product_if l m; fixed = l.fixed && m.fixed; parts = product_parts l.parts m.parts }

-- ---- the numbers in a column

abbrev pub one_if : Bool → ℕ
one_if b = if b then 1 else 0

abbrev pub variable_numbers : Column → ℕ → Parts
variable_numbers Constant x = no_parts
variable_numbers (Number y m) x = (one_if ((y == x) && (m == 1)), one_if ((y == x) && (m == 2)))

abbrev pub integer_numbers : Column → ℤ → Parts
integer_numbers Constant n = of_integer n
integer_numbers (Number y m) n = no_parts

-- of a product, by the factor that is fixed
abbrev pub product_numbers : Linear → Parts → Linear → Parts → Parts
product_numbers l p m q = if l.fixed then product_parts l.parts q else product_parts m.parts p

-- of a name with arguments, by those of the arguments
abbrev pub numbers_in : Arith → ℕ → List (Linear × Parts) → Parts
numbers_in o f [] = no_parts
numbers_in o f (a ∷ []) = if f == o.minus.0 then minus_parts a.1 else no_parts
numbers_in o f (a ∷ (b ∷ [])) =
    if f == o.plus.0 then sum_parts a.1 b.1
    else if f == o.minus.0 then sum_parts a.1 (minus_parts b.1)
    else if f == o.times.0 then product_numbers a.0 a.1 b.0 b.1
    else no_parts
numbers_in o f (a ∷ (b ∷ (c ∷ cs))) = no_parts

abbrev pub numbers_of : Option Arith → ℕ → List (Linear × Parts) → Parts
numbers_of None f ls = no_parts
numbers_of (Some o) f ls = numbers_in o f ls

abbrev mutual
  pub numbers_at : Option Arith → ℕ → Column → Tree → Parts
  numbers_at o vars c (Variable x) = variable_numbers c x
  numbers_at o vars c (Integer n) = integer_numbers c n
  numbers_at o vars c (Compound f ts) = numbers_of o f (all_numbers o vars c ts)

  pub all_numbers : Option Arith → ℕ → Column → Trees → List (Linear × Parts)
  all_numbers o vars c End = []
  all_numbers o vars c (More t ts) = (linear o vars t, numbers_at o vars c t) ∷ all_numbers o vars c ts

-- a name that is none of the operations
abbrev pub IsOther : Arith → ℕ → Type 0
IsOther o f = ((f == o.plus.0) ≡ false) × ((f == o.minus.0) ≡ false) × ((f == o.times.0) ≡ false)

-- a cell of a term
pub record IsCell (l : Linear) (p : Parts) (c : Cell) : Type 0 where
  pub linear : c.is_linear ≡ is_some l.rows
  pub fixed : c.is_fixed ≡ l.fixed
  pub constants : IsCapped l.parts c.constants
  pub numbers : IsCapped p c.numbers
