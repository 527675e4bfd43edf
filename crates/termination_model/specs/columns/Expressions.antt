-- Private.
-- To believe, for who is found and for answers that are not understood.
-- Linear terms, and their measures as rows over the numbers of a clause's variables.
--
-- A term is linear where it is a variable, an integer, or none of the operations; or one of a+b, a-b, -a of linear
-- terms; or a*b of linear terms, one of which is fixed: it has no variable outside terms that are none of the
-- operations.
--
-- To believe: all of this file. That a row's value is the measure is the law `expressions` of columns.
use Rattle.std.specs.Prelude.{ℕ, zero, suc, ◌*◌, ◌==◌, ◌&&◌, Bool, true, false, if◌then◌else◌, ℤ, pos, List, [], ◌∷◌, map, replicate, Option, None, Some}
use Rattle.cti_terms.specs.Tree.{Tree, Trees, Variable, Integer, Compound, End, More, size}
use Rattle.cti_terms.specs.declared.builtins.Arith.{Arith}
use Rattle.linear_rows.specs.RowSums.{scaled, added}
use Rattle.term_size.specs.Occurrences.{occurrences}
use Rattle.termination_model.specs.columns.Columns.{Columns, numbers}
use Rattle.termination_model.specs.columns.Measures.{Parts, of_integer, no_parts, parts_of, measure, stated_rows, kinds_of_evaluated}

-- the rows of what a value has above 0 and below
abbrev pub PartRows : Type 0
PartRows = List ℤ × List ℤ

-- a row with a constant alone, over so many variables
abbrev pub constant_row : ℕ → ℕ → List ℤ
constant_row vars k = pos k ∷ replicate (vars * 3) (pos 0)

-- the row of one number of a variable
abbrev pub unit : ℕ → ℕ → ℕ → ℕ → ℤ
unit x j y k = if (y == x) && (k == j) then pos 1 else pos 0

abbrev pub unit_row : ℕ → ℕ → ℕ → List ℤ
unit_row vars x j = pos 0 ∷ numbers 3 vars (unit x j)

abbrev pub constant_rows : ℕ → Parts → PartRows
constant_rows vars p = (constant_row vars p.0, constant_row vars p.1)

abbrev pub sum_rows : PartRows → PartRows → PartRows
sum_rows a b = (added a.0 b.0, added a.1 b.1)

abbrev pub minus_rows : PartRows → PartRows
minus_rows a = (a.1, a.0)

-- rows times a number that has these parts
abbrev pub scaled_rows : Parts → PartRows → PartRows
scaled_rows p a = (added (scaled (pos p.0) a.0) (scaled (pos p.1) a.1), added (scaled (pos p.0) a.1) (scaled (pos p.1) a.0))

-- of a term: its rows where it is linear, whether it is fixed, and the parts that it has then
pub record Linear : Type 0 where
  pub rows : Option PartRows
  pub fixed : Bool
  pub parts : Parts

abbrev pub minus_if : Option PartRows → Option PartRows
minus_if None = None
minus_if (Some a) = Some (minus_rows a)

abbrev pub sum_if : Option PartRows → Option PartRows → Option PartRows
sum_if None b = None
sum_if (Some a) None = None
sum_if (Some a) (Some b) = Some (sum_rows a b)

abbrev pub scaled_if : Parts → Option PartRows → Option PartRows
scaled_if p None = None
scaled_if p (Some a) = Some (scaled_rows p a)

abbrev pub product_if : Linear → Linear → Option PartRows
product_if a b = if a.fixed then scaled_if a.parts b.rows else if b.fixed then scaled_if b.parts a.rows else None

abbrev pub rows_at : ℕ → Arith → ℕ → List Linear → Option PartRows
rows_at vars o f [] = Some (constant_rows vars no_parts)
rows_at vars o f (a ∷ []) = if f == o.minus.0 then minus_if a.rows else Some (constant_rows vars no_parts)
rows_at vars o f (a ∷ (b ∷ [])) =
    if f == o.plus.0 then sum_if a.rows b.rows
    else if f == o.minus.0 then sum_if a.rows (minus_if b.rows)
    else if f == o.times.0 then product_if a b
    else Some (constant_rows vars no_parts)
rows_at vars o f (a ∷ (b ∷ (c ∷ cs))) = Some (constant_rows vars no_parts)

abbrev pub fixed_at : Arith → ℕ → List Linear → Bool
fixed_at o f [] = true
fixed_at o f (a ∷ []) = if f == o.minus.0 then a.fixed else true
fixed_at o f (a ∷ (b ∷ [])) =
    if f == o.plus.0 then a.fixed && b.fixed
    else if f == o.minus.0 then a.fixed && b.fixed
    else if f == o.times.0 then a.fixed && b.fixed
    else true
fixed_at o f (a ∷ (b ∷ (c ∷ cs))) = true

abbrev pub linear_of : ℕ → Option Arith → ℕ → List Linear → Linear
linear_of vars None f ls = record { rows = Some (constant_rows vars no_parts); fixed = true; parts = no_parts }
linear_of vars (Some o) f ls = record { rows = rows_at vars o f ls; fixed = fixed_at o f ls; parts = parts_of (Some o) f (map (λ (l : Linear). l.parts) ls) }

abbrev mutual
  pub linear : Option Arith → ℕ → Tree → Linear
  linear o vars (Variable x) = record { rows = Some (unit_row vars x 1, unit_row vars x 2); fixed = false; parts = no_parts }
  linear o vars (Integer n) = record { rows = Some (constant_rows vars (of_integer n)); fixed = true; parts = of_integer n }
  linear o vars (Compound f ts) = linear_of vars o f (all_linear o vars ts)

  pub all_linear : Option Arith → ℕ → Trees → List Linear
  all_linear o vars End = []
  all_linear o vars (More t ts) = linear o vars t ∷ all_linear o vars ts

-- the size of a term: the constant, and how often each variable occurs
abbrev pub occurring : Tree → ℕ → ℕ → ℤ
occurring t x zero = pos (occurrences x t)
occurring t x (suc j) = pos 0

abbrev pub size_row : ℕ → Tree → List ℤ
size_row vars t = pos (size (λ _. 0) t) ∷ numbers 3 vars (occurring t)

abbrev pub above_row : Option PartRows → Option (List ℤ)
above_row None = None
above_row (Some a) = Some a.0

abbrev pub below_row : Option PartRows → Option (List ℤ)
below_row None = None
below_row (Some a) = Some a.1

-- a column of a term as a row, where there is one
abbrev pub expression : Option Arith → ℕ → Tree → ℕ → Option (List ℤ)
expression o vars t zero = Some (size_row vars t)
expression o vars t (suc zero) = above_row (linear o vars t).rows
expression o vars t (suc (suc zero)) = below_row (linear o vars t).rows
expression o vars t (suc (suc (suc j))) = None

-- the columns of a program with these operations
abbrev pub three_columns : Option Arith → Columns
three_columns o = record { width = 3; measure = measure o; expression = expression o; evaluated = kinds_of_evaluated; stated = stated_rows }
