-- The rows of a term, column by column, are the numbers that its cells have.
use Rattle.std.proofs.Common.{◌≡◌, ◌∙◌, ◌==◌, ◌&&◌, ℕ, zero, suc, ◌+◌, ◌*◌, ℤ, pos, ◌+ℤ◌, ◌*ℤ◌, Bool, true, false, if◌then◌else◌, List, [], ◌∷◌, ◌++◌, replicate, Option, None, Some, is_some, refl, ap, sym, subst, arith}
use Rattle.cti_terms.specs.Tree.{Tree, Trees, Variable, Integer, Compound, End, More}
use Rattle.cti_terms.specs.declared.builtins.Arith.{Arith}
use Rattle.linear_rows.specs.Replacing.{IsRowIfFits}
use Rattle.linear_rows.specs.RowSums.{added, scaled}
use Rattle.linear_rows.specs.declared.row.Row.{Row}
use Rattle.termination_model.specs.columns.Columns.{numbers, numbers_from}
use Rattle.termination_model.specs.columns.Expressions.{Linear, PartRows, above_row, all_linear, below_row, constant_row, constant_rows, linear, linear_of, minus_if, product_if, rows_at, scaled_if, sum_if, unit, unit_row}
use Rattle.termination_model.specs.columns.Measures.{Parts, minus_parts, no_parts, of_integer, product_parts, sum_parts}
use Rattle.number_columns.specs.Cells.{all_numbers, integer_numbers, numbers_at, numbers_in, numbers_of, one_if, product_numbers, variable_numbers}
use Rattle.number_columns.specs.Lines.{AreLines, spelled}
use Rattle.number_columns.specs.Rows.{IsExpressionRow}
use Rattle.number_columns.specs.declared.cell.Column.{Column}
use Rattle.number_columns.specs.declared.cell.Column.TheVariants.{Constant, Number}
use Rattle.number_columns.specs.declared.line.Lines.{Lines}

abbrev pub AreRows : ℕ → Option PartRows → (Column → Parts) → Type 0
AreRows vars None g = Unit {0}
AreRows vars (Some a) g = (a.0 ≡ spelled vars (λ c. (g c).0)) × (a.1 ≡ spelled vars (λ c. (g c).1))

-- ---- numbers of variables

numbers_same : (s r : ℕ → ℕ → ℤ) → ((y m : ℕ) → s y m ≡ r y m) → (x n : ℕ) → numbers_from 3 x n s ≡ numbers_from 3 x n r
numbers_same s r h x zero = refl
numbers_same s r h x (suc n) = let rest = numbers_same s r h (suc x) n in λ i. h x 0 i ∷ (h x 1 i ∷ (h x 2 i ∷ rest i))

numbers_added : (s r : ℕ → ℕ → ℤ) (x n : ℕ) → added (numbers_from 3 x n s) (numbers_from 3 x n r) ≡ numbers_from 3 x n (λ y m. s y m +ℤ r y m)
numbers_added s r x zero = refl
numbers_added s r x (suc n) = ap (λ xs. (s x 0 +ℤ r x 0) ∷ ((s x 1 +ℤ r x 1) ∷ ((s x 2 +ℤ r x 2) ∷ xs))) (numbers_added s r (suc x) n)

numbers_scaled : (k : ℤ) (s : ℕ → ℕ → ℤ) (x n : ℕ) → scaled k (numbers_from 3 x n s) ≡ numbers_from 3 x n (λ y m. k *ℤ s y m)
numbers_scaled k s x zero = refl
numbers_scaled k s x (suc n) = ap (λ xs. (k *ℤ s x 0) ∷ ((k *ℤ s x 1) ∷ ((k *ℤ s x 2) ∷ xs))) (numbers_scaled k s (suc x) n)

numbers_zero : (x n : ℕ) → replicate (n * 3) (pos 0) ≡ numbers_from 3 x n (λ y m. pos 0)
numbers_zero x zero = refl
numbers_zero x (suc n) =
    let more : suc n * 3 ≡ suc (suc (suc (n * 3))) = omega arith in
    ap (λ k. replicate k (pos 0)) more ∙ ap (λ xs. pos 0 ∷ (pos 0 ∷ (pos 0 ∷ xs))) (numbers_zero (suc x) n)

-- one variable more
pub numbers_more : (s : ℕ → ℕ → ℤ) (x n : ℕ) → numbers_from 3 x (suc n) s ≡ numbers_from 3 x n s ++ (s (x + n) 0 ∷ (s (x + n) 1 ∷ (s (x + n) 2 ∷ [])))
numbers_more s x zero = let same : x ≡ x + 0 = omega arith in ap (λ z. s z 0 ∷ (s z 1 ∷ (s z 2 ∷ []))) same
numbers_more s x (suc n) =
    let same : suc x + n ≡ x + suc n = omega arith in
    ap (λ xs. s x 0 ∷ (s x 1 ∷ (s x 2 ∷ xs))) (numbers_more s (suc x) n ∙ ap (λ z. numbers_from 3 (suc x) n s ++ (s z 0 ∷ (s z 1 ∷ (s z 2 ∷ [])))) same)

pub spelled_more : (n : ℕ) (g : Column → ℕ) → spelled n g ++ (pos (g (Number n 0)) ∷ (pos (g (Number n 1)) ∷ (pos (g (Number n 2)) ∷ []))) ≡ spelled (suc n) g
spelled_more n g =
    let s : ℕ → ℕ → ℤ = λ y m. pos (g (Number y m)) in
    let same : 0 + n ≡ n = omega arith in
    ap (λ xs. pos (g Constant) ∷ xs) (sym (numbers_more s 0 n ∙ ap (λ z. numbers 3 n s ++ (s z 0 ∷ (s z 1 ∷ (s z 2 ∷ [])))) same))

pub append_thrice : (zs : List ℤ) (a b c : ℤ) → ((zs ++ a ∷ []) ++ b ∷ []) ++ c ∷ [] ≡ zs ++ (a ∷ (b ∷ (c ∷ [])))
append_thrice [] a b c = refl
append_thrice (z ∷ zs) a b c = ap (λ xs. z ∷ xs) (append_thrice zs a b c)

pub spelled_thrice : (n : ℕ) (g : Column → ℕ) → ((spelled n g ++ pos (g (Number n 0)) ∷ []) ++ pos (g (Number n 1)) ∷ []) ++ pos (g (Number n 2)) ∷ [] ≡ spelled (suc n) g
spelled_thrice n g = append_thrice (spelled n g) (pos (g (Number n 0))) (pos (g (Number n 1))) (pos (g (Number n 2))) ∙ spelled_more n g

pub lines_more : (n : ℕ) (g : Column → Parts) (l : Lines)
    → AreLines (((spelled n (λ c. (g c).0) ++ pos (g (Number n 0)).0 ∷ []) ++ pos (g (Number n 1)).0 ∷ []) ++ pos (g (Number n 2)).0 ∷ []) (((spelled n (λ c. (g c).1) ++ pos (g (Number n 0)).1 ∷ []) ++ pos (g (Number n 1)).1 ∷ []) ++ pos (g (Number n 2)).1 ∷ []) l
    → AreLines (spelled (suc n) (λ c. (g c).0)) (spelled (suc n) (λ c. (g c).1)) l
lines_more n g l h = subst (λ (x : List ℤ × List ℤ). AreLines x.0 x.1 l) (λ i. (spelled_thrice n (λ c. (g c).0) i, spelled_thrice n (λ c. (g c).1) i)) h

-- ---- rows

spelled_sum : (vars : ℕ) (f g : Column → ℕ) → added (spelled vars f) (spelled vars g) ≡ spelled vars (λ c. f c + g c)
spelled_sum vars f g = ap (λ xs. pos (f Constant + g Constant) ∷ xs) (numbers_added (λ y m. pos (f (Number y m))) (λ y m. pos (g (Number y m))) 0 vars)

spelled_scaled : (vars k : ℕ) (f : Column → ℕ) → scaled (pos k) (spelled vars f) ≡ spelled vars (λ c. k * f c)
spelled_scaled vars k f = ap (λ xs. pos (k * f Constant) ∷ xs) (numbers_scaled (pos k) (λ y m. pos (f (Number y m))) 0 vars)

combined : (vars k l : ℕ) (f g : Column → ℕ) (a b : List ℤ) → a ≡ spelled vars f → b ≡ spelled vars g → added (scaled (pos k) a) (scaled (pos l) b) ≡ spelled vars (λ c. k * f c + l * g c)
combined vars k l f g a b e h =
    (λ i. added (scaled (pos k) (e i)) (scaled (pos l) (h i)))
    ∙ (λ i. added (spelled_scaled vars k f i) (spelled_scaled vars l g i))
    ∙ spelled_sum vars (λ c. k * f c) (λ c. l * g c)

unit_spelled : (vars x j : ℕ) (g : Column → ℕ) → g Constant ≡ 0 → ((y m : ℕ) → unit x j y m ≡ pos (g (Number y m))) → unit_row vars x j ≡ spelled vars g
unit_spelled vars x j g none each = let rest = numbers_same (unit x j) (λ y m. pos (g (Number y m))) each 0 vars in λ i. pos (sym none i) ∷ rest i

pos_one_if : (b : Bool) → (if b then pos 1 else pos 0) ≡ pos (one_if b)
pos_one_if true = refl
pos_one_if false = refl

variable_rows : (vars x : ℕ) → AreRows vars (Some (unit_row vars x 1, unit_row vars x 2)) (λ c. variable_numbers c x)
variable_rows vars x = (
  unit_spelled vars x 1 (λ c. (variable_numbers c x).0) refl (λ y m. pos_one_if ((y == x) && (m == 1))),
  unit_spelled vars x 2 (λ c. (variable_numbers c x).1) refl (λ y m. pos_one_if ((y == x) && (m == 2))),
)

constant_spelled : (vars k : ℕ) (g : Column → ℕ) → g Constant ≡ k → ((y m : ℕ) → g (Number y m) ≡ 0) → constant_row vars k ≡ spelled vars g
constant_spelled vars k g is none =
    let zeros = numbers_zero 0 vars ∙ numbers_same (λ y m. pos 0) (λ y m. pos (g (Number y m))) (λ y m. λ i. pos (sym (none y m) i)) 0 vars in
    λ i. pos (sym is i) ∷ zeros i

integer_rows : (vars : ℕ) (n : ℤ) → AreRows vars (Some (constant_rows vars (of_integer n))) (λ c. integer_numbers c n)
integer_rows vars n =
    (constant_spelled vars (of_integer n).0 (λ c. (integer_numbers c n).0) refl (λ y m. refl), constant_spelled vars (of_integer n).1 (λ c. (integer_numbers c n).1) refl (λ y m. refl))

still_rows : (vars : ℕ) → AreRows vars (Some (constant_rows vars no_parts)) (λ c. no_parts)
still_rows vars = (constant_spelled vars 0 (λ c. 0) refl (λ y m. refl), constant_spelled vars 0 (λ c. 0) refl (λ y m. refl))

-- ---- operations

minus_rows_are : (vars : ℕ) (a : Option PartRows) (g : Column → Parts) → AreRows vars a g → AreRows vars (minus_if a) (λ c. minus_parts (g c))
minus_rows_are vars None g h = tt
minus_rows_are vars (Some a) g h = (h.1, h.0)

sum_rows_are : (vars : ℕ) (a b : Option PartRows) (f g : Column → Parts) → AreRows vars a f → AreRows vars b g → AreRows vars (sum_if a b) (λ c. sum_parts (f c) (g c))
sum_rows_are vars None b f g h k = tt
sum_rows_are vars (Some a) None f g h k = tt
sum_rows_are vars (Some a) (Some b) f g h k =
    ((λ i. added (h.0 i) (k.0 i)) ∙ spelled_sum vars (λ c. (f c).0) (λ c. (g c).0), (λ i. added (h.1 i) (k.1 i)) ∙ spelled_sum vars (λ c. (f c).1) (λ c. (g c).1))

scaled_rows_are : (vars : ℕ) (p : Parts) (a : Option PartRows) (g : Column → Parts) → AreRows vars a g → AreRows vars (scaled_if p a) (λ c. product_parts p (g c))
scaled_rows_are vars p None g h = tt
scaled_rows_are vars p (Some a) g h =
    (combined vars p.0 p.1 (λ c. (g c).0) (λ c. (g c).1) a.0 a.1 h.0 h.1, combined vars p.0 p.1 (λ c. (g c).1) (λ c. (g c).0) a.1 a.0 h.1 h.0)

product_rows_are : (vars : ℕ) (l m : Linear) (f g : Column → Parts) → AreRows vars l.rows f → AreRows vars m.rows g → AreRows vars (product_if l m) (λ c. product_numbers l (f c) m (g c))
product_rows_are vars l m f g h k = go l.fixed m.fixed
  where
    go : (t u : Bool) → AreRows vars (if t then scaled_if l.parts m.rows else if u then scaled_if m.parts l.rows else None) (λ c. if t then product_parts l.parts (g c) else product_parts m.parts (f c))
    go true u = scaled_rows_are vars l.parts m.rows g k
    go false true = scaled_rows_are vars m.parts l.rows f h
    go false false = tt

-- ---- terms

module _ (o : Arith) (vars f : ℕ) where
  abbrev rows_of : Tree → Option PartRows
  rows_of t = (linear (Some o) vars t).rows

  abbrev cells_of : Tree → Column → Parts
  cells_of t c = numbers_at (Some o) vars c t

  one_are : (t : Bool) (a : Tree) → AreRows vars (rows_of a) (cells_of a)
      → AreRows vars (if t then minus_if (rows_of a) else Some (constant_rows vars no_parts)) (λ c. if t then minus_parts (cells_of a c) else no_parts)
  one_are true a h = minus_rows_are vars (rows_of a) (cells_of a) h
  one_are false a h = still_rows vars

  two_are : (t u v : Bool) (a b : Tree) → AreRows vars (rows_of a) (cells_of a) → AreRows vars (rows_of b) (cells_of b)
      → AreRows vars (if t then sum_if (rows_of a) (rows_of b) else if u then sum_if (rows_of a) (minus_if (rows_of b)) else if v then product_if (linear (Some o) vars a) (linear (Some o) vars b) else Some (constant_rows vars no_parts))
      (λ c. if t then sum_parts (cells_of a c) (cells_of b c) else if u then sum_parts (cells_of a c) (minus_parts (cells_of b c)) else if v then product_numbers (linear (Some o) vars a) (cells_of a c) (linear (Some o) vars b) (cells_of b c) else no_parts)
  two_are true u v a b h k = sum_rows_are vars (rows_of a) (rows_of b) (cells_of a) (cells_of b) h k
  two_are false true v a b h k = sum_rows_are vars (rows_of a) (minus_if (rows_of b)) (cells_of a) (λ c. minus_parts (cells_of b c)) h (minus_rows_are vars (rows_of b) (cells_of b) k)
  two_are false false true a b h k = product_rows_are vars (linear (Some o) vars a) (linear (Some o) vars b) (cells_of a) (cells_of b) h k
  two_are false false false a b h k = still_rows vars

abbrev AllHaveRows : Option Arith → ℕ → Trees → Type 0
AllHaveRows o vars End = Unit {0}
AllHaveRows o vars (More t ts) = AreRows vars (linear o vars t).rows (λ c. numbers_at o vars c t) × AllHaveRows o vars ts

compound_rows : (o : Arith) (vars f : ℕ) (ts : Trees) → AllHaveRows (Some o) vars ts
    → AreRows vars (rows_at vars o f (all_linear (Some o) vars ts)) (λ c. numbers_in o f (all_numbers (Some o) vars c ts))
compound_rows o vars f End h = still_rows vars
compound_rows o vars f (More a End) h = one_are o vars f (f == o.minus.0) a h.0
compound_rows o vars f (More a (More b End)) h = two_are o vars f (f == o.plus.0) (f == o.minus.0) (f == o.times.0) a b h.0 h.1.0
compound_rows o vars f (More a (More b (More d ds))) h = still_rows vars

named_rows : (o : Option Arith) (vars f : ℕ) (ts : Trees) → AllHaveRows o vars ts
    → AreRows vars (linear_of vars o f (all_linear o vars ts)).rows (λ c. numbers_of o f (all_numbers o vars c ts))
named_rows None vars f ts h = still_rows vars
named_rows (Some o) vars f ts h = compound_rows o vars f ts h

mutual
  -- the rows of a term have the numbers of its cells
  pub rows_are : (o : Option Arith) (vars : ℕ) (t : Tree) → AreRows vars (linear o vars t).rows (λ c. numbers_at o vars c t)
  rows_are o vars (Variable x) = variable_rows vars x
  rows_are o vars (Integer n) = integer_rows vars n
  rows_are o vars (Compound f ts) = named_rows o vars f ts (all_rows_are o vars ts)

  all_rows_are : (o : Option Arith) (vars : ℕ) (ts : Trees) → AllHaveRows o vars ts
  all_rows_are o vars End = tt
  all_rows_are o vars (More t ts) = (rows_are o vars t, all_rows_are o vars ts)

-- ---- what is answered

-- the rows, each where its numbers fit
pub rows_found : (vars : ℕ) (rows : Option PartRows) (g : Column → Parts) → AreRows vars rows g → is_some rows ≡ true → (above below : Option Row)
    → IsRowIfFits (spelled vars (λ c. (g c).0)) above × IsRowIfFits (spelled vars (λ c. (g c).1)) below → IsExpressionRow (above_row rows) above × IsExpressionRow (below_row rows) below
rows_found vars None g h e above below fits = cc
rows_found vars (Some a) g h e above below fits =
    (subst (λ zs. IsRowIfFits zs above) (sym h.0) fits.0, subst (λ zs. IsRowIfFits zs below) (sym h.1) fits.1)

pub none_found : (rows : Option PartRows) → is_some rows ≡ false → IsExpressionRow (above_row rows) None × IsExpressionRow (below_row rows) None
none_found None e = (refl, refl)
none_found (Some a) e = cc
