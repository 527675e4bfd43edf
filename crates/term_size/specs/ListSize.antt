-- To believe, for a Yes.
-- List size: the number of a list's cells. A term that is no cell counts 0, and is rigid whatever its arguments are.
--
-- The cell's name is given, by its number; where there is none, no term is a cell.
--
-- To believe: `list_size`, `list_truth`, `list_row`. That the row's value is the size is the law `value` of norms.
-- Source: the list-length norm, as in Bossi, Cocco and Fabris 1991.
use Rattle.std.specs.Prelude.{ℕ, zero, suc, ◌+◌, ◌==◌, if◌then◌else◌, ℤ, pos, Bool, true, false, List, [], ◌∷◌, Option, None, Some}
use Rattle.cti_terms.specs.Tree.{Tree, Trees, Variable, Integer, Compound, End, More}
use Rattle.cti_terms.specs.declared.naming.Name.{Name}

-- whether a name is the cell's
abbrev pub is_dot : Option Name → ℕ → Bool
is_dot None f = false
is_dot (Some d) f = d.0 == f

abbrev mutual
  -- the size of a term, where each variable x counts as s x
  pub list_size : Option Name → (ℕ → ℕ) → Tree → ℕ
  list_size d s (Variable x) = s x
  list_size d s (Integer n) = 0
  list_size d s (Compound f ts) = if is_dot d f then cell_size d s ts else 0

  -- the size of a cell with these arguments: one more than its tail's. Other numbers of arguments make no cell
  pub cell_size : Option Name → (ℕ → ℕ) → Trees → ℕ
  cell_size d s End = 0
  cell_size d s (More h End) = 0
  cell_size d s (More h (More t End)) = 1 + list_size d s t
  cell_size d s (More h (More t (More u us))) = 0

abbrev mutual
  -- whether a term is true: whether v is true of the variable at the end of the list, if there is one. By a v that is
  -- false of T,
  -- `[X|T]` is false; `[X,Y]` is true by each v
  pub list_truth : Option Name → (ℕ → Bool) → Tree → Bool
  list_truth d v (Variable x) = v x
  list_truth d v (Integer n) = true
  list_truth d v (Compound f ts) = if is_dot d f then cell_truth d v ts else true

  pub cell_truth : Option Name → (ℕ → Bool) → Trees → Bool
  cell_truth d v End = true
  cell_truth d v (More h End) = true
  cell_truth d v (More h (More t End)) = list_truth d v t
  cell_truth d v (More h (More t (More u us))) = true

abbrev mutual
  -- the variable at the end of a list, if it ends in one
  pub end_of : Option Name → Tree → Option ℕ
  end_of d (Variable x) = Some x
  end_of d (Integer n) = None
  end_of d (Compound f ts) = if is_dot d f then cell_end d ts else None

  pub cell_end : Option Name → Trees → Option ℕ
  cell_end d End = None
  cell_end d (More h End) = None
  cell_end d (More h (More t End)) = end_of d t
  cell_end d (More h (More t (More u us))) = None

-- the tail of a cell, if a term is one
abbrev pub second : Trees → Option Tree
second End = None
second (More h End) = None
second (More h (More t End)) = Some t
second (More h (More t (More u us))) = None

abbrev pub tail_of : Option Name → Tree → Option Tree
tail_of d (Variable x) = None
tail_of d (Integer n) = None
tail_of d (Compound f ts) = if is_dot d f then second ts else None

-- how often a variable is the one at the end
abbrev pub ends_in : Option ℕ → ℕ → ℕ
ends_in None x = 0
ends_in (Some y) x = if x == y then 1 else 0

-- the same of the given number of variables, from x on
abbrev pub ends_from : ℕ → ℕ → Option ℕ → List ℤ
ends_from x zero o = []
ends_from x (suc n) o = pos (ends_in o x) ∷ ends_from (suc x) n o

-- the number of cells, then whether each variable is the one at the end
abbrev pub list_row : Option Name → ℕ → Tree → List ℤ
list_row d vars t = pos (list_size d (λ _. 0) t) ∷ ends_from 0 vars (end_of d t)
