-- Cells of operations, by the tests of their names.
use Rattle.std.proofs.Common.{◌≡◌, ◌≢◌, ◌∙◌, ℕ, ℤ, Bool, true, false, ◌==◌, ◌&&◌, ◌≤◌, ◌<◌, get_or, arith, if◌then◌else◌, List, [], ◌∷◌, map, length, suc, Option, Some, refl, ap, sym, subst}
use Rattle.cti_terms.specs.Spell.{tree_of, tree_step, trees_of}
use Rattle.cti_terms.specs.Tree.{Tree, Trees, Variable, Integer, End, More}
use Rattle.cti_terms.specs.declared.builtins.Arith.{Arith}
use Rattle.cti_terms.specs.declared.syntax.Term.{Term, fold-roll-Term}
use Rattle.cti_terms.specs.declared.syntax.Term.TheOpen.Term-F.{Var as VarLayer, Int as IntLayer}
use Rattle.cti_terms.specs.declared.syntax.Term.TheVariants.{Var, Int, rolls-Var, rolls-Int}
use Rattle.termination_model.specs.columns.Expressions.{Linear, all_linear, constant_rows, linear, linear_of, minus_if, product_if, sum_if}
use Rattle.termination_model.specs.columns.Measures.{Parts, minus_parts, no_parts, product_parts, sum_parts}
use Rattle.number_columns.specs.Cells.{IsCell, IsOther, all_numbers, minus_linear, numbers_at, numbers_in, product_linear, product_numbers, sum_linear}
use Rattle.number_columns.specs.declared.cell.Cell.{Cell}
use Rattle.number_columns.specs.declared.cell.Column.{Column}

abbrev still_linear : ℕ → Linear
still_linear vars = record { rows = Some (constant_rows vars no_parts); fixed = true; parts = no_parts }

-- ---- one argument

module _ (vars : ℕ) (l : Linear) (p : Parts) (c : Cell) where
  abbrev one_at : Bool → Linear
  one_at t = record {
    rows = if t then minus_if l.rows else Some (constant_rows vars no_parts);
    fixed = if t then l.fixed else true;
    parts = if t then minus_parts l.parts else no_parts;
  }

  pub one_minus : (t : Bool) → t ≡ true → IsCell (minus_linear l) (minus_parts p) c → IsCell (one_at t) (if t then minus_parts p else no_parts) c
  one_minus true h k = k
  one_minus false h k = cc

  pub one_other : (t : Bool) → t ≡ false → IsCell (still_linear vars) no_parts c → IsCell (one_at t) (if t then minus_parts p else no_parts) c
  one_other true h k = cc
  one_other false h k = k

-- ---- two arguments

module _ (vars : ℕ) (l m : Linear) (p q : Parts) (c : Cell) where
  abbrev two_at : Bool → Bool → Bool → Linear
  two_at t u v = record {
    rows = if t then sum_if l.rows m.rows else if u then sum_if l.rows (minus_if m.rows) else if v then product_if l m else Some (constant_rows vars no_parts);
    fixed = if t then l.fixed && m.fixed else if u then l.fixed && m.fixed else if v then l.fixed && m.fixed else true;
    parts = if t then sum_parts l.parts m.parts else if u then sum_parts l.parts (minus_parts m.parts) else if v then product_parts l.parts m.parts else no_parts;
  }

  abbrev numbers_two : Bool → Bool → Bool → Parts
  numbers_two t u v = if t then sum_parts p q else if u then sum_parts p (minus_parts q) else if v then product_numbers l p m q else no_parts

  pub two_plus : (t u v : Bool) → t ≡ true → IsCell (sum_linear l m) (sum_parts p q) c → IsCell (two_at t u v) (numbers_two t u v) c
  two_plus true u v h k = k
  two_plus false u v h k = cc

  pub two_minus : (t u v : Bool) → t ≡ false → u ≡ true → IsCell (sum_linear l (minus_linear m)) (sum_parts p (minus_parts q)) c → IsCell (two_at t u v) (numbers_two t u v) c
  two_minus true u v h g k = cc
  two_minus false true v h g k = k
  two_minus false false v h g k = cc

  pub two_times : (t u v : Bool) → t ≡ false → u ≡ false → v ≡ true → IsCell (product_linear l m) (product_numbers l p m q) c → IsCell (two_at t u v) (numbers_two t u v) c
  two_times true u v h g f k = cc
  two_times false true v h g f k = cc
  two_times false false true h g f k = k
  two_times false false false h g f k = cc

  pub two_other : (t u v : Bool) → t ≡ false → u ≡ false → v ≡ false → IsCell (still_linear vars) no_parts c → IsCell (two_at t u v) (numbers_two t u v) c
  two_other true u v h g f k = cc
  two_other false true v h g f k = cc
  two_other false false true h g f k = cc
  two_other false false false h g f k = k

-- ---- a name that is none of the operations

pub other_cell : (vars : ℕ) (o : Arith) (f : ℕ) (ls : List Linear) (ps : List (Linear × Parts)) (c : Cell) → map (λ x. x.0) ps ≡ ls → IsOther o f → IsCell (still_linear vars) no_parts c
    → IsCell (linear_of vars (Some o) f ls) (numbers_in o f ps) c
other_cell vars o f ls [] c e other k = subst (λ xs. IsCell (linear_of vars (Some o) f xs) no_parts c) e k
other_cell vars o f ls (a ∷ []) c e other k =
    subst (λ xs. IsCell (linear_of vars (Some o) f xs) (numbers_in o f (a ∷ [])) c) e (one_other vars a.0 a.1 c (f == o.minus.0) other.1 k)
other_cell vars o f ls (a ∷ (b ∷ [])) c e other k =
    subst (λ xs. IsCell (linear_of vars (Some o) f xs) (numbers_in o f (a ∷ (b ∷ []))) c) e (two_other vars a.0 b.0 a.1 b.1 c (f == o.plus.0) (f == o.minus.0) (f == o.times.0) other.0 other.1 other.2 k)
other_cell vars o f ls (a ∷ (b ∷ (d ∷ ds))) c e other k = subst (λ xs. IsCell (linear_of vars (Some o) f xs) no_parts c) e k

-- more than two arguments, or none
pub many_cell : (vars : ℕ) (o : Arith) (f : ℕ) (ls : List Linear) (ps : List (Linear × Parts)) (c : Cell) → map (λ x. x.0) ps ≡ ls
    → length ps ≢ 1 → length ps ≢ 2 → IsCell (still_linear vars) no_parts c → IsCell (linear_of vars (Some o) f ls) (numbers_in o f ps) c
many_cell vars o f ls [] c e one two k = subst (λ xs. IsCell (linear_of vars (Some o) f xs) no_parts c) e k
many_cell vars o f ls (a ∷ []) c e one two k = absurd (one refl)
many_cell vars o f ls (a ∷ (b ∷ [])) c e one two k = absurd (two refl)
many_cell vars o f ls (a ∷ (b ∷ (d ∷ ds))) c e one two k = subst (λ xs. IsCell (linear_of vars (Some o) f xs) no_parts c) e k

-- ---- the arguments of a term

pub arguments_are : (o : Option Arith) (vars : ℕ) (column : Column) (ts : Trees) → map (λ (x : Linear × Parts). x.0) (all_numbers o vars column ts) ≡ all_linear o vars ts
arguments_are o vars column End = refl
arguments_are o vars column (More t ts) = let rest = arguments_are o vars column ts in λ i. linear o vars t ∷ rest i

-- how many arguments there are
pub numbers_count : (o : Option Arith) (vars : ℕ) (column : Column) (ts : List Term) → length (all_numbers o vars column (trees_of ts)) ≡ length ts
numbers_count o vars column [] = refl
numbers_count o vars column (t ∷ ts) = ap suc (numbers_count o vars column ts)

-- ---- what terms spell

pub tree_of_var : (x : ℕ) → tree_of (Var x) ≡ Variable x
tree_of_var x = ap tree_of (sym (rolls-Var x)) ∙ fold-roll-Term Tree tree_step (VarLayer x)

pub tree_of_int : (n : ℤ) → tree_of (Int n) ≡ Integer n
tree_of_int n = ap tree_of (sym (rolls-Int n)) ∙ fold-roll-Term Tree tree_step (IntLayer n)

-- a term that spells a tree has its cell
pub cell_of_tree : (o : Option Arith) (vars : ℕ) (column : Column) (t u : Tree) (c : Cell) → t ≡ u → IsCell (linear o vars u) (numbers_at o vars column u) c → IsCell (linear o vars t) (numbers_at o vars column t) c
cell_of_tree o vars column t u c e k = subst (λ x. IsCell (linear o vars x) (numbers_at o vars column x) c) (sym e) k

-- arguments that are these have their cell
pub cell_of_arguments : (vars : ℕ) (o : Arith) (f : ℕ) (column : Column) (xs ys : List Term) (c : Cell) → xs ≡ ys
    → IsCell (linear_of vars (Some o) f (all_linear (Some o) vars (trees_of ys))) (numbers_in o f (all_numbers (Some o) vars column (trees_of ys))) c
    → IsCell (linear_of vars (Some o) f (all_linear (Some o) vars (trees_of xs))) (numbers_in o f (all_numbers (Some o) vars column (trees_of xs))) c
cell_of_arguments vars o f column xs ys c e k = subst (λ zs. IsCell (linear_of vars (Some o) f (all_linear (Some o) vars (trees_of zs))) (numbers_in o f (all_numbers (Some o) vars column (trees_of zs))) c) (sym e) k

-- ---- lists of one and of two

pub only : {X : Type 0} (xs : List X) (x : X) → 1 ≤ length xs → length xs < 2 → x ≡ get_or xs 0 x → xs ≡ x ∷ []
only [] x some few is = absurd (omega (arith, some))
only (a ∷ []) x some few is = λ i. sym is i ∷ []
only (a ∷ (b ∷ rest)) x some few is = absurd (omega (arith, few))

pub only_two : {X : Type 0} (xs : List X) (x y : X) → 2 ≤ length xs → length xs < 3 → x ≡ get_or xs 0 x → y ≡ get_or xs 1 y → xs ≡ x ∷ (y ∷ [])
only_two [] x y some few is next = absurd (omega (arith, some))
only_two (a ∷ []) x y some few is next = absurd (omega (arith, some))
only_two (a ∷ (b ∷ [])) x y some few is next = λ i. sym is i ∷ (sym next i ∷ [])
only_two (a ∷ (b ∷ (d ∷ rest))) x y some few is next = absurd (omega (arith, few))
