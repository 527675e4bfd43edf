-- Private.
-- Columns: the naturals by which an atom's arguments are measured.
--
-- A valuation gives each variable `width` naturals. A term has a measure for each column number, and an atom's columns
-- are those of its arguments in order, of each as many as its position has. A norm is the case of one column.
--
-- To believe: all of this file.
use Rattle.std.specs.Prelude.{◌≡◌, ℕ, zero, suc, ◌*◌, Bool, IsTrue, ℤ, pos, List, [], ◌∷◌, ◌++◌, map, length, Option, Some}
use Rattle.std.specs.List.{AllByRecursion}
use Rattle.exact128.specs.Sums.{dot}
use Rattle.linear_rows.specs.Rows.{Holds}
use Rattle.cti_terms.specs.Arithmetic.{succeeds}
use Rattle.cti_terms.specs.Tree.{Tree, Variable, instance, is_below, is_rigid}
use Rattle.cti_terms.specs.Unify.{Binding, applied}
use Rattle.cti_terms.specs.declared.builtins.Arith.{Arith}
use Rattle.cti_terms.specs.declared.builtins.Builtin.{Builtin}
use Rattle.term_size.specs.Norm.{IsRigid}

-- naturals for each variable, by column number
abbrev pub Valuation : Type 0
Valuation = ℕ → ℕ → ℕ

-- what measures terms: how many numbers a variable has, the measures of a term, and each of them as a row over the
-- numbers of so many variables, where it is linear; the columns of a built-in atom's arguments, and its stated rows
pub record Columns : Type 0 where
  pub width : ℕ
  pub measure : Valuation → Tree → ℕ → ℕ
  pub expression : ℕ → Tree → ℕ → Option (List ℤ)
  pub evaluated : List ℕ
  pub stated : Builtin → List (List ℤ)

-- f at the k numbers from i on
abbrev pub counted : {X : Type 0} → ℕ → ℕ → (ℕ → X) → List X
counted i zero f = []
counted i (suc k) f = f i ∷ counted (suc i) k f

-- of each argument as many columns as the list says
abbrev pub columns_of : {X : Type 0} → List ℕ → List (ℕ → X) → List X
columns_of [] us = []
columns_of (k ∷ ks) [] = []
columns_of (k ∷ ks) (u ∷ us) = counted 0 k u ++ columns_of ks us

-- what the n variables from x on have, as many of each
abbrev pub numbers_from : {X : Type 0} → ℕ → ℕ → ℕ → (ℕ → ℕ → X) → List X
numbers_from width x zero s = []
numbers_from width x (suc n) s = counted 0 width (s x) ++ numbers_from width (suc x) n s

-- the numbers of n variables, as a point
abbrev pub numbers : {X : Type 0} → ℕ → ℕ → (ℕ → ℕ → X) → List X
numbers width = numbers_from width 0

-- the valuation of the variables before a substitution, by what stands for them
abbrev pub before : Columns → List Binding → Valuation → Valuation
before m bs s x = m.measure s (applied bs (Variable x))

-- a row that is there has a constant and `width` numbers for each variable, and its value is the measure
abbrev pub IsExpression : Columns → ℕ → Tree → ℕ → List ℤ → Type 0
IsExpression m vars t j e = (length e ≡ suc (vars * m.width))
    × (IsTrue (is_below vars t) → (s : Valuation) → dot e (pos 1 ∷ map pos (numbers m.width vars s)) ≡ pos (m.measure s t j))

-- the laws of measures and truth, for a program with these operations
pub record AreColumns (o : Option Arith) (truth : (ℕ → Bool) → Tree → Bool) (m : Columns) : Type 0 where
  -- an instance has the measures that the term has at the measures of what stands for its variables
  pub measure_of_instance : (s : Valuation) (a : ℕ → Tree) (t : Tree) → m.measure s (instance a t) ≡ m.measure (λ x. m.measure s (a x)) t
  pub truth_of_instance : (v : ℕ → Bool) (a : ℕ → Tree) (t : Tree) → truth v (instance a t) ≡ truth (λ x. truth v (a x)) t
  -- a rigid term is true whatever its variables are, and has one measure of each kind
  pub rigid_truth : (v : ℕ → Bool) (t : Tree) → IsRigid truth t → IsTrue (truth v t)
  pub rigid_measure : (r s : Valuation) (t : Tree) → IsRigid truth t → m.measure r t ≡ m.measure s t
  -- a term without a variable is rigid
  pub closed_truth : (t : Tree) → IsTrue (is_rigid t) → IsRigid truth t
  pub expressions : (vars : ℕ) (t : Tree) (j : ℕ) (e : List ℤ) → m.expression vars t j ≡ Some e → IsExpression m vars t j e
  -- the stated rows hold where a built-in atom succeeds
  pub stated : (b : Builtin) (x y : Tree) (bs : List Binding) → succeeds o b x y ≡ Some bs → (s : Valuation)
      → AllByRecursion (λ (r : List ℤ). Holds r 1 (columns_of m.evaluated (map (m.measure (before m bs s)) (x ∷ (y ∷ []))))) (m.stated b)
