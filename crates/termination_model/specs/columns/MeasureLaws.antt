-- Private.
-- The laws of the three measures: instances, rigid terms, values, and the stated rows of built-in atoms.
use Rattle.std.specs.Prelude.{◌≡◌, ℕ, ℤ, pos, ◌-ℤ◌, IsTrue, List, [], ◌∷◌, map, Option, Some}
use Rattle.std.specs.List.{AllByRecursion}
use Rattle.linear_rows.specs.Rows.{Holds}
use Rattle.cti_terms.specs.Arithmetic.{value, succeeds}
use Rattle.cti_terms.specs.Tree.{Tree, Variable, instance, truth, is_rigid}
use Rattle.cti_terms.specs.Unify.{Binding, applied}
use Rattle.cti_terms.specs.declared.builtins.Arith.{Arith}
use Rattle.cti_terms.specs.declared.builtins.Builtin.{Builtin}
use Rattle.termination_model.specs.columns.Columns.{Valuation, columns_of, AreColumns}
use Rattle.termination_model.specs.columns.Expressions.{three_columns}
use Rattle.termination_model.specs.columns.Measures.{parts, measure, stated_rows, kinds_of_evaluated}

abbrev pub InstanceLaw : Type 0
InstanceLaw = (o : Option Arith) (s : Valuation) (a : ℕ → Tree) (t : Tree) → measure o s (instance a t) ≡ measure o (λ x. measure o s (a x)) t

abbrev pub RigidLaw : Type 0
RigidLaw = (o : Option Arith) (r s : Valuation) (t : Tree) → IsTrue (is_rigid t) → measure o r t ≡ measure o s t

abbrev pub ValueLaw : Type 0
ValueLaw = (o : Option Arith) (s : Valuation) (t : Tree) (n : ℤ) → value o t ≡ Some n → n ≡ pos (parts o s t).0 -ℤ pos (parts o s t).1

abbrev pub StatedLaw : Type 0
StatedLaw = (o : Option Arith) (b : Builtin) (x y : Tree) (bs : List Binding) → succeeds o b x y ≡ Some bs → (s : Valuation)
    → AllByRecursion (λ (r : List ℤ). Holds r 1 (columns_of kinds_of_evaluated (map (measure o (λ z. measure o s (applied bs (Variable z)))) (x ∷ (y ∷ []))))) (stated_rows b)

-- the three columns, with truth of terms without variables, keep the laws of columns
abbrev pub ThreeColumns : Type 0
ThreeColumns = (o : Option Arith) → AreColumns o truth (three_columns o)
