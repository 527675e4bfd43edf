-- Private.
-- The three columns keep the laws of columns as far as their numbers fit. Nothing here has to be believed.
use Rattle.std.specs.Prelude.{◌≡◌, ℕ, suc, ◌*◌, Bool, true, false, ℤ, if◌then◌else◌, List, Option, None, Some, length}
use Rattle.std.proofs.Common.{subst}
use Rattle.cti_terms.specs.Tree.{Tree, truth}
use Rattle.cti_terms.specs.declared.builtins.Arith.{Arith}
use Rattle.linear_rows.specs.Replacing.{row_fits}
use Rattle.termination_model.specs.columns.Columns.{Columns, AreColumns}
use Rattle.termination_model.specs.columns.Expressions.{three_columns}
use Rattle.termination_model.proofs.Expressions.{three_are_columns}
use Rattle.number_columns.specs.ColumnLists.{if_fits, fitting, value_columns}

-- what is there where it fits is there
there_if_fits : (x : Option (List ℤ)) (e : List ℤ) → if_fits x ≡ Some e → x ≡ Some e
there_if_fits None e q = q
there_if_fits (Some d) e q = at (row_fits d) q
  where
    at : (b : Bool) → (if b then Some d else None) ≡ Some e → Some d ≡ Some e
    at true h = h
    at false h = cc

-- columns keep their laws as far as their numbers fit
fitting_are_columns : (o : Option Arith) (t : (ℕ → Bool) → Tree → Bool) (m : Columns) → AreColumns o t m → AreColumns o t (fitting m)
fitting_are_columns o t m h = record {
  measure_of_instance = h.measure_of_instance;
  truth_of_instance = h.truth_of_instance;
  rigid_truth = h.rigid_truth;
  rigid_measure = h.rigid_measure;
  closed_truth = h.closed_truth;
  expressions = λ vars u j e q. h.expressions vars u j e (there_if_fits (m.expression vars u j) e q);
  stated = h.stated;
}

pub value_laws : (o p : Option Arith) → o ≡ p → AreColumns p truth (value_columns o)
value_laws o p e = subst (λ q. AreColumns q truth (value_columns o)) e (fitting_are_columns o truth (three_columns o) (three_are_columns o))

pub value_lengths : (o : Option Arith) (vars : ℕ) (t : Tree) (j : ℕ) (e : List ℤ) → (value_columns o).expression vars t j ≡ Some e → length e ≡ suc (vars * 3)
value_lengths o vars t j e q = ((fitting_are_columns o truth (three_columns o) (three_are_columns o)).expressions vars t j e q).0
