-- Rows over a head, column by column.
use Rattle.std.proofs.Common.{◌≡◌, suc, ℤ, List, length, Option, None, Some, subst}
use Rattle.std.specs.Prelude.{All}
use Rattle.std.specs.List.{AllByRecursion}
use Rattle.linear_rows.specs.Plain.{plain_rows}
use Rattle.linear_rows.specs.declared.row.Row.{Row}
use Rattle.linear_rows.specs.declared.system.System.{System}
use Rattle.linear_rows.proofs.Members.{from_All}
use Rattle.termination_model.proofs.ChainSieves.{all_of}
use Rattle.linear_rows.specs.Replacing.{AreColumns, over_columns, IsRowIfFits}
use Rattle.termination_model.proofs.RowColumns.{columns_replace}
use Rattle.termination_model.proofs.Proved.{length-substituted}
use Rattle.polyhedra.specs.Telling.{IsSystem, at_head, IsTarget}

pub by_recursion : {X : Type 0} (P : X → Type 0) (xs : List X) → All P xs → AllByRecursion P xs
by_recursion P xs a = all_of P xs (λ x i. from_All P xs x a i)

pub replaced_is : (s : System) → IsSystem s → (columns : List (List ℤ)) (row : List ℤ) → AreColumns (plain_rows s.head.list) s.variables columns → (o : Option Row) → IsRowIfFits (over_columns columns row) o → IsTarget (at_head s row) o
replaced_is s sys columns row are o h =
    let e = columns_replace s.variables (plain_rows s.head.list) columns row (by_recursion (λ (r : List ℤ). length r ≡ suc s.variables) (plain_rows s.head.list) sys.head) are in
    go o (subst (λ (z : List ℤ). IsRowIfFits z o) e h)
  where
    go : (o : Option Row) → IsRowIfFits (at_head s row) o → IsTarget (at_head s row) o
    go None h = h
    go (Some r) h = h

pub long_target : (s : System) → IsSystem s → (row : List ℤ) → length (at_head s row) ≡ suc s.variables
long_target s sys row = length-substituted s.variables (plain_rows s.head.list) row (by_recursion (λ (r : List ℤ). length r ≡ suc s.variables) (plain_rows s.head.list) sys.head)
