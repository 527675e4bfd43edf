-- What is made of a clause over columns is the clause's system.
use Rattle.std.proofs.Common.{◌≡◌, ℕ, ◌*◌, ℤ, List, [], ◌∷◌, map, take, length, Option, None, Some, refl, ap, sym, subst, ◌∙◌, arith}
use Rattle.cti_terms.specs.declared.atom_list.Atom.{Atom}
use Rattle.cti_terms.specs.declared.clauses.Clause.{Clause}
use Rattle.linear_rows.specs.Plain.{HaveWidth, plain_row, plain_rows}
use Rattle.linear_rows.specs.declared.row.Row.{Row}
use Rattle.linear_rows.specs.declared.row.Rows.{Rows}
use Rattle.number_columns.proofs.ArgumentLaws.{take_all}
use Rattle.number_columns.specs.ColumnLists.{columns_over, plain_columns}
use Rattle.number_columns.specs.ColumnSystems.{has_wide_row, of_sizes, short_rows}
use Rattle.number_columns.specs.declared.column_systems.ColumnSystem.{ColumnSystem}
use Rattle.size_chains.specs.Making.{IsClauseSystem, plain_or_none}
use Rattle.termination_model.specs.columns.Columns.{Columns}
use Rattle.termination_model.specs.sizes.ShortSystems.{short_row}
use Rattle.termination_model.specs.sizes.Sizes.{wide_rows}
use Rattle.column_systems.specs.ColumnSystems.{column_systems}
use Rattle.column_systems.proofs.ClaimLaws.{systems_are_of_claims}

same_columns : (xs : List (Option Row)) → map plain_or_none xs ≡ plain_columns xs
same_columns [] = refl
same_columns (None ∷ xs) = ap (λ (es : List (Option (List ℤ))). None ∷ es) (same_columns xs)
same_columns (Some r ∷ xs) = ap (λ (es : List (Option (List ℤ))). Some (plain_row r) ∷ es) (same_columns xs)

module _ (m : Columns) (kinds : ℕ → List ℕ) (rows : ℕ → List (List ℤ)) (k : Clause) where
  pub column_made : (s : ColumnSystem) (j : ℕ) → j ≡ length k.body → s.variables ≡ k.vars → (s.rows.width ≡ s.variables * m.width) × HaveWidth s.rows.width s.rows.list
      → plain_rows s.rows.list ≡ short_rows m kinds rows k.vars (take j k.body) → s.wide ≡ has_wide_row m kinds rows k.vars (take j k.body) → plain_columns s.head ≡ columns_over m kinds k.vars k.head
      → (rs : Rows) (head : List (Option Row)) → rs ≡ s.rows → head ≡ s.head → IsClauseSystem (column_systems m kinds) rows k (record { naturals = rs.width; rows = rs; head = head; wide = s.wide })
  column_made s j je ve w re we he rs head r h =
      let whole : take j k.body ≡ k.body = take_all k.body j (omega (arith, je)) in
      record {
        naturals = ap (λ (x : Rows). x.width) r ∙ w.0 ∙ ap (λ (v : ℕ). v * m.width) ve;
        width = refl;
        widths = subst (λ (x : Rows). HaveWidth x.width x.list) (sym r) w.1;
        body = ap (λ (x : Rows). plain_rows x.list) r ∙ re ∙ ap (λ (bs : List Atom). short_rows m kinds rows k.vars bs) whole ∙ ap (map short_row) (sym (systems_are_of_claims (of_sizes m kinds rows) k k.body));
        wide = we ∙ ap (λ (bs : List Atom). has_wide_row m kinds rows k.vars bs) whole ∙ ap wide_rows (sym (systems_are_of_claims (of_sizes m kinds rows) k k.body));
        heads = same_columns head ∙ ap plain_columns h ∙ he;
      }
