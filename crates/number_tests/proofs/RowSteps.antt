-- What the tests of a clause's size rows decide.
use Rattle.std.proofs.Common.{◌≡◌, ◌↔◌, ℕ, ℤ, Bool, List, [], ◌∷◌, map, length, take, Option, None, refl, sym, ap, subst, ◌∙◌, arith}
use Rattle.std.proofs.Math.Seq.{take-length}
use Rattle.std.proofs.lemmas.List.{length-append, length-map}
use Rattle.cti_terms.specs.Tree.{Tree}
use Rattle.cti_terms.specs.declared.atom_list.Atom.{Atom}
use Rattle.cti_terms.specs.declared.clauses.Clause.{Clause}
use Rattle.linear_rows.specs.Plain.{plain_row, plain_rows}
use Rattle.linear_rows.specs.declared.multipliers.Multipliers.{Multipliers}
use Rattle.linear_rows.specs.declared.row.Row.{Row}
use Rattle.linear_rows.specs.declared.row.Rows.{Rows}
use Rattle.linear_rows.specs.declared.system.System.{System}
use Rattle.term_size.specs.Norm.{IsNorm}
use Rattle.termination_model.specs.sizes.Replacing.{AreColumns, IsRowIfFits, over_columns}
use Rattle.termination_model.specs.sizes.Sizes.{rows_of}
use Rattle.termination_model.specs.sizes.Systems.{row_over, system}
use Rattle.termination_model.specs.sizes.ShortSystems.{short_row, short_system}
use Rattle.termination_model.proofs.RowColumns.{columns_replace}
use Rattle.termination_model.proofs.SystemLaws.{widths}
use Rattle.number_tests.specs.Proved.{RowIsKept}
use Rattle.number_tests.specs.Shape.{row_count}
use Rattle.linear_rows.specs.Showing.{IsShown}
use Rattle.number_tests.specs.Shown.{FlawShows}
use Rattle.number_tests.specs.Systems.{IsSystemUpTo}
use Rattle.number_tests.specs.declared.flaw.Flaw.{Flaw}

-- as many rows as the atoms have
pub length-system : (expression : ℕ → Tree → List ℤ) (rows : ℕ → List (List ℤ)) (n : ℕ) (bs : List Atom) → length (system expression rows n bs) ≡ row_count rows bs
length-system expression rows n [] = refl
length-system expression rows n (b ∷ bs) =
    let one = length-map (rows b.pred.0) (row_over expression n b.args) in
    omega (arith, one, length-append (map (row_over expression n b.args) (rows b.pred.0)) (system expression rows n bs), length-system expression rows n bs)

pub system_count : (expression : ℕ → Tree → List ℤ) (rows : ℕ → List (List ℤ)) (c : Clause) (j : ℕ) (s : System) → IsSystemUpTo expression rows c j s → length s.rows.list ≡ row_count rows (take j c.body)
system_count expression rows c j s is =
    sym (length-map s.rows.list plain_row) ∙ ap length is.rows ∙ length-map (system expression rows c.vars (take j c.body)) short_row ∙ length-system expression rows c.vars (take j c.body)

module _ (size : (ℕ → ℕ) → Tree → ℕ) (truth : (ℕ → Bool) → Tree → Bool) (expression : ℕ → Tree → List ℤ) (norm : IsNorm size truth expression) where
  -- the columns of a system's head
  pub head_columns : (rows : ℕ → List (List ℤ)) (c : Clause) (j : ℕ) (s : System) (columns : List (List ℤ)) → IsSystemUpTo expression rows c j s → AreColumns (plain_rows s.head.list) s.head.width columns
      → AreColumns (map (expression c.vars) c.head.args) c.vars columns
  head_columns rows c j s columns is are =
      subst (λ (k : ℕ). AreColumns (map (expression c.vars) c.head.args) k columns) is.head_width
      (subst (λ (es : List (List ℤ)). AreColumns es s.head.width columns) is.head are)

  pub row_decided : (sizes : List Rows) (c : Clause) (s : System) (columns : List (List ℤ)) (row : Row) (target : Option Row) (by : Multipliers) (flaw : Option Flaw)
      → IsSystemUpTo expression (rows_of sizes) c (length c.body) s → AreColumns (plain_rows s.head.list) s.head.width columns → IsRowIfFits (over_columns columns (plain_row row)) target
      → FlawShows (plain_rows s.rows.list) target by flaw → (flaw ≡ None) ↔ RowIsKept expression sizes c (plain_row row) by
  row_decided sizes c s columns row target by flaw is are fits shows =
      let own = head_columns (rows_of sizes) c (length c.body) s columns is are in
      let same : over_columns columns (plain_row row) ≡ row_over expression c.vars c.head.args (plain_row row) =
      columns_replace c.vars (map (expression c.vars) c.head.args) columns (plain_row row) (widths size truth expression norm c.vars c.head.args) own in
      let rows : plain_rows s.rows.list ≡ short_system expression (rows_of sizes) c.vars c.body = is.rows ∙ ap (short_system expression (rows_of sizes) c.vars) (take-length c.body) in
      subst (λ (rs : List (List ℤ)). (flaw ≡ None) ↔ IsShown rs (row_over expression c.vars c.head.args (plain_row row)) by) rows
      (shows (row_over expression c.vars c.head.args (plain_row row)) (subst (λ (z : List ℤ). IsRowIfFits z target) same fits))
