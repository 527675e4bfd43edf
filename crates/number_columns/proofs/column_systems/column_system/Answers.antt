use Rattle.std.proofs.Common.{◌≡◌, ◌++◌, ◌||◌, ◌+◌, ◌*◌, ◌∷◌, ℕ, Bool, List, ℤ, [], map, length, slice_get, Some, sym, subst, ap, ◌∙◌, arith, IsTrue, take}
use Rattle.std.specs.List.{AllByRecursion}
use Rattle.cti_terms.specs.Listing.{IsAtom}
use Rattle.cti_terms.specs.Tree.{is_below}
use Rattle.cti_terms.specs.declared.atom_list.Atom.{Atom}
use Rattle.linear_rows.specs.Plain.{HaveWidth}
use Rattle.termination_model.specs.sizes.Sizes.{rows_of, wide_rows}
use Rattle.termination_model.specs.sizes.ShortSystems.{short_row}
use Rattle.termination_model.proofs.Lists.{at_place, by_places, taken_more}
use Rattle.number_columns.specs.ColumnLists.{columns_over, counts_at}
use Rattle.number_columns.specs.ColumnSystems.{has_wide_row, of_sizes, row_or_zeros, short_rows}
use Rattle.number_columns.proofs.SystemLaws.{short_push, wide_push}
use Rattle.number_columns.proofs.column_systems.column_system.Goals as goal

pub add_atom-requires-clause-own : goal.add_atom-requires-clause-own
add_atom-requires-clause-own g c = λ r e. c.requires.sizes.width c.index-as_slice-i.result.pred.0 r e

pub add_atom-requires-clause-below : goal.add_atom-requires-clause-below
add_atom-requires-clause-below g c =
    let body = c.clause-clause.result.now.body in
    let n = c.loop-i.i in
    let b = c.index-as_slice-i.result in
    let at : slice_get body n ≡ Some b = ap (λ (bs : List Atom). slice_get bs n) (sym c.as_slice.ensures) ∙ at_place c.as_slice.result.now n b (omega (arith, c.requires.body c.clause-clause.result.now c.clause-clause.ensures.there, ap length c.as_slice.ensures)) c.index-as_slice-i.is in
    let atom : IsAtom c.args.p.now.preds c.clause-clause.result.now.vars b = by_places (IsAtom c.args.p.now.preds c.clause-clause.result.now.vars) body c.clause-clause.ensures.sound.body n b at in
    subst (λ (k : ℕ). AllByRecursion (λ t. IsTrue (is_below k t)) b.args) (sym c.loop-i.invariant.variables) atom.below

pub loop-i-preserved : goal.loop-i-preserved
loop-i-preserved g c =
    let body = c.clause-clause.result.now.body in
    let n = c.loop-i.i in
    let b = c.index-as_slice-i.result in
    let v = c.clause-clause.result.now.vars in
    let i = c.loop-i.invariant in
    let m = g.C.Columns.columns c.args.columns.now in
    let counts = counts_at (g.C.Columns.count c.args.columns.now) (g.C.Columns.listed c.args.columns.now) in
    let rs = rows_of c.args.sizes.now in
    let at : slice_get body n ≡ Some b = ap (λ (bs : List Atom). slice_get bs n) (sym c.as_slice.ensures) ∙ at_place c.as_slice.result.now n b (omega (arith, c.requires.body c.clause-clause.result.now c.clause-clause.ensures.there, ap length c.as_slice.ensures)) c.index-as_slice-i.is in
    let more : take (n + 1) body ≡ take n body ++ b ∷ [] = taken_more body n b at in
    let ensured = c.in_ok-add_atom.ensures in
    let put : ℕ → ℕ → List (List ℤ) = λ (w k : ℕ). map (row_or_zeros w (columns_over m counts k b)) (rs b.pred.0) in
    let same : put c.loop-i.system.rows.width c.loop-i.system.variables ≡ put (v * m.width) v = λ j. put (i.width j) (i.variables j) in
    record {
      variables = c.add_atom.ensures.variables ∙ i.variables;
      width = c.add_atom.ensures.width ∙ i.width;
      widths = subst (λ (k : ℕ). HaveWidth k c.add_atom.new.system.rows.list) (sym c.add_atom.ensures.width) c.add_atom.ensures.widths;
      head = c.add_atom.ensures.head ∙ i.head;
      rows =
          ensured.rows
          ∙ ap (λ (s : List (List ℤ)). s ++ map short_row (put c.loop-i.system.rows.width c.loop-i.system.variables)) i.rows
          ∙ ap (λ (s : List (List ℤ)). short_rows m counts rs v (take n body) ++ map short_row s) same
          ∙ short_push (of_sizes m counts rs) v (take n body) b
          ∙ ap (short_rows m counts rs v) (sym more);
      wide =
          ensured.wide
          ∙ ap (λ (s : Bool). s || wide_rows (put c.loop-i.system.rows.width c.loop-i.system.variables)) i.wide
          ∙ ap (λ (s : List (List ℤ)). has_wide_row m counts rs v (take n body) || wide_rows s) same
          ∙ wide_push (of_sizes m counts rs) v (take n body) b
          ∙ ap (has_wide_row m counts rs v) (sym more);
    }
