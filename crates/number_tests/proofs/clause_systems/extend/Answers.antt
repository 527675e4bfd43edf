use Rattle.std.proofs.Common.{◌≡◌, ◌++◌, ◌||◌, ◌+◌, ◌∷◌, ℕ, Bool, List, ℤ, [], map, length, slice_get, Some, sym, subst, ap, ◌∙◌, arith, take}
use Rattle.cti_terms.specs.declared.atom_list.Atom.{Atom}
use Rattle.linear_rows.specs.Plain.{HaveWidth, plain_rows}
use Rattle.linear_rows.specs.declared.row.Rows.{Rows}
use Rattle.termination_model.specs.sizes.Sizes.{rows_of, wide_rows, wide_system}
use Rattle.termination_model.specs.sizes.Systems.{row_over}
use Rattle.termination_model.specs.sizes.ShortSystems.{short_row, short_system}
use Rattle.termination_model.proofs.Lists.{at_place, taken_more}
use Rattle.termination_model.proofs.SystemLaws.{short_push, wide_system_push}
use Rattle.number_tests.proofs.clause_systems.extend.Goals as goal

pub loop-i-preserved : goal.loop-i-preserved
loop-i-preserved g c =
    let body = c.args.clause.now.body in
    let n = c.loop-i.i in
    let b = c.index-as_slice-i.result in
    let v = c.args.clause.now.vars in
    let i = c.loop-i.invariant in
    let e = g.N.Norm.expression c.args.norm.now in
    let rs = rows_of c.args.sizes.now in
    let at : slice_get body n ≡ Some b = ap (λ (bs : List Atom). slice_get bs n) (sym c.as_slice.ensures) ∙ at_place c.as_slice.result.now n b (omega (arith, c.requires.last, ap length c.as_slice.ensures)) c.index-as_slice-i.is in
    let more : take (n + 1) body ≡ take n body ++ b ∷ [] = taken_more body n b at in
    let ensured = c.in_ok-add_atom.ensures in
    record {
      variables = c.add_atom.ensures.variables ∙ i.variables;
      width = c.add_atom.ensures.width ∙ i.variables;
      widths = subst (λ (k : ℕ). HaveWidth k c.add_atom.new.system.rows.list) i.variables c.add_atom.ensures.widths;
      head_width = ap (λ (h : Rows). h.width) c.add_atom.ensures.head ∙ i.head_width;
      head = ap (λ (h : Rows). plain_rows h.list) c.add_atom.ensures.head ∙ i.head;
      rows =
          ensured.rows
          ∙ ap (λ (s : List (List ℤ)). s ++ map short_row (map (row_over e c.loop-i.system.variables b.args) (rs b.pred.0))) i.rows
          ∙ ap (λ (k : ℕ). short_system e rs v (take n body) ++ map short_row (map (row_over e k b.args) (rs b.pred.0))) i.variables
          ∙ short_push e rs v (take n body) b
          ∙ ap (short_system e rs v) (sym more);
      wide =
          ensured.wide
          ∙ ap (λ (s : Bool). s || wide_rows (map (row_over e c.loop-i.system.variables b.args) (rs b.pred.0))) i.wide
          ∙ ap (λ (k : ℕ). wide_system e rs v (take n body) || wide_rows (map (row_over e k b.args) (rs b.pred.0))) i.variables
          ∙ wide_system_push e rs v (take n body) b
          ∙ ap (wide_system e rs v) (sym more);
    }
