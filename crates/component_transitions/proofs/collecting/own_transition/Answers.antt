use Rattle.std.proofs.Common.{◌≡◌, ℕ, ◌-◌, ◌*◌, ℤ, false, true, IsTrue, List, map, take, length, slice_get, Option, Some, refl, ap, sym, subst, ◌∙◌, arith}
use Rattle.std.specs.Prelude.{sum}
use Rattle.std.specs.List.{AllByRecursion}
use Rattle.linear_rows.specs.declared.row.Row.{Row}
use Rattle.linear_rows.specs.declared.row.Rows.{Rows}
use Rattle.number_turns.specs.Recalled.{HasNumbers, column_of}
use Rattle.transitions.specs.Transitions.{Transition}
use Rattle.transitions.specs.Turns.{HasWidths}
use Rattle.cti_terms.specs.Listing.{IsAtom}
use Rattle.cti_terms.specs.Tree.{is_below}
use Rattle.cti_terms.specs.declared.atom_list.Atom.{Atom}
use Rattle.cti_terms.specs.declared.clauses.Clause.{Clause}
use Rattle.level_systems.specs.Collected.{IsEmptiness}
use Rattle.level_systems.proofs.OwnCallLaws.{narrow_same}
use Rattle.linear_rows.specs.Irredundant.{TestIsBlown}
use Rattle.linear_rows.specs.Plain.{HaveWidth, plain_rows}
use Rattle.linear_rows.specs.Showing.{bottom_row}
use Rattle.linear_rows.specs.declared.multipliers.Multipliers.{Multipliers}
use Rattle.number_columns.specs.ColumnLists.{columns_over, counts_at, plain_columns}
use Rattle.number_columns.specs.ColumnSystems.{has_wide_row, of_sizes, short_rows}
use Rattle.number_turns.specs.Recalled.{recalled}
use Rattle.termination_model.specs.columns.ColumnClaims.{system}
use Rattle.termination_model.specs.sizes.Sizes.{rows_of, wide_rows}
use Rattle.termination_model.proofs.Lists.{at_place, by_places}
use Rattle.component_transitions.specs.OwnTransitions.{IsReach, transition_at}
use Rattle.component_transitions.specs.declared.own_transition.OwnTransition.{OwnTransition}
use Rattle.component_transitions.proofs.HeldTransitions.{arity_of, columns_same, count_over, given_up_blown, given_up_wide, held_as, lengths_over, natural_columns, point_there, short_all, short_columns}
use Rattle.component_transitions.proofs.collecting.own_transition.Goals.{in-Live, in-Empty}
use Rattle.component_transitions.proofs.collecting.own_transition.Goals as goal

pub returns-then-before-clause-none : goal.returns-then-before-clause-none
returns-then-before-clause-none g c = λ none.
    let clause : Clause = c.clause-clause.result.now in
    let there = c.clause-clause.ensures.there in
    let m = g.C.Columns.columns c.args.columns.now in
    let kinds = counts_at (g.C.Columns.count c.args.columns.now) (g.C.Columns.listed c.args.columns.now) in
    given_up_wide m kinds (rows_of c.args.sizes.now) c.args.p.now c.args.k c.args.j clause there (sym (c.in_ok-before.ensures.wide clause there) ∙ c.if-before.true)

pub returns-clause-held : goal.returns-clause-held
returns-clause-held g c =
    let clause : Clause = c.clause-clause.result.now in
    let there = c.clause-clause.ensures.there in
    let sound = c.clause-clause.ensures.sound in
    let preds = c.args.p.now.preds in
    let call : Atom = c.index-as_slice-j.result in
    let last = c.requires.body clause there in
    let count : length c.as_slice.result.now ≡ length clause.body = ap length c.as_slice.ensures in
    let at : slice_get clause.body (c.args.j - 1) ≡ Some call = ap (λ (bs : List Atom). slice_get bs (c.args.j - 1)) (sym c.as_slice.ensures) ∙ at_place c.as_slice.result.now (c.args.j - 1) call (omega (arith, last, count, c.requires.call)) c.index-as_slice-j.is in
    let atom = by_places (IsAtom preds clause.vars) clause.body sound.body (c.args.j - 1) call at in
    let listed = g.C.Columns.listed c.args.columns.now in
    let many = g.C.Columns.count c.args.columns.now in
    let m = g.C.Columns.columns c.args.columns.now in
    let truth = g.C.Columns.truth c.args.columns.now in
    let kinds = counts_at many listed in
    let rows = rows_of c.args.sizes.now in
    let o = c.args.p.now.arithmetic.names in
    let are = g.met.C.Columns.laws c.args.columns.now o c.requires.suits in
    let vars = clause.vars in
    let before = c.in_ok-before.before in
    let width : before.rows.width ≡ vars * m.width = c.in_ok-before.ensures.width.0 ∙ ap (λ (n : ℕ). n * m.width) (c.in_ok-before.ensures.variables clause there) in
    let whole = system (of_sizes m kinds rows) vars (take (c.args.j - 1) clause.body) in
    let narrow : wide_rows whole ≡ false = sym (c.in_ok-before.ensures.wide clause there) ∙ c.if-before.false in
    let rows_is : c.into_parts-rows.result.0 ≡ before.rows = c.into_parts-rows.ensures.rows in
    let heads_is = c.into_parts-rows.ensures.head in
    let heads : map column_of c.into_parts-rows.result.1 ≡ columns_over m kinds vars clause.head = ap (map column_of) heads_is ∙ columns_same before.head ∙ c.in_ok-before.ensures.head clause there in
    let calls : map column_of c.in_ok-list.list ≡ columns_over m kinds vars call = columns_same c.in_ok-list.list ∙ c.in_ok-list.ensures.columns in
    let wide : c.into_parts-rows.result.0.width ≡ vars * m.width = ap (λ (r : Rows). r.width) rows_is ∙ width in
    let lines : plain_rows c.into_parts-rows.result.0.list ≡ short_rows m kinds rows vars (take (c.args.j - 1) clause.body) = ap (λ (r : Rows). plain_rows r.list) rows_is ∙ c.in_ok-before.ensures.rows clause there in
    let own : OwnTransition = record {
      clause = c.args.k;
      call = c.args.j;
      transition = record {
        rows = c.into_parts-rows.result.0;
        head = record { member = clause.head.pred.0; columns = c.into_parts-rows.result.1 };
        call = record { member = call.pred.0; columns = c.in_ok-list.list };
      };
      empty = c.match-branch-4.empty;
    } in
    let τ = transition_at m kinds rows clause (c.args.j - 1) call in
    let is : recalled own.transition ≡ τ = λ i. record { vars = wide i; rows = lines i; head = clause.head.pred.0; head_columns = heads i; call = call.pred.0; call_columns = calls i } in
    let old : Transition = record {
      vars = before.rows.width;
      rows = plain_rows before.rows.list;
      head = clause.head.pred.0;
      head_columns = columns_over m kinds vars clause.head;
      call = call.pred.0;
      call_columns = columns_over m kinds vars call;
    } in
    let same : old ≡ τ = λ i. record { vars = width i; rows = c.in_ok-before.ensures.rows clause there i; head = clause.head.pred.0; head_columns = columns_over m kinds vars clause.head; call = call.pred.0; call_columns = columns_over m kinds vars call } in
    let reach : IsReach old c.match-branch-4.empty = elim c.match-branch-4.branch [
      | in-Live w ↦ subst (IsReach old) (sym w.empty-is) (point_there old (subst (IsEmptiness before.rows.width (plain_rows before.rows.list)) w.in-Live.is c.in_ok-emptiness.ensures))
      | in-Empty w ↦ subst (IsReach old) (sym w.empty-is) (subst (IsEmptiness before.rows.width (plain_rows before.rows.list)) w.in-Empty.is c.in_ok-emptiness.ensures)
    ] in
    held_as m kinds rows c.args.p.now c.args.k c.args.j clause call own refl refl there at (record {
      there = there;
      first = c.requires.first;
      at = at;
      one = c.requires.call;
      is = is;
      numbers = subst HasNumbers (sym is) (record {
        rows = short_all whole narrow;
        head = natural_columns o truth m are vars (kinds clause.head.pred.0) clause.head.args sound.head.below;
        call = natural_columns o truth m are vars (kinds call.pred.0) call.args atom.below;
      });
      lengths = subst (λ (r : Rows). HaveWidth r.width r.list) (sym rows_is) c.in_ok-before.ensures.width.1;
      widths = subst (HasWidths (λ q. sum (kinds q))) (sym is) (record {
        head = count_over m kinds vars clause.head (arity_of preds listed many c.requires.kinds vars clause.head sound.head);
        call = count_over m kinds vars call (arity_of preds listed many c.requires.kinds vars call atom);
        head_rows = short_columns (vars * m.width) (columns_over m kinds vars clause.head) (lengths_over o truth m are vars (kinds clause.head.pred.0) clause.head.args);
        call_rows = short_columns (vars * m.width) (columns_over m kinds vars call) (lengths_over o truth m are vars (kinds call.pred.0) call.args);
      });
      reach = subst (λ (x : Transition). IsReach x c.match-branch-4.empty) (same ∙ sym is) reach;
    })
