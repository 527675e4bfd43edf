use Rattle.std.proofs.Common.{◌≡◌, ◌-◌, ◌++◌, ℕ, ℤ, false, IsTrue, List, length, map, slice_get, take, Option, Some, refl, ap, sym, subst, ◌∙◌, arith}
use Rattle.std.specs.List.{AllByRecursion}
use Rattle.cti_terms.specs.Listing.{IsAtom}
use Rattle.cti_terms.specs.Tree.{is_below}
use Rattle.cti_terms.specs.declared.atom_list.Atom.{Atom}
use Rattle.cti_terms.specs.declared.clauses.Clause.{Clause}
use Rattle.linear_rows.specs.Irredundant.{TestIsBlown}
use Rattle.linear_rows.specs.Members.{In}
use Rattle.linear_rows.specs.Plain.{HaveWidth, plain_rows}
use Rattle.linear_rows.specs.Showing.{bottom_row}
use Rattle.linear_rows.specs.declared.row.Row.{Row}
use Rattle.linear_rows.specs.declared.multipliers.Multipliers.{Multipliers}
use Rattle.number_tests.specs.Targets.{AreFallColumns}
use Rattle.termination_model.specs.sizes.Sizes.{rows_of, wide_rows}
use Rattle.termination_model.specs.sizes.Systems.{system}
use Rattle.termination_model.proofs.Lists.{at_place, by_places}
use Rattle.level_systems.specs.Collected.{IsEmptiness}
use Rattle.level_systems.specs.Held.{IsReach}
use Rattle.level_systems.specs.declared.own_call.OwnCall.{OwnCall}
use Rattle.level_systems.proofs.OwnCallLaws.{are_sizes, given_up_blown, given_up_wide, held_as, narrow_fit, narrow_same}
use Rattle.level_systems.proofs.collecting.own_call.Goals.{in-Live, in-Empty}
use Rattle.level_systems.proofs.collecting.own_call.Goals as goal

pub returns-then-before-clause-none : goal.returns-then-before-clause-none
returns-then-before-clause-none g c = λ none.
    let clause : Clause = c.clause-clause.result.now in
    let there = c.clause-clause.ensures.there in
    given_up_wide (g.N.Norm.expression c.args.norm.now) c.args.p.now (rows_of c.args.sizes.now.rows) c.args.k c.args.j clause there (sym (c.in_ok-before.ensures.wide clause there) ∙ c.if-before.true)

pub add_expressions-requires-clause-below : goal.add_expressions-requires-clause-below
add_expressions-requires-clause-below g c =
    let clause : Clause = c.clause-clause.result.now in
    let there = c.clause-clause.ensures.there in
    let sound = c.clause-clause.ensures.sound in
    let call : Atom = c.index-as_slice-j.result in
    let last = c.requires.body clause there in
    let count : length c.as_slice.result.now ≡ length clause.body = ap length c.as_slice.ensures in
    let at : slice_get clause.body (c.args.j - 1) ≡ Some call = ap (λ (bs : List Atom). slice_get bs (c.args.j - 1)) (sym c.as_slice.ensures) ∙ at_place c.as_slice.result.now (c.args.j - 1) call (omega (arith, last, count, c.requires.call)) c.index-as_slice-j.is in
    let atom = by_places (IsAtom c.args.p.now.preds clause.vars) clause.body sound.body (c.args.j - 1) call at in
    let width = c.new-callee_sizes.ensures.width in
    subst (λ (n : ℕ). AllByRecursion (λ t. IsTrue (is_below n t)) call.args) (sym width) atom.below

pub fall_columns-requires-clause-below : goal.fall_columns-requires-clause-below
fall_columns-requires-clause-below g c =
    let clause : Clause = c.clause-clause.result.now in
    let there = c.clause-clause.ensures.there in
    let sound = c.clause-clause.ensures.sound in
    let call : Atom = c.index-as_slice-j.result in
    let last = c.requires.body clause there in
    let count : length c.as_slice.result.now ≡ length clause.body = ap length c.as_slice.ensures in
    let at : slice_get clause.body (c.args.j - 1) ≡ Some call = ap (λ (bs : List Atom). slice_get bs (c.args.j - 1)) (sym c.as_slice.ensures) ∙ at_place c.as_slice.result.now (c.args.j - 1) call (omega (arith, last, count, c.requires.call)) c.index-as_slice-j.is in
    let atom = by_places (IsAtom c.args.p.now.preds clause.vars) clause.body sound.body (c.args.j - 1) call at in
    let head : c.in_ok-before.before.head.width ≡ clause.vars = c.in_ok-before.ensures.widths.1 ∙ c.in_ok-before.ensures.variables clause there in
    subst (λ (n : ℕ). AllByRecursion (λ t. IsTrue (is_below n t)) call.args) (sym head) atom.below

pub returns-in-Blown-clause-none : goal.returns-in-Blown-clause-none
returns-in-Blown-clause-none g c = λ none.
    let e = g.N.Norm.expression c.args.norm.now in
    let rows = rows_of c.args.sizes.now.rows in
    let clause : Clause = c.clause-clause.result.now in
    let there = c.clause-clause.ensures.there in
    let before = c.in_ok-before.before in
    let whole = system e rows clause.vars (take (c.args.j - 1) clause.body) in
    let narrow : wide_rows whole ≡ false = sym (c.in_ok-before.ensures.wide clause there) ∙ c.if-before.false in
    let lines : plain_rows before.rows.list ≡ whole = c.in_ok-before.ensures.rows clause there ∙ narrow_same whole narrow in
    let width : before.rows.width ≡ clause.vars = c.in_ok-before.ensures.widths.0 ∙ c.in_ok-before.ensures.variables clause there in
    let blown = subst (IsEmptiness before.rows.width (plain_rows before.rows.list)) c.in-Blown.is c.in_ok-emptiness.ensures in
    given_up_blown e c.args.p.now rows c.args.k c.args.j clause there
    (subst (λ (n : ℕ). TestIsBlown n whole (bottom_row n)) width (subst (λ (rs : List (List ℤ)). TestIsBlown before.rows.width rs (bottom_row before.rows.width)) lines blown))

pub returns-clause-held : goal.returns-clause-held
returns-clause-held g c =
    let e = g.N.Norm.expression c.args.norm.now in
    let rows = rows_of c.args.sizes.now.rows in
    let clause : Clause = c.clause-clause.result.now in
    let there = c.clause-clause.ensures.there in
    let sound = c.clause-clause.ensures.sound in
    let call : Atom = c.index-as_slice-j.result in
    let last = c.requires.body clause there in
    let count : length c.as_slice.result.now ≡ length clause.body = ap length c.as_slice.ensures in
    let at : slice_get clause.body (c.args.j - 1) ≡ Some call = ap (λ (bs : List Atom). slice_get bs (c.args.j - 1)) (sym c.as_slice.ensures) ∙ at_place c.as_slice.result.now (c.args.j - 1) call (omega (arith, last, count, c.requires.call)) c.index-as_slice-j.is in
    let atom = by_places (IsAtom c.args.p.now.preds clause.vars) clause.body sound.body (c.args.j - 1) call at in
    let before = c.in_ok-before.before in
    let whole = system e rows clause.vars (take (c.args.j - 1) clause.body) in
    let narrow : wide_rows whole ≡ false = sym (c.in_ok-before.ensures.wide clause there) ∙ c.if-before.false in
    let lines : plain_rows before.rows.list ≡ whole = c.in_ok-before.ensures.rows clause there ∙ narrow_same whole narrow in
    let variables = c.in_ok-before.ensures.variables clause there in
    let width : before.rows.width ≡ clause.vars = c.in_ok-before.ensures.widths.0 ∙ variables in
    let head_width : before.head.width ≡ clause.vars = c.in_ok-before.ensures.widths.1 ∙ variables in
    let head : plain_rows before.head.list ≡ map (e clause.vars) clause.head.args = c.in_ok-before.ensures.head clause there in
    let made = c.new-callee_sizes.ensures in
    let callee : plain_rows c.add_expressions.new.rows.list ≡ map (e clause.vars) call.args =
    c.in_ok-add_expressions.ensures.each ∙ ap (λ (rs : List Row). plain_rows rs ++ map (e c.new-callee_sizes.result.width) call.args) made.list ∙ ap (λ (n : ℕ). map (e n) call.args) made.width in
    let norm = g.met.N.Norm.laws c.args.norm.now in
    let sizes = are_sizes (g.N.Norm.size c.args.norm.now) (g.N.Norm.truth c.args.norm.now) e norm clause.vars in
    let columns : AreFallColumns (map (e clause.vars) clause.head.args) (map (e clause.vars) call.args) clause.vars c.in_ok-columns.columns.items =
    subst (λ (n : ℕ). AreFallColumns (map (e clause.vars) clause.head.args) (map (e n) call.args) n c.in_ok-columns.columns.items) head_width
    (subst (λ (es : List (List ℤ)). AreFallColumns es (map (e before.head.width) call.args) before.head.width c.in_ok-columns.columns.items) head c.in_ok-columns.ensures) in
    let empty : Option Multipliers = c.match-branch-5.empty in
    let reach : IsReach clause.vars (plain_rows before.rows.list) empty = subst (λ (n : ℕ). IsReach n (plain_rows before.rows.list) empty) width (elim c.match-branch-5.branch [
      | in-Live w ↦ subst (IsReach before.rows.width (plain_rows before.rows.list)) (sym w.empty-is) (subst (IsEmptiness before.rows.width (plain_rows before.rows.list)) w.in-Live.is c.in_ok-emptiness.ensures)
      | in-Empty w ↦ subst (IsReach before.rows.width (plain_rows before.rows.list)) (sym w.empty-is) (subst (IsEmptiness before.rows.width (plain_rows before.rows.list)) w.in-Empty.is c.in_ok-emptiness.ensures)
    ]) in
    let own : OwnCall = record {
      clause = c.args.k;
      call = c.args.j;
      caller = clause.head.pred;
      callee = call.pred;
      caller_sizes = before.head;
      callee_sizes = c.add_expressions.new.rows;
      columns = c.in_ok-columns.columns;
      rows = before.rows;
      empty = empty;
    } in
    held_as e c.args.p.now rows c.args.k c.args.j clause call own refl refl there at (record {
      there = there;
      first = c.requires.first;
      at = at;
      one = c.requires.call;
      caller = refl;
      callee = refl;
      caller_sizes = head;
      callee_sizes = callee;
      natural = λ x lt. (sizes before.head clause.head.args sound.head.below head x lt, sizes c.add_expressions.new.rows call.args atom.below callee x lt);
      columns = columns;
      before = lines;
      width = width;
      widths = subst (λ (n : ℕ). HaveWidth n before.rows.list) variables c.in_ok-before.ensures.widths.2;
      fit = λ r i. narrow_fit whole narrow r (subst (In r) lines i);
      reach = reach;
    })
