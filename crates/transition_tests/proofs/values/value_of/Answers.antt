use Rattle.std.proofs.Common.{◌≡◌, ℤ, List, Option, Some, SomeIff, length, slice_get, map, sym, subst, arith}
use Rattle.std.proofs.lemmas.List.{length-map}
use Rattle.exact128.specs.Sums.{dot, entry}
use Rattle.number_columns.specs.ColumnLists.{HasLength, plain_column, plain_columns}
use Rattle.number_tests.specs.Refuting.{numbers_of}
use Rattle.termination_model.proofs.Lists.{at_place, by_places, mapped_place}
use Rattle.termination_model.specs.columns.ColumnRows.{or_empty}
use Rattle.transition_tests.specs.StuckGroups.{ColumnFits}
use Rattle.transition_tests.proofs.Shares.{value_past, value_there}
use Rattle.transition_tests.proofs.values.value_of.Goals.{After-index-columns-place}
use Rattle.transition_tests.proofs.values.value_of.Goals as goal

module _ (c : After-index-columns-place) where
  here : slice_get (plain_columns c.args.columns.now) c.args.place ≡ Some (plain_column c.index-columns-place.result)
  here = mapped_place plain_column c.args.columns.now c.args.place c.index-columns-place.result (at_place c.args.columns.now c.args.place c.index-columns-place.result c.if-place-columns.true c.index-columns-place.is)

pub column_value-requires : goal.column_value-requires
column_value-requires c = by_places (HasLength (length c.args.point.now.w)) (plain_columns c.args.columns.now) c.requires c.args.place (plain_column c.index-columns-place.result) (here c)

pub returns-then-place-columns : goal.returns-then-place-columns
returns-then-place-columns c =
    let at = here ((goal.at.returns-then-place-columns c).After-index-columns-place) in
    let ps = numbers_of c.args.point.now in
    let es = plain_columns c.args.columns.now in
    subst (λ (o : Option (Option (List ℤ))). SomeIff c.column_value.result (ColumnFits c.args.point.now o) (entry (map (λ e. dot e ps) (map or_empty es)) c.args.place)) (sym at)
    (subst (λ (z : ℤ). SomeIff c.column_value.result (ColumnFits c.args.point.now (Some (plain_column c.index-columns-place.result))) z) (sym (value_there es c.args.place (plain_column c.index-columns-place.result) ps at)) c.column_value.ensures)

pub returns-else-place-columns : goal.returns-else-place-columns
returns-else-place-columns c =
    let es = plain_columns c.args.columns.now in
    let past = value_past es c.args.place (numbers_of c.args.point.now) (omega (arith, c.if-place-columns.false, length-map c.args.columns.now plain_column)) in
    (subst (ColumnFits c.args.point.now) (sym past.1) tt, sym past.0)
