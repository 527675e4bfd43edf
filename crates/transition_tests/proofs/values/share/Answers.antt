use Rattle.std.proofs.Common.{◌≡◌, ◌∙◌, suc, ℤ, List, Option, SomeIff, slice_get, map, ap, sym, subst, arith}
use Rattle.component_transitions.proofs.HeldTransitions.{columns_same}
use Rattle.exact128.specs.Sums.{dot, entry}
use Rattle.number_columns.specs.ColumnLists.{plain_columns}
use Rattle.number_tests.specs.Levels.{natural}
use Rattle.number_tests.specs.Refuting.{numbers_of}
use Rattle.number_turns.specs.Recalled.{column_of, spelled}
use Rattle.termination_model.specs.columns.ColumnRows.{or_empty}
use Rattle.transitions.specs.StuckSets.{share}
use Rattle.transition_tests.specs.StuckGroups.{ColumnFits, ShareFits}
use Rattle.transition_tests.proofs.Shares.{column_fits, fits_column, share_column, some_iff}
use Rattle.transition_tests.proofs.values.share.Goals as goal

pub returns-in-Some : goal.returns-in-Some
returns-in-Some c =
    let q = c.args.atom.now.member in
    let x = c.args.point.now in
    let f = c.args.feature in
    let es = map column_of c.args.atom.now.columns in
    let i = c.in-Some.place in
    let same : q ≡ f.member = c.if-atom-feature.false in
    let next : f.number ≡ suc i = omega (arith, c.in-Some.ensures.0, c.in-Some.ensures.1) in
    let columns : plain_columns c.as_slice.result.now ≡ es = ap plain_columns c.as_slice.ensures ∙ sym (columns_same c.args.atom.now.columns) in
    let value : SomeIff c.value_of.result (ColumnFits x (slice_get es i)) (entry (map (λ e. dot e (numbers_of x)) (map or_empty es)) i) =
    subst (λ (ds : List (Option (List ℤ))). SomeIff c.value_of.result (ColumnFits x (slice_get ds i)) (entry (map (λ e. dot e (numbers_of x)) (map or_empty ds)) i)) columns c.value_of.ensures in
    some_iff c.value_of.result (ColumnFits x (slice_get es i)) (ShareFits q es x (spelled f)) (entry (map (λ e. dot e (numbers_of x)) (map or_empty es)) i) (share q es (natural x.t) (map natural x.w) (spelled f))
    (fits_column q es x c.requires.naturals f.member f.number i next) (column_fits q es x c.requires.naturals f.member f.number i same next) (sym (share_column q es x c.requires.naturals (spelled f) i same next)) value
