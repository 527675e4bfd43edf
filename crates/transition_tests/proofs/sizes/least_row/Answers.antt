use Rattle.std.proofs.Common.{rules, ◌≡◌, ◌∙◌, ◌++◌, ◌∷◌, [], ℤ, pos, slice_get, Some, ap, sym, arith, FitsSigned, to_z, of_z}
use Rattle.std.specs.Int.{w128}
use Rattle.std.specs.Prelude.{slice_index_or}
use Rattle.std.proofs.lemmas.Int.{to_z-of_z}
use Rattle.std.proofs.lemmas.List.{length-map, take_all}
use Rattle.number_columns.specs.ColumnLists.{plain_column, plain_columns}
use Rattle.termination_model.proofs.Lists.{at_place, mapped_place, there}
use Rattle.termination_model.specs.columns.ColumnRows.{least}
use Rattle.transition_tests.proofs.LeastRows.{least_more}
use Rattle.transition_tests.proofs.sizes.least_row.Goals as goal

pub loop-i-preserved : goal.loop-i-preserved
loop-i-preserved c =
    let zs = c.args.row.now.coeffs in
    let heads = c.args.heads.now in
    let i = c.loop-i.i in
    let column = c.index-heads-i.result in
    let z = slice_index_or zs i (pos 0) in
    let fz : FitsSigned w128 c.entry.result = search rules in
    let fl : FitsSigned w128 c.least_number.result = search rules in
    let entry : to_z w128 (of_z w128 c.entry.result) ≡ z = to_z-of_z w128 c.entry.result fz ∙ c.entry.ensures in
    let at : slice_get zs i ≡ Some z = there zs i (pos 0) (omega (arith, c.requires)) in
    let here = mapped_place plain_column heads i column (at_place heads i column (omega arith) c.index-heads-i.is) in
    let same : c.least_number.result ∷ [] ≡ least (z ∷ []) (plain_column column ∷ []) = c.least_number.ensures ∙ ap (λ (x : ℤ). least (x ∷ []) (plain_column column ∷ [])) entry in
    let pushed = simp to_z-of_z at c.in_ok-push.ensures.ok in
    pushed
    ∙ (λ j. c.loop-i.invariant j ++ same j)
    ∙ sym (least_more zs (plain_columns heads) i z (plain_column column) at here)

pub returns : goal.returns
returns c =
    let zs = c.args.row.now.coeffs in
    let heads = c.args.heads.now in
    let i = c.loop-i.i in
    let past = take_all i zs (omega (arith, c.requires)) in
    let ended = take_all i (plain_columns heads) (omega (arith, length-map heads plain_column)) in
    let fc : FitsSigned w128 c.args.row.now.constant = search rules in
    let first = to_z-of_z w128 c.args.row.now.constant fc in
    let rest : c.loop-i.coeffs ≡ least zs (plain_columns heads) = c.loop-i.invariant ∙ (λ k. least (past k) (ended k)) in
    λ j. first j ∷ rest j
