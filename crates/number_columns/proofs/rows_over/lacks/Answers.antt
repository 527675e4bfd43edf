use Rattle.std.proofs.Common.{rules, ◌≡◌, ◌∙◌, ◌∷◌, [], pos, ℤ, List, slice_get, get_or, Some, sym, ap, arith}
use Rattle.std.specs.Int.{w128}
use Rattle.std.specs.Prelude.{FitsSigned}
use Rattle.std.proofs.lemmas.Int.{to_z-of_z}
use Rattle.termination_model.proofs.Lists.{at_place, mapped_place, place_below}
use Rattle.termination_model.specs.columns.ColumnRows.{lacks}
use Rattle.number_columns.specs.ColumnLists.{plain_column, plain_columns}
use Rattle.number_columns.proofs.ArgumentLaws.{place_or}
use Rattle.number_columns.proofs.OverLaws.{lacks_at, lacks_none}
use Rattle.number_columns.proofs.rows_over.lacks.Goals as goal

pub returns-then-lacks_one : goal.returns-then-lacks_one
returns-then-lacks_one c =
    let i = c.loop-i.i in
    let row = c.args.row.now in
    let list = c.args.list.now in
    let z = get_or row i (pos 0) in
    let column = c.index-list-i.result in
    let fits : FitsSigned w128 (get_or c.args.row.now c.loop-i.i (pos 0)) = search rules in
    let h : c.lacks_one.result ≡ lacks (z ∷ []) (plain_column column ∷ []) = c.lacks_one.ensures ∙ ap (λ (y : ℤ). lacks (y ∷ []) (plain_column column ∷ [])) (to_z-of_z w128 z fits) in
    let at : slice_get (plain_columns list) i ≡ Some (plain_column column) = mapped_place plain_column list i column (at_place list i column (omega arith) c.index-list-i.is) in
    sym (lacks_at row (plain_columns list) i z (plain_column column) (place_or row i (pos 0) (omega arith)) at (sym h ∙ c.if-lacks_one.true))

pub returns : goal.returns
returns c =
    let row = c.args.row.now in
    let es = plain_columns c.args.list.now in
    sym (lacks_none row es (λ k z e at there. c.loop-i.invariant k (omega (arith, place_below row k z at)) z e at there))
