use Rattle.std.proofs.Common.{◌++◌, ◌∷◌, [], pos}
use Rattle.cti_terms.specs.Spell.{tree_of}
use Rattle.termination_model.specs.columns.Measures.{Parts}
use Rattle.number_columns.specs.Cells.{numbers_at}
use Rattle.number_columns.specs.Lines.{spelled}
use Rattle.number_columns.specs.declared.cell.Column.{Column}
use Rattle.number_columns.specs.declared.cell.Column.TheVariants.{Number}
use Rattle.number_columns.proofs.RowLaws.{lines_more}
use Rattle.number_columns.proofs.column_rows.push_variable.Goals as goal

pub returns : goal.returns
returns c = λ vars before.
    let v = c.args.variable in
    let g : Column → Parts = λ column. numbers_at c.args.arith vars column (tree_of c.args.t.now) in
    let zs = spelled v (λ column. (g column).0) in
    let ws = spelled v (λ column. (g column).1) in
    let a = g (Number v 0) in
    let b = g (Number v 1) in
    let d = g (Number v 2) in
    let one = c.in_ok-push.ensures zs ws a (c.cell_at.ensures vars).numbers before in
    let two = c.in_ok-push-2.ensures (zs ++ pos a.0 ∷ []) (ws ++ pos a.1 ∷ []) b (c.cell_at-2.ensures vars).numbers one in
    let three = c.in_ok-push-3.ensures ((zs ++ pos a.0 ∷ []) ++ pos b.0 ∷ []) ((ws ++ pos a.1 ∷ []) ++ pos b.1 ∷ []) d (c.cell_at-3.ensures vars).numbers two in
    lines_more v g c.push-3.new.self three
