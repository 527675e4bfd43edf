use Rattle.std.proofs.Common.{◌≡◌, ◌+◌, suc, true, sym, subst, ◌∙◌, arith, rules}
use Rattle.cti_terms.specs.Spell.{tree_of}
use Rattle.termination_model.specs.columns.Expressions.{linear}
use Rattle.termination_model.specs.columns.Measures.{Parts}
use Rattle.number_columns.specs.Cells.{numbers_at}
use Rattle.number_columns.specs.Lines.{AreLinesTo, spelled}
use Rattle.number_columns.specs.declared.cell.Column.{Column}
use Rattle.number_columns.proofs.RowLaws.{rows_are, rows_found}
use Rattle.number_columns.proofs.column_rows.value_rows.Goals as goal

pub loop-variable-preserved : goal.loop-variable-preserved
loop-variable-preserved c =
    let v = c.loop-variable.variable in
    let next : suc v ≡ v + 1 = omega arith in
    subst (λ n. AreLinesTo c.args.arith c.args.vars (tree_of c.args.t.now) n c.push_variable.new.lines) next (c.in_ok-push_variable.ensures c.args.vars c.loop-variable.invariant)

pub returns-clause-above : goal.returns-clause-above
returns-clause-above c =
    let o = c.args.arith in
    let vars = c.args.vars in
    let t = tree_of c.args.t.now in
    let g : Column → Parts = λ column. numbers_at o vars column t in
    let done : c.loop-variable.variable ≡ vars = omega (arith, c.loop-variable-test.false, c.loop-variable.auto.variable-end) in
    let lines = subst (λ n. AreLinesTo o vars t n c.loop-variable.lines) done c.loop-variable.invariant in
    let there : c.cell_at-constant.result.is_linear ≡ true = search rules in
    let is = sym (c.cell_at-constant.ensures vars).linear ∙ there in
    (rows_found vars (linear o vars t).rows g (rows_are o vars t) is c.into_rows-above.result.0 c.into_rows-above.result.1 (c.into_rows-above.ensures (spelled vars (λ column. (g column).0)) (spelled vars (λ column. (g column).1)) lines)).0

pub returns-clause-below : goal.returns-clause-below
returns-clause-below c =
    let o = c.args.arith in
    let vars = c.args.vars in
    let t = tree_of c.args.t.now in
    let g : Column → Parts = λ column. numbers_at o vars column t in
    let done : c.loop-variable.variable ≡ vars = omega (arith, c.loop-variable-test.false, c.loop-variable.auto.variable-end) in
    let lines = subst (λ n. AreLinesTo o vars t n c.loop-variable.lines) done c.loop-variable.invariant in
    let there : c.cell_at-constant.result.is_linear ≡ true = search rules in
    let is = sym (c.cell_at-constant.ensures vars).linear ∙ there in
    (rows_found vars (linear o vars t).rows g (rows_are o vars t) is c.into_rows-above.result.0 c.into_rows-above.result.1 (c.into_rows-above.ensures (spelled vars (λ column. (g column).0)) (spelled vars (λ column. (g column).1)) lines)).1
