use Rattle.std.proofs.Common.{◌≡◌, ◌≢◌, ◌∙◌, ℤ, Some, None, [], ◌∷◌, length, sym, ap, subst, rules}
use Rattle.std.specs.Int.{w128}
use Rattle.std.specs.Prelude.{FitsSigned}
use Rattle.std.proofs.lemmas.Int.{to_z-of_z}
use Rattle.cti_terms.proofs.Spelled.{tree_of_fun}
use Rattle.cti_terms.specs.Tree.{Compound, Integer, Variable}
use Rattle.cti_terms.specs.Spell.{tree_of, trees_of}
use Rattle.termination_model.specs.columns.Expressions.{all_linear, constant_rows, linear}
use Rattle.termination_model.specs.columns.Measures.{no_parts}
use Rattle.number_columns.specs.Cells.{IsCell, all_numbers, numbers_at}
use Rattle.number_columns.proofs.CellLaws.{arguments_are, cell_of_arguments, cell_of_tree, many_cell, numbers_count, only, only_two, other_cell, tree_of_int, tree_of_var}
use Rattle.number_columns.proofs.cell.+cells.Goals as goal

pub cell_at-returns-in-Var : goal.cell_at-returns-in-Var
cell_at-returns-in-Var t c = λ vars.
    cell_of_tree c.args.arith vars c.args.column (tree_of c.args.t.now) (Variable c.in-Var.x) c.of_variable.result (ap tree_of c.in-Var.is ∙ tree_of_var c.in-Var.x) (c.of_variable.ensures c.args.arith vars)

pub cell_at-returns-in-Int : goal.cell_at-returns-in-Int
cell_at-returns-in-Int t c = λ vars.
    let o = c.args.arith in
    let fits : FitsSigned w128 c.in-Int.n = search rules in
    let k = subst (λ (z : ℤ). IsCell (linear o vars (Integer z)) (numbers_at o vars c.args.column (Integer z)) c.of_integer.result) (to_z-of_z w128 c.in-Int.n fits) (c.of_integer.ensures o vars) in
    cell_of_tree o vars c.args.column (tree_of c.args.t.now) (Integer c.in-Int.n) c.of_integer.result (ap tree_of c.in-Int.is ∙ tree_of_int c.in-Int.n) k

pub cell_at-returns-in-None : goal.cell_at-returns-in-None
cell_at-returns-in-None t c = λ vars.
    let u = Compound c.in-Fun.name.0 (trees_of c.in-Fun.args.items) in
    let k : IsCell (linear None vars u) (numbers_at None vars c.args.column u) c.still.result = c.still.ensures (constant_rows vars no_parts) in
    cell_of_tree c.args.arith vars c.args.column (tree_of c.args.t.now) u c.still.result (ap tree_of c.in-Fun.is ∙ tree_of_fun c.in-Fun.name c.in-Fun.args)
    (subst (λ o. IsCell (linear o vars u) (numbers_at o vars c.args.column u) c.still.result) (sym c.in-None.is) k)

pub compound_cell-returns-then-not-is_operation : goal.compound_cell-returns-then-not-is_operation
compound_cell-returns-then-not-is_operation t c = λ vars.
    let o = c.args.arith in
    let ts = trees_of c.args.args.now in
    other_cell vars o c.args.name.0 (all_linear (Some o) vars ts) (all_numbers (Some o) vars c.args.column ts) c.still.result (arguments_are (Some o) vars c.args.column ts)
    (c.is_operation.ensures (search rules)) (c.still.ensures (constant_rows vars no_parts))

pub compound_cell-returns-in-len1 : goal.compound_cell-returns-in-len1
compound_cell-returns-in-len1 t c = λ vars.
    let o = c.args.arith in
    let f = c.args.name.0 in
    let x = c.first-item.result in
    let is : c.args.args.now ≡ x ∷ [] = only c.args.args.now x c.in-len1.len_at_least c.in-len1.len_below c.first-item.is in
    let k = c.cell_of_one.ensures vars (linear (Some o) vars (tree_of x)) (numbers_at (Some o) vars c.args.column (tree_of x)) (c.cell_at.ensures vars) in
    cell_of_arguments vars o f c.args.column c.args.args.now (x ∷ []) c.cell_of_one.result is k

pub compound_cell-returns-in-len2 : goal.compound_cell-returns-in-len2
compound_cell-returns-in-len2 t c = λ vars.
    let o = c.args.arith in
    let f = c.args.name.0 in
    let x = c.first-item-then-args-lt3.result in
    let y = c.second-item.result in
    let is : c.args.args.now ≡ x ∷ (y ∷ []) = only_two c.args.args.now x y c.in-len2.len_at_least c.in-len2.len_below c.first-item-then-args-lt3.is c.second-item.is in
    let k = c.cell_of_two.ensures vars (linear (Some o) vars (tree_of x)) (linear (Some o) vars (tree_of y)) (numbers_at (Some o) vars c.args.column (tree_of x)) (numbers_at (Some o) vars c.args.column (tree_of y))
    (c.cell_at-in-len2.ensures vars) (c.cell_at-in-len2-2.ensures vars) in
    cell_of_arguments vars o f c.args.column c.args.args.now (x ∷ (y ∷ [])) c.cell_of_two.result is k

pub compound_cell-returns-in_default : goal.compound_cell-returns-in_default
compound_cell-returns-in_default t c = λ vars.
    let o = c.args.arith in
    let ts = trees_of c.args.args.now in
    let count = numbers_count (Some o) vars c.args.column c.args.args.now in
    let one : length c.args.args.now ≢ 1 = λ e. search rules in
    let two : length c.args.args.now ≢ 2 = λ e. search rules in
    many_cell vars o c.args.name.0 (all_linear (Some o) vars ts) (all_numbers (Some o) vars c.args.column ts) c.still-in_default.result (arguments_are (Some o) vars c.args.column ts)
    (λ e. one (sym count ∙ e)) (λ e. two (sym count ∙ e)) (c.still-in_default.ensures (constant_rows vars no_parts))
