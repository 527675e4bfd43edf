use Rattle.std.proofs.Common.{rules, ◌≡◌, ◌∙◌, ◌∷◌, pos, Some, sym, subst, arith}
use Rattle.std.specs.Int.{w128}
use Rattle.std.specs.Prelude.{FitsSigned}
use Rattle.std.proofs.lemmas.Int.{to_z-of_z}
use Rattle.cti_terms.specs.Spell.{tree_of}
use Rattle.cti_terms.specs.Tree.{size}
use Rattle.term_size.specs.Occurrences.{occurrences}
use Rattle.termination_model.specs.columns.Columns.{numbers}
use Rattle.termination_model.specs.columns.Expressions.{occurring, size_row}
use Rattle.number_columns.specs.Lines.{IsLine}
use Rattle.number_columns.proofs.SizeLaws.{coefficient, column_if_fits, constant_is, held, size_more}
use Rattle.number_columns.proofs.three_columns.size_column.Goals as goal

pub loop-variable-init : goal.loop-variable-init
loop-variable-init c =
    let t = tree_of c.args.t.now in
    let fits : FitsSigned w128 c.in_ok-size.size.constant = search rules in
    let abs = simp to_z-of_z at c.unsigned_abs.ensures.value in
    c.new-line.ensures (size (λ _. 0) t) (held c.in_ok-size.size.constant (size (λ _. 0) t) c.unsigned_abs.result fits (constant_is _ _ c.args.vars t c.in_ok-size.ensures) abs)

pub loop-variable-preserved : goal.loop-variable-preserved
loop-variable-preserved c =
    let v = c.loop-variable.variable in
    let t = tree_of c.args.t.now in
    let fits : FitsSigned w128 c.entry-count.result = search rules in
    let abs = simp to_z-of_z at c.unsigned_abs-in-loop-variable.ensures.value in
    let is : c.entry-count.result ≡ pos (occurrences v t) = c.entry-count.ensures ∙ coefficient c.in_ok-size.size.constant c.in_ok-size.size.coeffs c.args.vars v t c.in_ok-size.ensures (omega arith) in
    size_more t v c.push_variable.new.self
    (c.in_ok-push_variable.ensures (pos (size (λ _. 0) t) ∷ numbers 3 v (occurring t)) (occurrences v t) (held c.entry-count.result (occurrences v t) c.unsigned_abs-in-loop-variable.result fits is abs) c.loop-variable.invariant)

pub returns : goal.returns
returns c =
    let t = tree_of c.args.t.now in
    let done : c.loop-variable.variable ≡ c.args.vars = omega arith in
    let line = subst (λ n. IsLine (pos (size (λ _. 0) t) ∷ numbers 3 n (occurring t)) c.loop-variable.line) done c.loop-variable.invariant in
    column_if_fits (Some (size_row c.args.vars t)) c.into_row.result (c.into_row.ensures (size_row c.args.vars t) line)
