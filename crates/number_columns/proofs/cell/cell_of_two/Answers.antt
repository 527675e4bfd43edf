use Rattle.std.proofs.Common.{◌≡◌, ◌==◌, true, false, rules}
use Rattle.termination_model.specs.columns.Expressions.{constant_rows}
use Rattle.termination_model.specs.columns.Measures.{minus_parts, no_parts}
use Rattle.number_columns.specs.Cells.{minus_linear}
use Rattle.number_columns.proofs.CellLaws.{two_minus, two_other, two_plus, two_times}
use Rattle.number_columns.proofs.cell.cell_of_two.Goals as goal

pub returns-then-eq : goal.returns-then-eq
returns-then-eq c = λ vars l m p q h k.
    let f = c.args.name.0 in
    let o = c.args.arith in
    let first : (f == o.plus.0) ≡ true = search rules in
    two_plus vars l m p q c.plus.result (f == o.plus.0) (f == o.minus.0) (f == o.times.0) first (c.plus.ensures l m p q h k)

pub returns-then-eq-2 : goal.returns-then-eq-2
returns-then-eq-2 c = λ vars l m p q h k.
    let f = c.args.name.0 in
    let o = c.args.arith in
    let first : (f == o.plus.0) ≡ false = search rules in
    let second : (f == o.minus.0) ≡ true = search rules in
    let less = c.negated.ensures m q k in
    two_minus vars l m p q c.plus-then-eq-2.result (f == o.plus.0) (f == o.minus.0) (f == o.times.0) first second (c.plus-then-eq-2.ensures l (minus_linear m) p (minus_parts q) h less)

pub returns-then-eq-3 : goal.returns-then-eq-3
returns-then-eq-3 c = λ vars l m p q h k.
    let f = c.args.name.0 in
    let o = c.args.arith in
    let first : (f == o.plus.0) ≡ false = search rules in
    let second : (f == o.minus.0) ≡ false = search rules in
    let third : (f == o.times.0) ≡ true = search rules in
    two_times vars l m p q c.times.result (f == o.plus.0) (f == o.minus.0) (f == o.times.0) first second third (c.times.ensures l m p q h k)

pub returns-else-eq-3 : goal.returns-else-eq-3
returns-else-eq-3 c = λ vars l m p q h k.
    let f = c.args.name.0 in
    let o = c.args.arith in
    let first : (f == o.plus.0) ≡ false = search rules in
    let second : (f == o.minus.0) ≡ false = search rules in
    let third : (f == o.times.0) ≡ false = search rules in
    two_other vars l m p q c.still.result (f == o.plus.0) (f == o.minus.0) (f == o.times.0) first second third (c.still.ensures (constant_rows vars no_parts))
