use Rattle.std.proofs.Common.{◌+◌, ◌==◌, ◌||◌, drop, slice_index_or, sym, ◌∙◌, arith}
use Rattle.std.specs.List.{list_any}
use Rattle.std.proofs.lemmas.List.{at_drop_more}
use Rattle.bool_diagrams.specs.Rows.{bit_of}
use Rattle.truth_rows.proofs.ModeLaws.{named_more}
use Rattle.truth_rows.proofs.of_modes.row_of_mode.Goals as goal

pub loop-argument-preserved : goal.loop-argument-preserved
loop-argument-preserved c = λ i lt.
    let mode = c.args.mode.now in
    let n = c.loop-argument.argument-index in
    let row = c.loop-argument.row in
    named_more row (slice_index_or mode n 0) i (drop (n + 1) mode) _ (omega (arith, c.if-argument-eq0.false)) (omega (arith, c.if-argument-arity.false, c.requires.narrow))
    (sym (at_drop_more (λ ys. bit_of row i || list_any (λ j. j == i + 1) ys) mode n 0 c.loop-argument-test.true) ∙ c.loop-argument.invariant i lt)
