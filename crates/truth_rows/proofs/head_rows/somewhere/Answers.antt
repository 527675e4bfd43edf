use Rattle.std.proofs.Common.{sym, ◌∙◌}
use Rattle.bool_diagrams.specs.Rows.{holds}
use Rattle.bool_diagrams.proofs.CallerLemmas.{keeps_twice}
use Rattle.truth_rows.proofs.Somewhere.{somewhere_more}
use Rattle.truth_rows.proofs.head_rows.somewhere.Goals as goal

pub loop-variable-preserved : goal.loop-variable-preserved
loop-variable-preserved c =
    let i = c.loop-variable.invariant in
    record {
      keeps = keeps_twice _ _ _ i.keeps c.exists.ensures.keeps;
      known = c.in_ok-rows.ensures.known;
      rows = λ row.
          let e = c.in_ok-rows.ensures.rows row in
          let s = somewhere_more (holds c.args.table.now c.args.set) (holds c.loop-variable.table c.loop-variable.rows) c.loop-variable.variable i.rows row in
          (λ t. s.0 (sym e ∙ t), λ x. e ∙ s.1 x);
    }
