use Rattle.std.proofs.Common.{sym, ◌∙◌, arith}
use Rattle.bool_diagrams.specs.Rows.{holds}
use Rattle.truth_rows.proofs.ArgumentLaws.{to_zero}
use Rattle.truth_rows.proofs.HeadLaws.{head_from, head_to}
use Rattle.truth_rows.proofs.head_rows.rows_of_head.Goals as goal

pub returns-clause-all : goal.returns-clause-all
returns-clause-all g c = λ v row like truths.
    c.in_ok-rows.ensures.rows row
    ∙ head_to (g.N.Norm.truth c.args.norm.now) c.args.vars c.args.arguments.now c.requires.few (holds c.args.table.now c.args.values) (holds c.bound_head.new.table c.in_ok-bound.bound) (holds c.somewhere.new.table c.in_ok-given.given)
    c.in_ok-given.ensures.rows _ (λ j lt. to_zero c.len-count.result j (omega (arith, c.len-count.ensures)) (omega (arith, c.len-count.ensures, c.requires.narrow))) row
    (g.N.Norm.size c.args.norm.now) (g.N.Norm.expression c.args.norm.now) (g.met.N.Norm.laws c.args.norm.now) c.requires.below c.in_ok-bound.ensures.all v like truths

pub returns-clause-some : goal.returns-clause-some
returns-clause-some g c = λ row t.
    head_from (g.N.Norm.truth c.args.norm.now) c.args.vars c.args.arguments.now c.requires.few (holds c.args.table.now c.args.values) (holds c.bound_head.new.table c.in_ok-bound.bound) (holds c.somewhere.new.table c.in_ok-given.given)
    c.in_ok-given.ensures.rows _ (λ j lt. to_zero c.len-count.result j (omega (arith, c.len-count.ensures)) (omega (arith, c.len-count.ensures, c.requires.narrow))) row
    c.in_ok-bound.ensures.some (sym (c.in_ok-rows.ensures.rows row) ∙ t)
