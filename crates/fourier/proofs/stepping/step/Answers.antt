use Rattle.std.proofs.Common.{arith, ap, ◌∙◌, Err}
use Rattle.linear_rows.specs.Elimination.{without}
use Rattle.sparse_rows.specs.Adding.{add_rows}
use Rattle.fourier.proofs.StepLemmas.{stepped, step_wide, said_many, said_few}
use Rattle.fourier.proofs.stepping.step.Goals as goal

pub returns-in-Err-Wide : goal.returns-in-Err-Wide
returns-in-Err-Wide c = step_wide c.args.last c.args.k c.args.rows.now (c.in-Err-Wide.ensures.wide (ap Err c.in-Err-Wide.field-0-is))

pub returns-then-len-gt-MOST_ROWS : goal.returns-then-len-gt-MOST_ROWS
returns-then-len-gt-MOST_ROWS c =
    let first = c.in-Ok-add_without.ensures ∙ ap (λ l. add_rows c.args.last l (without c.args.k c.args.rows.now)) c.in-Ok.ensures in
    said_many c.args.brief c.args.last c.args.k c.args.rows.now c.combinations.new.kept c.in-Ok-combinations.ensures.fits (stepped c.args.last c.args.k c.args.rows.now c.add_without.new.kept c.combinations.new.kept first c.in-Ok-combinations.ensures.kept) (omega arith)

pub returns : goal.returns
returns c =
    let first = c.in-Ok-add_without.ensures ∙ ap (λ l. add_rows c.args.last l (without c.args.k c.args.rows.now)) c.in-Ok.ensures in
    said_few c.args.brief c.args.last c.args.k c.args.rows.now c.combinations.new.kept c.in-Ok-combinations.ensures.fits (stepped c.args.last c.args.k c.args.rows.now c.add_without.new.kept c.combinations.new.kept first c.in-Ok-combinations.ensures.kept) (omega arith)
