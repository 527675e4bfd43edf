use Rattle.std.proofs.Common.{◌≡◌, ◌&&◌, ℕ, Bool, true, ◌∙◌}
use Rattle.bool_diagrams.specs.Rows.{holds}
use Rattle.bool_diagrams.specs.Tree.{with_value}
use Rattle.bool_diagrams.proofs.CallerLemmas.{holds_later, keeps_twice}
use Rattle.truth_rows.proofs.RowLaws.{if_ok_then, raised_value}
use Rattle.truth_rows.proofs.upper.raised_rows.Goals as goal

pub returns-clause-rows : goal.returns-clause-rows
returns-clause-rows c =
    let old = c.args.table.now in
    let set = c.args.set in
    let kept = keeps_twice _ _ _ c.var.ensures.keeps (keeps_twice _ _ _ c.and.ensures.keeps c.exists.ensures.keeps) in
    if_ok_then {Q = λ d. (row : ℕ → Bool) → holds c.and-2.new.self d row ≡ (holds c.args.table.now c.args.set row && holds c.args.table.now c.args.set (with_value row c.args.argument true))} _ c.and-2.ensures.rows
    (λ d h row. h row ∙ (λ i. holds_later old c.exists.new.self set kept c.requires.known row i
    && (c.in_ok-raised.ensures.rows row ∙ raised_value (holds old set) (holds c.var.new.self set) (holds c.var.new.self c.in_ok-rigid.rigid) (holds c.and.new.self c.in_ok-with_it.with_it) c.args.argument row (λ r. holds_later old c.var.new.self set c.var.ensures.keeps c.requires.known r) c.in_ok-rigid.ensures.rows c.in_ok-with_it.ensures.rows) i))
