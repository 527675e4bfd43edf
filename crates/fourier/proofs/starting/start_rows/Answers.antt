use Rattle.std.proofs.Common.{◌≡◌, ◌+◌, ap, sym, ◌∙◌, ◌++◌, ◌∷◌, [], negsuc, length}
use Rattle.std.proofs.lemmas.List.{length-map}
use Rattle.linear_rows.specs.Plain.{plain_row, plain_rows}
use Rattle.linear_rows.specs.Solving.{units, floors, carried}
use Rattle.fourier.proofs.StartRows.{start_is}
use Rattle.fourier.proofs.starting.start_rows.Goals as goal

pub returns : goal.returns
returns c =
    let n = c.args.rows.now.width in
    let given = plain_rows c.args.rows.now.list in
    let same : length given ≡ length c.args.rows.now.list = length-map c.args.rows.now.list plain_row in
    let many : c.len-many.result ≡ length given = c.len-many.ensures ∙ sym same in
    start_is n given c.push_floors.new.lines c.push.new.self c.push_given.new.lines c.in_ok-unit_line.field-0
    (c.in_ok-push_floors.ensures ∙ ap (λ l. l ++ floors n 0 (n + 1 + c.len-many.result)) c.marked-lines.ensures ∙ ap (λ k. [] ++ floors n 0 (n + 1 + k)) many)
    c.in_ok-push.ensures
    (c.in_ok-unit_line.ensures ∙ ap (λ k. negsuc 0 ∷ units (n + 1 + k) n) many)
    (c.in_ok-push_given.ensures ∙ ap (λ k. c.push.new.self ++ carried k 0 given) (sym same))
