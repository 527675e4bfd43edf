use Rattle.std.proofs.Common.{◌≡◌, true, false, ap, sym, refl, ◌∙◌}
use Rattle.linear_rows.specs.Blown.{all_of}
use Rattle.number_turns.proofs.NumberTests.{never, row_test, rows_pass, rows_tested}
use Rattle.number_turns.proofs.transition.Transition.has_numbers.Goals as goal

pub returns-then-not-rows_fit : goal.returns-then-not-rows_fit
returns-then-not-rows_fit c =
    let rows = c.args.self.now.rows.list in
    let told : false ≡ all_of row_test rows = c.if-not-rows_fit.ensures ∙ ap (all_of row_test) c.as_slice.ensures in
    (λ t. absurd (never t), λ h. told ∙ rows_pass rows h.rows)

pub returns : goal.returns
returns c =
    let rows = c.args.self.now.rows.list in
    let told : all_of row_test rows ≡ true = sym (c.if-not-rows_fit.ensures ∙ ap (all_of row_test) c.as_slice.ensures) in (
      λ t. record { rows = rows_tested rows told; head = c.if-not-is_natural.ensures.0 refl; call = c.is_natural-2.ensures.0 t },
      λ h. c.is_natural-2.ensures.1 h.call,
    )
