use Rattle.std.proofs.Common.{sym, ◌∙◌}
use Rattle.std.proofs.lemmas.Bool.{and_parts}
use Rattle.bool_diagrams.specs.Rows.{holds}
use Rattle.bool_diagrams.proofs.CallerLemmas.{holds_later, keeps_twice}
use Rattle.truth_rows.proofs.RowLaws.{both}
use Rattle.precond_fixpoint.proofs.BreakingLaws.{outside_not, not_outside}
use Rattle.precond_fixpoint.proofs.breaking.leaving_rows.Goals as goal

pub returns-clause-rows : goal.returns-clause-rows
returns-clause-rows g c =
    let old = c.args.table.now in
    let wanted = c.in_ok-wanted.wanted in
    let later = holds_later old c.not.new.self c.args.reached (keeps_twice _ _ _ c.rows_of_call.ensures.keeps c.not.ensures.keeps) c.requires.known in
    let e = c.in_ok-rows.ensures.rows in
    let o = c.in_ok-outside.ensures.rows in
    λ v. (
      λ t.
          let parts = and_parts (holds c.not.new.self c.args.reached v) (holds c.not.new.self c.in_ok-outside.outside v) (sym (e v) ∙ t) in
          (sym (later v) ∙ parts.0, λ has. not_outside (holds c.rows_of_call.new.table wanted v) (sym (o v) ∙ parts.1) ((c.in_ok-wanted.ensures.rows v).1 has)),
      λ h. e v ∙ both (holds c.not.new.self c.args.reached v) (holds c.not.new.self c.in_ok-outside.outside v)
          (later v ∙ h.0) (o v ∙ outside_not (holds c.rows_of_call.new.table wanted v) (λ t. h.1 ((c.in_ok-wanted.ensures.rows v).0 t))),
    )
