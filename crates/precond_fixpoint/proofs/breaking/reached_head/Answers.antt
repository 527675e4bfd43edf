use Rattle.std.proofs.Common.{sym, ◌∙◌}
use Rattle.std.proofs.lemmas.Bool.{and_parts}
use Rattle.bool_diagrams.specs.Rows.{holds}
use Rattle.bool_diagrams.proofs.CallerLemmas.{holds_later}
use Rattle.truth_rows.proofs.RowLaws.{both}
use Rattle.precond_fixpoint.proofs.breaking.reached_head.Goals as goal

pub returns-clause-rows : goal.returns-clause-rows
returns-clause-rows g c =
    let inside = c.in_ok-inside.inside in
    let T = c.atom_rows.new.table in
    let later = holds_later c.args.table.now T c.args.placed c.atom_rows.ensures.keeps c.requires.known in
    let e = c.in_ok-rows.ensures.rows in
    λ v. (
      λ t.
          let parts = and_parts (holds T c.args.placed v) (holds T inside v) (sym (e v) ∙ t) in
          (sym (later v) ∙ parts.0, (c.in_ok-inside.ensures.rows v).0 parts.1),
      λ h. e v ∙ both (holds T c.args.placed v) (holds T inside v) (later v ∙ h.0) ((c.in_ok-inside.ensures.rows v).1 h.1),
    )
