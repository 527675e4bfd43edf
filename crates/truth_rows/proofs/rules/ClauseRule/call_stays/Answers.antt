use Rattle.std.proofs.Common.{◌↔◌, ℕ, Bool, IsTrue, if◌then◌else◌, sym, ◌∙◌}
use Rattle.bool_diagrams.specs.Rows.{holds}
use Rattle.bool_diagrams.proofs.CallerLemmas.{holds_later}
use Rattle.truth_rows.specs.Ready.{HasAtom}
use Rattle.truth_rows.proofs.RowLaws.{if_ok_then}
use Rattle.truth_rows.proofs.rules.ClauseRule.call_stays.Goals as goal

pub returns-clause-stays : goal.returns-clause-stays
returns-clause-stays g c =
    let later = holds_later c.args.table.now c.rows_of_call.new.table c.args.reached c.rows_of_call.ensures.keeps c.requires.known in
    if_ok_then {Q = λ stays. IsTrue stays ↔ ((v : ℕ → Bool) → IsTrue (holds c.args.table.now c.args.reached v) → HasAtom (g.N.Norm.truth c.args.norm.now) c.args.table.now (if c.args.own then c.args.self.now.pre.now else c.args.self.now.allowed.now) v c.args.atom.now)} _ c.is_inside.ensures.rows
    (λ x h. (
      λ t v r. (c.in_ok-wanted.ensures.rows v).0 (h.0 t v (later v ∙ r)),
      λ f. h.1 (λ v r. (c.in_ok-wanted.ensures.rows v).1 (f v (sym (later v) ∙ r))),
    ))
