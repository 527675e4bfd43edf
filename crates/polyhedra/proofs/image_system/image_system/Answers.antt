use Rattle.std.proofs.Common.{ℕ, sym, subst}
use Rattle.linear_rows.specs.Plain.{HaveWidth}
use Rattle.redundant_rows.proofs.RowLists.{widths_of}
use Rattle.polyhedra.proofs.image_system.image_system.Goals as goal

pub push_equalities-requires-clause-head : goal.push_equalities-requires-clause-head
push_equalities-requires-clause-head c =
    let s = c.args.system.now in
    subst (λ (n : ℕ). HaveWidth n s.head.list) (sym c.requires.system.head_width) (widths_of s.variables s.head.list c.requires.system.head)

pub push_body-requires-clause-body : goal.push_body-requires-clause-body
push_body-requires-clause-body c =
    let s = c.args.system.now in
    subst (λ (n : ℕ). HaveWidth n s.rows.list) (sym c.requires.system.rows_width) (widths_of s.variables s.rows.list c.requires.system.rows)
