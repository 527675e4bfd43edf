use Rattle.std.proofs.Common.{◌≡◌, ℕ, suc, subst, ap, ◌∙◌, sym, inr, None, length, arith}
use Rattle.linear_rows.specs.Plain.{plain_row, plain_rows, HaveWidth}
use Rattle.polyhedra.specs.Telling.{at_head, IsTarget}
use Rattle.redundant_rows.proofs.RowLists.{widths_of}
use Rattle.polyhedra.proofs.Targets.{long_target}
use Rattle.simplex.proofs.WideTests.{fits_same, wide_target}
use Rattle.polyhedra.proofs.heads.tested_on.Goals as goal

pub tested-requires-clause-rows : goal.tested-requires-clause-rows
tested-requires-clause-rows c = subst (λ (n : ℕ). HaveWidth n c.args.system.now.rows.list) (sym c.requires.system.rows_width) (widths_of c.args.system.now.variables c.args.system.now.rows.list c.requires.system.rows)

pub tested-requires-clause-row : goal.tested-requires-clause-row
tested-requires-clause-row c =
    let s = c.args.system.now in
    let told = subst (IsTarget (at_head s (plain_row c.args.row.now))) c.in-Some.is c.in_ok-target.ensures in
    let long : suc (length c.in-Some.target.coeffs) ≡ suc s.variables = ap length told.0 ∙ long_target s c.requires.system (plain_row c.args.row.now) in
    omega (arith, long, c.requires.system.rows_width)

pub returns-in_default : goal.returns-in_default
returns-in_default c =
    let s = c.args.system.now in
    let none : c.in_ok-target.field-0 ≡ None = c.in_default.is in
    let told = subst (IsTarget (at_head s (plain_row c.args.row.now))) none c.in_ok-target.ensures in
    inr (wide_target s.variables (plain_rows s.rows.list) (at_head s (plain_row c.args.row.now)) (sym (fits_same (at_head s (plain_row c.args.row.now))) ∙ told))
