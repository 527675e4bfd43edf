use Rattle.std.proofs.Common.{rules, ◌≡◌, ℕ, ℤ, List, IfOk, Ok, Err, Result, Option, subst, sym}
use Rattle.linear_rows.specs.Plain.{plain_row, plain_rows}
use Rattle.linear_rows.specs.declared.row.Row.{Row}
use Rattle.linear_rows.specs.Replacing.{AreColumns, over_columns, IsRowIfFits}
use Rattle.polyhedra.specs.Telling.{at_head, IsTarget}
use Rattle.polyhedra.proofs.Targets.{replaced_is}
use Rattle.polyhedra.proofs.heads.target_of.Goals as goal

ok_map : {E : Type 0} (P Q : Option Row → Type 0) → ((x : Option Row) → P x → Q x) → (r : Result (Option Row) E) → IfOk r P → IfOk r Q
ok_map P Q f (Ok x) h = f x h
ok_map P Q f (Err e) h = h

pub returns : goal.returns
returns c =
    let s = c.args.system.now in
    let numbers : c.as_slice-2.result.now ≡ plain_row c.args.row.now = search rules in
    let are : AreColumns (plain_rows s.head.list) s.variables c.as_slice-3.result.now =
    subst (AreColumns (plain_rows s.head.list) s.variables) (sym c.as_slice-3.ensures.value) (subst (λ (n : ℕ). AreColumns (plain_rows s.head.list) n c.in_ok-columns.columns.items) c.requires.system.head_width c.in_ok-columns.ensures) in
    let told = subst (λ (xs : List ℤ). IfOk c.replaced.result (IsRowIfFits (over_columns c.as_slice-3.result.now xs))) numbers c.replaced.ensures in
    ok_map (IsRowIfFits (over_columns c.as_slice-3.result.now (plain_row c.args.row.now))) (IsTarget (at_head s (plain_row c.args.row.now))) (λ o h. replaced_is s c.requires.system c.as_slice-3.result.now (plain_row c.args.row.now) are o h) c.replaced.result told
