use Rattle.std.proofs.Common.{rules, ◌≡◌, ◌∙◌, true, ℤ, pos, List, length, arith, sym, ap, subst}
use Rattle.std.specs.Prelude.{◌≤ℤ◌, All}
use Rattle.std.proofs.lemmas.List.{length-map}
use Rattle.linear_rows.specs.Plain.{plain_row, plain_rows}
use Rattle.linear_rows.specs.Showing.{bottom_row}
use Rattle.linear_rows.specs.Verdict.{Says}
use Rattle.linear_rows.specs.declared.multipliers.Proof.TheVariants.{Holds}
use Rattle.tableaux.proofs.Refutations.{length-bottom, refutes_rows}
use Rattle.tableaux.proofs.finding.refuting.Goals as goal

pub proves-requires-clause-target : goal.proves-requires-clause-target
proves-requires-clause-target c = omega (arith, ap length c.in_ok-bottom.ensures, length-bottom c.args.rows.now.width)

pub returns-in-Holds : goal.returns-in-Holds
returns-in-Holds c =
    let n = c.args.rows.now.width in
    let rows = plain_rows c.args.rows.now.list in
    let list = c.args.list in
    let long : length list ≡ length rows = (let e : length list ≡ length c.args.rows.now.list = omega arith in e) ∙ sym (length-map c.args.rows.now.list plain_row) in
    let yes : c.are_natural.result ≡ true = search rules in
    let natural : All (λ (x : ℤ). pos 0 ≤ℤ x) list = subst (λ (xs : List ℤ). All (λ (x : ℤ). pos 0 ≤ℤ x) xs) c.as_slice.ensures (c.are_natural.ensures.0 yes) in
    let says : Says rows c.as_slice-2.result.now (plain_row c.in_ok-bottom.bottom) (pos 0) Holds = c.in-Holds.ensures.says in
    let here : Says rows list (bottom_row n) (pos 0) Holds = subst (λ (r : List ℤ). Says rows list r (pos 0) Holds) c.in_ok-bottom.ensures (subst (λ (xs : List ℤ). Says rows xs (plain_row c.in_ok-bottom.bottom) (pos 0) Holds) c.as_slice-2.ensures says) in
    refutes_rows n rows list long natural here
