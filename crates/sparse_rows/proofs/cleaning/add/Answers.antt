use Rattle.std.proofs.Common.{◌≡◌, ◌≤◌, length, arith, ◌∙◌, subst, OnOk}
use Rattle.linear_rows.specs.Cleaning.{row_gcd, reduced}
use Rattle.sparse_rows.proofs.Adds.{add_full, add_zeros, add_clean, reduced_one, reduced_by}
use Rattle.sparse_rows.proofs.cleaning.add.Goals as goal

pub returns-then-len-gt-MOST_ROWS : goal.returns-then-len-gt-MOST_ROWS
returns-then-len-gt-MOST_ROWS c = add_full c.args.last c.args.kept.now c.args.row (omega arith)

pub returns-then-shared-eq0 : goal.returns-then-shared-eq0
returns-then-shared-eq0 c =
    let e : 0 ≡ row_gcd c.args.row = omega (arith, c.shared-shared.ensures.value) in
    add_zeros c.args.last c.args.kept.now c.args.row (omega arith) e

pub returns-then-shared-eq1 : goal.returns-then-shared-eq1
returns-then-shared-eq1 c =
    let e : 1 ≡ row_gcd c.args.row = omega (arith, c.shared-shared.ensures.value) in
    let h : length c.args.kept.now ≤ 4096 = omega arith in
    subst (λ l. OnOk c.add_divided.result (c.add_divided.new.kept ≡ l)) (add_clean c.args.last c.args.kept.now c.args.row c.args.row h (reduced_one c.args.row e)) c.add_divided.ensures

pub returns : goal.returns
returns c =
    let h : length c.args.kept.now ≤ 4096 = omega arith in
    let d : c.in_ok-divided.divided ≡ reduced c.args.row = c.in_ok-divided.ensures ∙ reduced_by c.args.row c.shared-shared.result c.shared-shared.ensures.value in
    subst (λ l. OnOk c.add_divided-2.result (c.add_divided-2.new.kept ≡ l)) (add_clean c.args.last c.args.kept.now c.args.row c.in_ok-divided.divided h d) c.add_divided-2.ensures
