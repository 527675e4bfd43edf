use Rattle.std.proofs.Common.{◌≡◌, ℕ, subst, ◌∙◌}
use Rattle.linear_rows.specs.Plain.{plain_rows}
use Rattle.linear_rows.specs.declared.row.Rows.{Rows}
use Rattle.redundant_rows.specs.Choosing.{IsCore}
use Rattle.redundant_rows.specs.Sweeping.{IsLess}
use Rattle.redundant_rows.proofs.RowLists.{ok_then}
use Rattle.redundant_rows.proofs.Sweeps.{less_trans, core_of_less}
use Rattle.redundant_rows.proofs.projecting.core.Goals as goal

pub returns-clause-core : goal.returns-clause-core
returns-clause-core c =
    let n = c.args.rows.width in
    let all = plain_rows c.args.rows.list in
    let few = c.in_ok-few.few in
    let fewer = c.in_ok-fewer.fewer in
    let second : IsLess n (plain_rows few.list) (plain_rows fewer.list) = subst (λ (k : ℕ). IsLess k (plain_rows few.list) (plain_rows fewer.list)) c.in_ok-few.ensures.width c.in_ok-fewer.ensures.less in
    let less : IsLess n all (plain_rows fewer.list) = less_trans n all (plain_rows few.list) (plain_rows fewer.list) c.in_ok-few.ensures.less second in
    let width : fewer.width ≡ n = c.in_ok-fewer.ensures.width ∙ c.in_ok-few.ensures.width in
    ok_then (λ (r : Rows). IsCore fewer.width (plain_rows fewer.list) (plain_rows r.list)) (λ (r : Rows). IsCore n all (plain_rows r.list))
    (λ r h. core_of_less n all (plain_rows fewer.list) (plain_rows r.list) less (subst (λ (k : ℕ). IsCore k (plain_rows fewer.list) (plain_rows r.list)) width h))
    c.irredundant.result c.irredundant.ensures.core
