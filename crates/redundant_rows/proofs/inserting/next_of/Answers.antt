use Rattle.std.proofs.Common.{ℕ, suc, subst}
use Rattle.linear_rows.specs.Plain.{plain_row, plain_rows}
use Rattle.linear_rows.specs.Rows.{HoldsOn}
use Rattle.simplex.specs.Telling.{SaysHolds}
use Rattle.simplex.specs.declared.implication.Implied.{Implied}
use Rattle.redundant_rows.proofs.inserting.next_of.Goals as goal

pub returns-in-Yes : goal.returns-in-Yes
returns-in-Yes c =
    let h = c.requires.insertion in
    let kept = c.args.insertion.now.kept in
    let own = c.get-row.result.now in
    let told = subst (λ (said : Implied). SaysHolds kept.width (plain_rows kept.list) (plain_row own) said) c.in-Yes.is c.in_ok-test.ensures in
    (own, c.get-row.ensures, subst (λ (k : ℕ). HoldsOn (suc k) (plain_rows kept.list) (plain_row own)) h.width told)
