use Rattle.std.proofs.Common.{◌≡◌, ℕ, subst}
use Rattle.linear_rows.specs.Plain.{HaveWidth}
use Rattle.simplex.proofs.RowLists.{long_rows}
use Rattle.domain_examples.proofs.domains.system.Goals as goal

pub returns-clause-system : goal.returns-clause-system
returns-clause-system c =
    let v = c.args.variables in
    record {
      rows_width = c.in_ok-rows.ensures.width;
      head_width = c.in_ok-head.ensures.width;
      rows = long_rows v c.in_ok-rows.rows.list (subst (λ (k : ℕ). HaveWidth k c.in_ok-rows.rows.list) c.in_ok-rows.ensures.width c.in_ok-rows.ensures.rows);
      head = long_rows v c.in_ok-head.head.list (subst (λ (k : ℕ). HaveWidth k c.in_ok-head.head.list) c.in_ok-head.ensures.width c.in_ok-head.ensures.rows);
    }
