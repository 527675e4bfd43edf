use Rattle.std.proofs.Common.{rules, ◌≡◌, ◌+◌, ℕ, sym, subst}
use Rattle.linear_rows.specs.Plain.{plain_rows, HaveWidth}
use Rattle.redundant_rows.specs.Projecting.{IsProjected, IsCut, left_of}
use Rattle.polyhedra.proofs.Cores.{part_spoken, fit_of_spoken, join_of_cut, said_join}
use Rattle.simplex.proofs.RowLists.{long_rows}
use Rattle.polyhedra.proofs.joining.hull_about.Goals as goal

pub invariant_of-strong : goal.invariant_of-strong
invariant_of-strong c =
    let n = c.args.first.now.rows.width in
    let r = c.in-Some-2.rows in
    let cut : IsCut n c.in-Some.count (plain_rows c.in_ok-rows.rows.list) r = subst (IsProjected n c.in-Some.count (plain_rows c.in_ok-rows.rows.list)) c.in-Some-2.is c.in_ok-rows-2.ensures in
    record {
      widths = subst (λ (m : ℕ). HaveWidth m r.list) (sym cut.width) cut.widths;
      fit = fit_of_spoken n r.list (part_spoken n (left_of n c.in-Some.count (plain_rows c.in_ok-rows.rows.list)) (plain_rows r.list) cut.core.part cut.spoken);
    }

pub returns-in-Some-2-clause-rows : goal.returns-in-Some-2-clause-rows
returns-in-Some-2-clause-rows c =
    let n = c.args.first.now.rows.width in
    let r = c.in-Some-2.rows in
    let cut : IsCut n c.in-Some.count (plain_rows c.in_ok-rows.rows.list) r = subst (IsProjected n c.in-Some.count (plain_rows c.in_ok-rows.rows.list)) c.in-Some-2.is c.in_ok-rows-2.ensures in
    let first = c.args.first.now in
    let second = c.args.second.now in
    let count : c.in-Some.count ≡ n + 1 = search rules in
    said_join n (plain_rows first.rows.list) (plain_rows second.rows.list) c.strong.result.value.rows r c.strong.result.weak c.strong.ensures.rows c.strong.ensures.weak (join_of_cut n c.in-Some.count count (plain_rows first.rows.list) (plain_rows second.rows.list) (plain_rows c.in_ok-rows.rows.list) c.in_ok-rows.ensures.rows
    (long_rows n first.rows.list first.widths) (long_rows n second.rows.list (subst (λ (k : ℕ). HaveWidth k second.rows.list) c.requires.same second.widths)) c.requires.first c.requires.second r cut)
