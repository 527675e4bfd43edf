use Rattle.std.proofs.Common.{rules, ◌↔◌, ◌≤ℤ◌, pos, IsTrue, List, subst}
use Rattle.std.specs.Prelude.{All}
use Rattle.number_turns.proofs.NumberTests.{natural_row}
use Rattle.number_turns.proofs.atom_columns.is_natural.Goals as goal

pub returns-then-row-ge0 : goal.returns-then-row-ge0
returns-then-row-ge0 c =
    let row = c.in-Some.row in
    let low : pos 0 ≤ℤ row.constant = search rules in
    natural_row row c.args.column.now c.are_natural.result c.in-Some.is low
    (subst (λ (xs : List _). IsTrue c.are_natural.result ↔ All (λ x. pos 0 ≤ℤ x) xs) c.as_slice.ensures c.are_natural.ensures)
