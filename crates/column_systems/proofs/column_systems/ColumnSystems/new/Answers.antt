use Rattle.std.proofs.Common.{◌≤◌, ℕ, sym, subst, arith}
use Rattle.column_systems.proofs.Lawful.{columns_are_systems}
use Rattle.column_systems.proofs.column_systems.ColumnSystems.new.Goals as goal

pub invariant_of-result : goal.invariant_of-result
invariant_of-result g c =
    let p = c.args.program.now in
    let m = c.args.columns.now in
    let size = c.in_ok-size.ensures in
    let number = c.in_ok-number.ensures in
    let few = c.requires.few in
    let width = c.width-width.ensures.width in
    let most = c.width-width.ensures.few in
    record {
      kinds_are = c.requires.kinds;
      numbers = c.requires.numbers;
      size_is = size;
      number_is = number;
      size_few = subst (λ (n : ℕ). n ≤ 3) (sym size) few.size;
      number_few = subst (λ (n : ℕ). n ≤ 3) (sym number) few.number;
      systems = columns_are_systems p c.preds-program.ensures.sound (g.C.Columns.count m) (g.C.Columns.listed m) c.requires.kinds (g.C.Columns.truth m) (g.C.Columns.columns m) (g.met.C.Columns.laws m p.arithmetic.names c.requires.suits) (omega (arith, width, most)) c.requires.numbers few;
    }
