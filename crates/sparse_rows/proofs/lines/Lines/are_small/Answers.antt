use Rattle.std.proofs.Common.{◌≡◌, ◌<◌, length, false, arith, sym, ap, get_or, []}
use Rattle.sparse_rows.specs.Small.{small}
use Rattle.linear_rows.specs.Blown.{all_of}
use Rattle.sparse_rows.proofs.Alls.{all_from, all_not}
use Rattle.sparse_rows.proofs.lines.Lines.are_small.Goals as goal

pub returns-then-not-is_small : goal.returns-then-not-is_small
returns-then-not-is_small c =
    let lt : c.loop-i.i < length c.args.self.now = omega arith in
    let e : all_of small (get_or c.args.self.now c.loop-i.i []) ≡ false = cc (c.is_small.ensures, c.if-not-is_small.true, ap (all_of small) c.get.ensures) in
    sym (all_not (all_of small) c.args.self.now [] c.loop-i.i lt e)

pub returns : goal.returns
returns c = sym (all_from (all_of small) c.args.self.now [] (λ j l. c.loop-i.invariant j (omega arith)))
