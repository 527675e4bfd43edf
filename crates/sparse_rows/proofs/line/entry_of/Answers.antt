use Rattle.std.proofs.Common.{rules, length, ◌<◌, get_or, arith, ◌∙◌}
use Rattle.std.specs.Int.{w128}
use Rattle.std.specs.Prelude.{FitsSigned}
use Rattle.std.proofs.lemmas.Int.{to_z-of_z}
use Rattle.exact128.specs.Sums.{entry}
use Rattle.sparse_rows.specs.Sparse.{spread}
use Rattle.sparse_rows.proofs.SparseLemmas.{nothing, part_at, entry_in_zeros, entry_at_number, entry_later, entry_past}
use Rattle.sparse_rows.proofs.line.entry_of.Goals as goal

pub returns-then-left-part : goal.returns-then-left-part
returns-then-left-part c =
    let lt : c.loop-i.i < length c.args.parts.now = omega arith in
    entry_in_zeros c.args.parts.now c.args.tail c.loop-i.i c.loop-i.left (get_or c.args.parts.now c.loop-i.i nothing) (entry (spread c.args.parts.now c.args.tail) c.args.k) lt (part_at c.args.parts.now c.loop-i.i lt) c.loop-i.invariant (omega arith)

pub returns-then-left-part-2 : goal.returns-then-left-part-2
returns-then-left-part-2 c =
    let lt : c.loop-i.i < length c.args.parts.now = omega arith in
    let f : FitsSigned w128 (get_or c.args.parts.now c.loop-i.i nothing).number = search rules in
    to_z-of_z w128 (get_or c.args.parts.now c.loop-i.i nothing).number f
    ∙ entry_at_number c.args.parts.now c.args.tail c.loop-i.i c.loop-i.left (get_or c.args.parts.now c.loop-i.i nothing) (entry (spread c.args.parts.now c.args.tail) c.args.k) lt (part_at c.args.parts.now c.loop-i.i lt) c.loop-i.invariant (omega arith)

pub loop-i-preserved : goal.loop-i-preserved
loop-i-preserved c =
    let lt : c.loop-i.i < length c.args.parts.now = omega arith in
    entry_later c.args.parts.now c.args.tail c.loop-i.i c.loop-i.left (get_or c.args.parts.now c.loop-i.i nothing) (entry (spread c.args.parts.now c.args.tail) c.args.k) lt (part_at c.args.parts.now c.loop-i.i lt) c.loop-i.invariant (omega arith)

pub returns : goal.returns
returns c = entry_past c.args.parts.now c.args.tail c.loop-i.i c.loop-i.left (entry (spread c.args.parts.now c.args.tail) c.args.k) (omega arith) c.loop-i.invariant
