use Rattle.std.proofs.Common.{rules, ◌≡◌, length, ◌<◌, get_or, arith, refl, sym, ap, ◌∙◌, true, false}
use Rattle.std.specs.Int.{w128}
use Rattle.std.specs.Prelude.{FitsSigned}
use Rattle.std.proofs.lemmas.Int.{to_z-of_z}
use Rattle.sparse_rows.specs.Small.{small}
use Rattle.linear_rows.specs.Blown.{all_of}
use Rattle.sparse_rows.specs.Sparse.{spread}
use Rattle.sparse_rows.proofs.SparseLemmas.{nothing, part_at, test_goes_on, test_stops, test_ends}
use Rattle.sparse_rows.proofs.line.parts_are_small.Goals as goal

pub returns-then-not-is_small : goal.returns-then-not-is_small
returns-then-not-is_small c =
    let lt : c.loop-i.i < length c.args.parts.now = omega arith in
    let f : FitsSigned w128 (get_or c.args.parts.now c.loop-i.i nothing).number = search rules in
    let e : small (get_or c.args.parts.now c.loop-i.i nothing).number ≡ false = ap small (sym (to_z-of_z w128 (get_or c.args.parts.now c.loop-i.i nothing).number f)) ∙ sym c.is_small.ensures ∙ c.if-not-is_small.true in
    test_stops small c.args.parts.now c.args.tail c.loop-i.i (get_or c.args.parts.now c.loop-i.i nothing) (all_of small (spread c.args.parts.now c.args.tail)) refl lt (part_at c.args.parts.now c.loop-i.i lt) c.loop-i.invariant e

pub loop-i-preserved : goal.loop-i-preserved
loop-i-preserved c =
    let lt : c.loop-i.i < length c.args.parts.now = omega arith in
    let f : FitsSigned w128 (get_or c.args.parts.now c.loop-i.i nothing).number = search rules in
    let e : small (get_or c.args.parts.now c.loop-i.i nothing).number ≡ true = ap small (sym (to_z-of_z w128 (get_or c.args.parts.now c.loop-i.i nothing).number f)) ∙ sym c.is_small.ensures ∙ c.if-not-is_small.false in
    test_goes_on small c.args.parts.now c.args.tail c.loop-i.i (get_or c.args.parts.now c.loop-i.i nothing) (all_of small (spread c.args.parts.now c.args.tail)) refl lt (part_at c.args.parts.now c.loop-i.i lt) c.loop-i.invariant e

pub returns : goal.returns
returns c = test_ends small c.args.parts.now c.args.tail c.loop-i.i (all_of small (spread c.args.parts.now c.args.tail)) refl (omega arith) c.loop-i.invariant
