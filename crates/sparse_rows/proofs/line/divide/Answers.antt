use Rattle.std.proofs.Common.{rules, ◌++◌, ◌∷◌, [], pos, length, map, ◌<◌, get_or, arith, ap, ◌∙◌}
use Rattle.std.specs.Int.{w128}
use Rattle.std.specs.Prelude.{FitsSigned, int_div}
use Rattle.std.proofs.Math.Nat.{zero-div}
use Rattle.std.proofs.lemmas.Int.{to_z-of_z}
use Rattle.sparse_rows.specs.Sparse.{spread}
use Rattle.sparse_rows.proofs.SparseLemmas.{nothing, part_at, map_goes_on, map_ends}
use Rattle.sparse_rows.proofs.line.divide.Goals as goal

pub loop-i-preserved : goal.loop-i-preserved
loop-i-preserved c =
    let lt : c.loop-i.i < length c.args.parts.now = omega arith in
    let f : FitsSigned w128 (get_or c.args.parts.now c.loop-i.i nothing).number = search rules in
    let g : FitsSigned w128 c.divided.result = search rules in
    let padded = c.in_ok-push_zeros.ensures in
    let value = simp to_z-of_z at c.divided.ensures in
    let pushed = simp to_z-of_z at c.in_ok-push.ensures in
    map_goes_on (λ x. int_div x (pos c.args.part)) c.args.parts.now c.args.tail c.loop-i.i (get_or c.args.parts.now c.loop-i.i nothing) c.loop-i.out c.push_zeros.new.self c.push.new.self (map (λ x. int_div x (pos c.args.part)) (spread c.args.parts.now c.args.tail))
    (ap pos (zero-div c.args.part)) lt (part_at c.args.parts.now c.loop-i.i lt) c.loop-i.invariant padded (pushed ∙ ap (λ y. c.push_zeros.new.self ++ y ∷ []) value)

pub returns : goal.returns
returns c =
    map_ends (λ x. int_div x (pos c.args.part)) c.args.parts.now c.args.tail c.loop-i.i c.loop-i.out c.push_zeros-2.new.self (map (λ x. int_div x (pos c.args.part)) (spread c.args.parts.now c.args.tail))
    (ap pos (zero-div c.args.part)) (omega arith) c.loop-i.invariant c.in_ok-push_zeros-2.ensures
