use Rattle.std.proofs.Common.{◌≤◌, length, map, min, sym, ◌∙◌, arith}
use Rattle.number_turns.specs.Recalled.{spelled}
use Rattle.number_lists.specs.Large.{has_number}
use Rattle.number_lists.proofs.HeldSupports.{has_none, shorter_or}
use Rattle.number_lists.proofs.supports.has_number.Goals as goal

pub returns : goal.returns
returns c =
    let fs = c.as_slice-features.result.now in
    let zs = c.as_slice-numbers.result.now in
    let i = c.loop-i.i in
    let past : min (length fs) (length zs) ≤ i = omega (arith, c.min-count.ensures, c.loop-i-test.false) in
    sym (has_none c.args.position fs zs i (shorter_or (length fs) (length zs) i past)) ∙ c.loop-i.invariant
    ∙ (λ j. has_number c.args.position (map spelled (c.as_slice-features.ensures j)) (c.as_slice-numbers.ensures j))
