use Rattle.std.proofs.Common.{◌++◌, ◌∷◌, [], map, get_or, arith, sym, ◌∙◌}
use Rattle.call_components.specs.Numbers.{number_of}
use Rattle.level_systems.specs.declared.measure.Measure.{Measure}
use Rattle.termination_model.proofs.Lists.{there}
use Rattle.carried_mappings.specs.Moved.{with_members}
use Rattle.carried_mappings.proofs.Orders.{take_whole, with_more}
use Rattle.carried_mappings.proofs.moving.moved_measures.Goals as goal

pub loop-i-preserved : goal.loop-i-preserved
loop-i-preserved c =
    let qs = c.args.members.now in
    let ms = c.args.measures.now in
    let n = c.loop-i.i in
    let q = get_or qs n (record { 0 = 0 }) in
    let x : Measure = get_or ms n c.index-measures-i.result in
    let at = there qs n (record { 0 = 0 }) (omega arith) in
    let here = there ms n c.index-measures-i.result (omega arith) in
    c.in_ok-push.ensures.ok
    ∙ (λ j. c.loop-i.invariant j ++ record { pred = q; part = c.in_ok-part.ensures j } ∷ [])
    ∙ sym (with_more qs ms n q x at here)

pub returns : goal.returns
returns c =
    let qs = c.args.members.now in
    let ms = c.args.measures.now in
    let first = take_whole qs c.loop-i.i (omega arith) in
    let second = take_whole ms c.loop-i.i (omega arith) in
    c.loop-i.invariant ∙ (λ j. with_members (map number_of (first j)) (second j))
