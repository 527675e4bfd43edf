use Rattle.std.proofs.Common.{◌≡◌, ◌-◌, arith, length, take, drop, length-drop}
use Rattle.std.proofs.lemmas.List.{take_all}
use Rattle.outside.proofs.Taking.{takes_more}
use Rattle.outside.proofs.writing.write_text.Goals as goal

pub loop-done-preserved : goal.loop-done-preserved
loop-done-preserved g c =
    let text = c.args.text.now in
    let done = c.loop-done.done in
    let n = length-drop done text in
    let whole : take (length text - done) (drop done text) ≡ drop done text = take_all _ _ (omega arith) in
    let bound = rw whole at c.in_ok-done.ensures.bound in (
      omega (arith, bound),
      takes_more _ _ _ _ _ _ c.loop-done.invariant.1 (rw whole at c.in_ok-done.ensures.takes),
      omega (arith, c.in_ok-done.ensures.later),
    )
