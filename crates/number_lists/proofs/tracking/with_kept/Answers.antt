use Rattle.std.proofs.Common.{◌≡◌, ◌+◌, ◌<◌, ◌++◌, ◌∷◌, [], List, drop, length, slice_get, Some, true, false, ap, sym, ◌∙◌, arith}
use Rattle.std.specs.Borrow.{Bor}
use Rattle.termination_model.proofs.Lists.{append_assoc, at_place, map_push}
use Rattle.transitions.specs.Turns.{unmarked}
use Rattle.number_turns.specs.Recalled.{held_of}
use Rattle.number_turns.specs.declared.transition.Transition.{Transition}
use Rattle.number_lists.proofs.Tracked.{gone_at, left_gone, left_here}
use Rattle.number_lists.proofs.tracking.with_kept.Goals as goal

pub loop-i-preserved-then-gone-i : goal.loop-i-preserved-then-gone-i
loop-i-preserved-then-gone-i c =
    let τs = c.args.transitions.now in
    let gone = c.args.gone.now in
    let i = c.loop-i.i in
    let at : slice_get gone i ≡ Some true = gone_at gone i true (omega (arith, c.requires)) c.if-gone-i.true in
    let lt : i < length τs = omega arith in
    ap (λ s. held_of c.loop-i.all.items ++ s) (sym (left_gone τs gone i lt at)) ∙ c.loop-i.invariant

pub loop-i-preserved : goal.loop-i-preserved
loop-i-preserved c =
    let τs = c.args.transitions.now in
    let gone = c.args.gone.now in
    let i = c.loop-i.i in
    let τ : Transition = c.index-transitions-i.result in
    let lt : i < length τs = c.loop-i-test.true in
    let there : slice_get τs i ≡ Some τ = at_place τs i τ lt c.index-transitions-i.is in
    let at : slice_get gone i ≡ Some false = gone_at gone i false (omega (arith, c.requires, lt)) c.if-gone-i.false in
    let later = unmarked (drop (i + 1) τs) (drop (i + 1) gone) in
    ap (λ (os : List (Bor Transition)). held_of os ++ later) c.in_ok-push.ensures.items ∙ ap (λ (os : List Transition). os ++ later) (map_push (λ (b : Bor Transition). b.now) c.loop-i.all.items _)
    ∙ append_assoc (held_of c.loop-i.all.items) (τ ∷ []) later ∙ ap (λ (os : List Transition). held_of c.loop-i.all.items ++ os) (sym (left_here τs gone i τ there at)) ∙ c.loop-i.invariant
