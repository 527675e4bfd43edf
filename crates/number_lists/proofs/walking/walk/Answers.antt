use Rattle.std.proofs.Common.{◌≡◌, ◌+◌, ℕ, suc, List, length, map, slice_get, take, Some, ap, sym, subst, ◌∙◌, arith}
use Rattle.termination_model.specs.grounds.Modes.{chosen_up_to}
use Rattle.termination_model.proofs.Lists.{at_place}
use Rattle.number_turns.specs.Recalled.{recalled}
use Rattle.number_lists.specs.Found.{AreVoid}
use Rattle.number_lists.specs.Walked.{IsWalkedTo}
use Rattle.number_lists.proofs.ListWalk.{all_walked}
use Rattle.number_lists.proofs.walking.walk.Goals as goal

pub loop-set-preserved : goal.loop-set-preserved
loop-set-preserved c = λ width are.
    let x = c.args.system.now in
    let members = x.members.now in
    let positions = x.positions.now in
    let τs = map recalled x.transitions.now in
    let n = length positions in
    let i = c.loop-set.set-index in
    let items = c.as_slice-set-items.result.now in
    let order : items ≡ chosen_up_to n n = c.as_slice-set-items.ensures ∙ c.in_ok-sets.ensures ∙ (λ j. chosen_up_to (c.requires.last j) (c.requires.last j)) in
    let at : slice_get items i ≡ Some c.set-item.result = at_place items i c.set-item.result c.loop-set-test.true c.set-item.is in
    let there : slice_get (chosen_up_to n n) i ≡ Some c.as_slice-in-loop-set.result.now = subst (λ (xs : List (List ℕ)). slice_get xs i ≡ Some c.set-item.result) order at ∙ ap (λ (s : List ℕ). Some s) (sym c.as_slice-in-loop-set.ensures) in
    let void = subst (AreVoid members positions τs width) (sym c.as_slice.ensures) (c.in_ok-void.ensures width are) in
    let next = c.in_ok-visit.ensures width are i there void (c.loop-set.invariant width are) in
    let more : suc i ≡ i + 1 = omega arith in
    subst (λ (k : ℕ). IsWalkedTo members positions τs width (take k (chosen_up_to n n)) c.visit.new.walked) more next

pub returns : goal.returns
returns c = λ width are.
    let x = c.args.system.now in
    let n = length x.positions.now in
    let items = c.as_slice-set-items.result.now in
    let order : items ≡ chosen_up_to n n = c.as_slice-set-items.ensures ∙ c.in_ok-sets.ensures ∙ (λ j. chosen_up_to (c.requires.last j) (c.requires.last j)) in
    let long : length items ≡ length (chosen_up_to n n) = ap length order in
    all_walked x.members.now x.positions.now (map recalled x.transitions.now) width c.loop-set.set-index c.loop-set.walked (omega (arith, long, c.loop-set-test.false)) (c.loop-set.invariant width are)
