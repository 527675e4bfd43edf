use Rattle.std.proofs.Common.{◌≡◌, ◌+◌, ℕ, suc, List, length, slice_get, Some, ap, sym, subst, ◌∙◌, arith}
use Rattle.termination_model.specs.grounds.Modes.{chosen_up_to}
use Rattle.termination_model.proofs.Lists.{at_place}
use Rattle.level_dual.specs.Walked.{IsWalkedTo}
use Rattle.level_dual.proofs.WalkLaws.{all_walked}
use Rattle.level_dual.proofs.walking.walk_all.Goals as goal

pub loop-set-preserved : goal.loop-set-preserved
loop-set-preserved c = λ size truth expression comps rows r h needed.
    let x = c.args.component.now in
    let n = length x.positions.items in
    let i = c.loop-set.set-index in
    let items = c.as_slice-set-items.result.now in
    let order : items ≡ chosen_up_to n n = c.as_slice-set-items.ensures ∙ c.in_ok-sets.ensures ∙ (λ j. chosen_up_to (c.requires.last j) (c.requires.last j)) in
    let at : slice_get items i ≡ Some c.set-item.result = at_place items i c.set-item.result c.loop-set-test.true c.set-item.is in
    let there : slice_get (chosen_up_to n n) i ≡ Some c.as_slice.result.now = subst (λ (xs : List (List ℕ)). slice_get xs i ≡ Some c.set-item.result) order at ∙ ap (λ (s : List ℕ). Some s) (sym c.as_slice.ensures) in
    let next = c.in_ok-visit.ensures size truth expression comps rows r h i there needed (c.loop-set.invariant size truth expression comps rows r h needed) in
    let more : suc i ≡ i + 1 = omega arith in
    subst (λ (k : ℕ). IsWalkedTo expression c.args.p.now comps rows r n k c.visit.new.walked) more next

pub returns : goal.returns
returns c = λ size truth expression comps rows r h needed.
    let x = c.args.component.now in
    let n = length x.positions.items in
    let items = c.as_slice-set-items.result.now in
    let order : items ≡ chosen_up_to n n = c.as_slice-set-items.ensures ∙ c.in_ok-sets.ensures ∙ (λ j. chosen_up_to (c.requires.last j) (c.requires.last j)) in
    let long : length items ≡ length (chosen_up_to n n) = ap length order in
    all_walked size truth expression c.args.p.now comps rows r x h c.loop-set.set-index c.loop-set.walked (omega (arith, long, c.loop-set-test.false)) (c.loop-set.invariant size truth expression comps rows r h needed)
