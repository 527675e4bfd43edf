use Rattle.std.proofs.Common.{sym}
use Rattle.std.specs.Borrow.{Bor}
use Rattle.termination_model.proofs.Lists.{at_place, mapped_place}
use Rattle.number_turns.specs.Recalled.{held_of, recalled, recalled_of, spelled}
use Rattle.number_turns.specs.declared.transition.Transition.{Transition}
use Rattle.number_lists.specs.Features.{lacks}
use Rattle.number_lists.proofs.Lacking.{any_at}
use Rattle.number_lists.proofs.features.is_lacked.Goals as goal

pub returns-then-lacks : goal.returns-then-lacks
returns-then-lacks c =
    let items = c.args.transitions.now in
    let i = c.loop-transition.transition-index in
    let b = c.transition-item.result in
    let at = at_place items i b c.loop-transition-test.true c.transition-item.is in
    let there = mapped_place recalled (held_of items) i b.now (mapped_place (λ (τ : Bor Transition). τ.now) items i b at) in
    sym (any_at (λ τ. lacks τ (spelled c.args.feature)) (recalled_of items) i (recalled b.now) there (sym c.if-lacks.ensures))
