use Rattle.std.proofs.Common.{◌≡◌, take, false}
use Rattle.std.specs.List.{list_any}
use Rattle.number_lists.specs.Features.{lacks}
use Rattle.number_turns.specs.Recalled.{recalled_of, spelled}
use Rattle.number_lists.proofs.features.is_lacked.Given as goal

abbrev pub invariant-loop-transition : goal.invariant-loop-transition
invariant-loop-transition l = list_any (λ τ. lacks τ (spelled l.feature)) (recalled_of (take l.transition-index l.transitions)) ≡ false
