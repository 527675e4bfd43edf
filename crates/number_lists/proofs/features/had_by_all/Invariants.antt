use Rattle.std.proofs.Common.{◌≡◌, filter, map, not, take}
use Rattle.std.specs.List.{list_any}
use Rattle.number_lists.specs.Features.{lacks}
use Rattle.number_turns.specs.Recalled.{recalled_of, spelled}
use Rattle.number_lists.proofs.features.had_by_all.Given as goal

abbrev pub invariant-loop-feature : goal.invariant-loop-feature
invariant-loop-feature l = map spelled l.had.items ≡ filter (λ f. not (list_any (λ τ. lacks τ f) (recalled_of l.transitions))) (map spelled (take l.feature-index l.features))
