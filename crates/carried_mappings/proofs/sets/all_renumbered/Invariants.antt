use Rattle.std.proofs.Common.{◌≡◌, map, take}
use Rattle.carried_mappings.specs.Reordered.{renumbered}
use Rattle.carried_mappings.proofs.sets.all_renumbered.Given as goal

abbrev pub invariant-loop-set : goal.invariant-loop-set
invariant-loop-set l = l.now ≡ map (renumbered l.numbers) (take l.set-index l.sets)
