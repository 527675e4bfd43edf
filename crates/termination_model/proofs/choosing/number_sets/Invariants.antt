use Rattle.std.proofs.Common.{◌≡◌, []}
use Rattle.termination_model.proofs.ChosenLists.{sets_below}
use Rattle.termination_model.proofs.choosing.number_sets.Given as goal

abbrev pub invariant-loop-count : goal.invariant-loop-count
invariant-loop-count l =
    record {
      sets : l.sets ≡ sets_below l.last l.count;
      numbers : l.numbers.items ≡ [];
    }
