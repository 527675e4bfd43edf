use Rattle.std.proofs.Common.{◌≡◌, List, map, take}
use Rattle.std.specs.List.{AllByRecursion}
use Rattle.transitions.specs.StuckSets.{Feature}
use Rattle.transitions.specs.Turns.{targets}
use Rattle.number_turns.specs.Demanding.{HasItsNumbers, target_of}
use Rattle.number_turns.specs.Recalled.{recalled_of}
use Rattle.number_turns.proofs.demand.demands_of.Given as goal

abbrev pub invariant-loop-i : goal.invariant-loop-i
invariant-loop-i l =
    record {
      targets : (fs : List Feature) → map (target_of fs) l.demands.items ≡ targets fs (recalled_of (take l.i l.transitions)) l.marks;
      numbers : AllByRecursion HasItsNumbers l.demands.items;
    }
