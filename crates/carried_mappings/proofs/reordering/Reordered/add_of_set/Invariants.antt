use Rattle.std.proofs.Common.{◌≡◌, ◌++◌, drop, map}
use Rattle.carried_mappings.specs.Reordered.{of_set}
use Rattle.carried_mappings.specs.Reorderings.{mapping_now, set_now}
use Rattle.carried_mappings.proofs.reordering.Reordered.add_of_set.Given as goal

-- those so far, and those of the rest
abbrev pub invariant-loop-i : goal.invariant-loop-i
invariant-loop-i l =
    l.to ++ map (mapping_now l.self) (of_set (set_now l.self) (drop l.i l.mappings) l.set) ≡ l.fn.to ++ map (mapping_now l.self) (of_set (set_now l.self) l.mappings l.set)
