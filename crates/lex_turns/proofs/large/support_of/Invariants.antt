use Rattle.std.proofs.Common.{◌≡◌, ◌++◌, ◌+◌, map, drop}
use Rattle.level_systems.specs.Held.{spelled}
use Rattle.lex_turns.specs.FoundLists.{list_support_from, mappings_of, support_of_list}
use Rattle.lex_turns.proofs.large.support_of.Given as goal

-- those so far, and those of the rest
abbrev pub invariant-loop-i : goal.invariant-loop-i
invariant-loop-i l = l.support.items ++ list_support_from (l.i + 1) (map spelled (drop l.i l.positions)) (mappings_of l.list) ≡ support_of_list (map spelled l.positions) l.list
