use Rattle.std.proofs.Common.{◌≡◌, map, take, false}
use Rattle.level_systems.specs.Held.{spelled}
use Rattle.level_systems.specs.Mappings.{mapping_with}
use Rattle.lex_turns.specs.FoundLists.{is_used}
use Rattle.lex_turns.proofs.large.is_used.Given as goal

-- not by the mappings so far
abbrev pub invariant-loop-measures : goal.invariant-loop-measures
invariant-loop-measures l = is_used (spelled l.position) (map mapping_with (take l.measures-index l.measures-items)) ≡ false
