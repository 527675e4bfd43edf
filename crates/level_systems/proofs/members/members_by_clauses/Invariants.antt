use Rattle.std.proofs.Common.{◌≡◌, [], map, take}
use Rattle.call_components.specs.Numbers.{number_of}
use Rattle.component_clauses.specs.Numbered.{with_clauses}
use Rattle.level_systems.proofs.OwnPairs.{members_in}
use Rattle.level_systems.proofs.members.members_by_clauses.Given as goal

abbrev pub invariant-loop-k : goal.invariant-loop-k
invariant-loop-k l = map number_of l.members.items ≡ members_in l.own.comps.now l.own.number [] (with_clauses l.own.program.now.clauses (take l.k-index l.own.clauses.now))
