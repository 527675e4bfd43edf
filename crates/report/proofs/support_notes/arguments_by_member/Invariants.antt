use Rattle.std.proofs.Common.{◌≡◌, ◌+◌, ◌*◌, ◌≤◌, ◌++◌, drop, map}
use Rattle.call_components.specs.Numbers.{number_of}
use Rattle.report.specs.SupportNotes.{arguments_by_member}
use Rattle.report.proofs.support_notes.arguments_by_member.Given as goal

-- the members so far have their lists, and those of the others are to come
abbrev pub invariant-loop-member : goal.invariant-loop-member
invariant-loop-member l =
    (l.support ++ arguments_by_member l.p l.set l.first (map number_of (drop l.member-index l.members)) ≡ arguments_by_member l.p l.set 1 (map number_of l.members))
    × (l.first ≤ 1 + 4294967295 * l.member-index)
