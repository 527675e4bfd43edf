use Rattle.std.proofs.Common.{◌≡◌, ◌+◌, ◌*◌, ◌≤◌, drop, length, map}
use Rattle.call_components.specs.Numbers.{number_of}
use Rattle.termination_model.specs.mappings.Ready.{arity_in, positions_by}
use Rattle.report.proofs.support_notes.positions_count.Given as goal

abbrev pub invariant-loop-member : goal.invariant-loop-member
invariant-loop-member l =
    (l.count + length (positions_by (arity_in l.p) (map number_of (drop l.member-index l.members))) ≡ length (positions_by (arity_in l.p) (map number_of l.members)))
    × (l.count ≤ 4294967295 * l.member-index)
