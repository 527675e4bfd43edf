use Rattle.std.proofs.Common.{◌≡◌, ◌-ℤ◌, ◌++◌, map, take}
use Rattle.termination_model.specs.mappings.SupportSystem.{offset_share}
use Rattle.level_systems.proofs.support_rows.add_offsets.Given as goal

abbrev pub invariant-loop-member : goal.invariant-loop-member
invariant-loop-member l = l.row.items ≡ l.fn.row.items ++ map (λ m. offset_share l.own.caller.0 l.x m.0 -ℤ offset_share l.own.callee.0 l.x m.0) (take l.member-index l.members)
