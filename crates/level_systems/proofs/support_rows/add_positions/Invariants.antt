use Rattle.std.proofs.Common.{◌≡◌, ◌-ℤ◌, ◌++◌, map, take}
use Rattle.linear_rows.specs.Plain.{plain_rows}
use Rattle.level_systems.specs.Held.{spelled}
use Rattle.termination_model.specs.mappings.SupportSystem.{share}
use Rattle.level_systems.proofs.support_rows.add_positions.Given as goal

abbrev pub invariant-loop-position : goal.invariant-loop-position
invariant-loop-position l = l.row.items ≡ l.fn.row.items ++ map (λ p. share l.own.caller.0 (plain_rows l.own.caller_sizes.list) l.x (spelled p) -ℤ share l.own.callee.0 (plain_rows l.own.callee_sizes.list) l.x (spelled p)) (take l.position-index l.positions)
