use Rattle.std.proofs.Common.{◌≡◌, ◌++◌, drop, filter, map}
use Rattle.std.specs.List.{list_any}
use Rattle.level_systems.specs.Held.{spelled}
use Rattle.termination_model.specs.mappings.BlownSupports.{same_position}
use Rattle.level_systems.proofs.picking.in_order.Given as goal

abbrev pub invariant-loop-position : goal.invariant-loop-position
invariant-loop-position l =
    map spelled l.at.items ++ filter (λ r. list_any (same_position r) (map spelled l.picked)) (map spelled (drop l.position-index l.order)) ≡ filter (λ r. list_any (same_position r) (map spelled l.picked)) (map spelled l.order)
