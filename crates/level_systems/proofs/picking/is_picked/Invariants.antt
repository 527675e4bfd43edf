use Rattle.std.proofs.Common.{◌≡◌, take, false}
use Rattle.std.specs.List.{list_any}
use Rattle.level_systems.specs.Held.{spelled}
use Rattle.termination_model.specs.mappings.BlownSupports.{same_position}
use Rattle.level_systems.proofs.picking.is_picked.Given as goal

abbrev pub invariant-loop-other : goal.invariant-loop-other
invariant-loop-other l = list_any (λ q. same_position (spelled l.position) (spelled q)) (take l.other-index l.picked) ≡ false
