use Rattle.std.proofs.Common.{◌≡◌, take}
use Rattle.cert_assembly.specs.Spelled.{mode_lists}
use Rattle.cert_assembly.proofs.sets.mode_lists.Given as goal

abbrev pub invariant-loop-own : goal.invariant-loop-own
invariant-loop-own l = l.lists ≡ mode_lists (take l.own-index l.modes)
