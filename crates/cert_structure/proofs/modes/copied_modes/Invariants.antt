use Rattle.std.proofs.Common.{◌≡◌, take}
use Rattle.cert_structure.proofs.modes.copied_modes.Given as goal

-- the modes so far are copied
abbrev pub invariant-loop-mode : goal.invariant-loop-mode
invariant-loop-mode l = l.copy ≡ take l.mode-index l.modes
