use Rattle.std.proofs.Common.{◌≡◌, ◌<◌, ℕ, None}
use Rattle.cert_modes.specs.Marks.{mark_at}
use Rattle.cert_modes.proofs.marks.Marks.first.Given as goal

-- no mark so far
abbrev pub invariant-loop-pred : goal.invariant-loop-pred
invariant-loop-pred l = (i : ℕ) → i < l.pred → mark_at l.self i ≡ None
