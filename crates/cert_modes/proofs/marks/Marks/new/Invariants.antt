use Rattle.std.proofs.Common.{◌≡◌, ℕ, None, length}
use Rattle.cert_modes.specs.Marks.{mark_at}
use Rattle.cert_modes.proofs.marks.Marks.new.Given as goal

-- no marks so far
abbrev pub invariant-loop-pred : goal.invariant-loop-pred
invariant-loop-pred l =
    record {
      each : length l.reasons.items ≡ l._pred;
      clear : (q : ℕ) → mark_at l.reasons.items q ≡ None;
    }
