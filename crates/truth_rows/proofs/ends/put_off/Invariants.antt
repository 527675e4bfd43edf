use Rattle.std.proofs.Common.{◌≡◌, ◌<◌, ℕ, Contains, length}
use Rattle.term_size.specs.Members.{members}
use Rattle.truth_rows.specs.Ends.{IsAsked}
use Rattle.truth_rows.proofs.ends.put_off.Given as goal

abbrev pub invariant-loop-x : goal.invariant-loop-x
invariant-loop-x g l =
    record {
      each : length l.ends ≡ length l.fn.ends;
      more : (n y : ℕ) → IsAsked l.fn.ends n y → IsAsked l.ends n y;
      done : (n y : ℕ) → n < l.end → y < l.x → Contains (members l.listed) y → IsAsked l.ends n y;
    }
