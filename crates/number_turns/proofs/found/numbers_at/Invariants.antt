use Rattle.std.proofs.Common.{◌≡◌, ℕ, true, List, drop, map, pos, take}
use Rattle.linear_rows.specs.Replacing.{row_fits}
use Rattle.transitions.specs.Templates.{differences}
use Rattle.number_turns.proofs.found.numbers_at.Given as goal

abbrev pub invariant-loop-i : goal.invariant-loop-i
invariant-loop-i l =
    record {
      numbers : (vs : List ℕ) → l.w ≡ map pos vs → l.numbers ≡ differences (take l.i vs) (take l.i (drop l.count vs));
      fit : row_fits l.numbers ≡ true;
    }
