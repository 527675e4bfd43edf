use Rattle.std.proofs.Common.{◌≤◌, ◌≤ℤ◌, ◌++◌, List, All, drop, length, pos}
use Rattle.level_systems.specs.Falling.{AreFallsOf, ShowFalls}
use Rattle.level_systems.specs.Recalled.{count_of}
use Rattle.level_systems.specs.declared.fall.Fall.{Fall}
use Rattle.level_dual.proofs.falling.falls_of.Given as goal

abbrev pub invariant-loop-own : goal.invariant-loop-own
invariant-loop-own l =
    record {
      room : count_of (drop l.own-index l.calls) ≤ length l.values;
      naturals : All (λ x. pos 0 ≤ℤ x) l.values;
      shown : ShowFalls l.measures (drop l.own-index l.calls) l.values → ShowFalls l.measures l.calls l.fn.values;
      rest : ShowFalls l.measures l.calls l.fn.values → ShowFalls l.measures (drop l.own-index l.calls) l.values;
      falls : (fs : List Fall) → AreFallsOf (drop l.own-index l.calls) l.values fs → AreFallsOf l.calls l.fn.values (l.falls ++ fs);
    }
