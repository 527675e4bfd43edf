use Rattle.std.proofs.Common.{◌⊎◌, ◌≤◌, ◌≤ℤ◌, ◌++◌, Bool, List, All, drop, length, pos}
use Rattle.level_systems.specs.Turned.{all_rows, held_of}
use Rattle.lex_turns.specs.Testing.{ShowDrops, SomeFalls}
use Rattle.lex_turns.proofs.dropping.drops_of.Given as goal

abbrev pub invariant-loop-own : goal.invariant-loop-own
invariant-loop-own l =
    record {
      room : all_rows (held_of (drop l.own-index l.rest)) ≤ length l.values;
      naturals : All (λ x. pos 0 ≤ℤ x) l.values;
      shown : (gs : List Bool) → ShowDrops l.measures (held_of (drop l.own-index l.rest)) l.values gs → ShowDrops l.measures (held_of l.rest) l.fn.values (l.falls ++ gs);
      only : (gs : List Bool) → ShowDrops l.measures (held_of l.rest) l.fn.values gs
          → (hs : List Bool) × ShowDrops l.measures (held_of (drop l.own-index l.rest)) l.values hs × (SomeFalls gs → SomeFalls l.falls ⊎ SomeFalls hs);
    }
