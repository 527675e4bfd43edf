use Rattle.std.proofs.Common.{◌≡◌, ◌+◌, ◌++◌, ℕ, List, length, map, drop}
use Rattle.std.specs.List.{AllByRecursion}
use Rattle.clause_normal.specs.Bodies.{goals_row, joined}
use Rattle.clause_variables.specs.Occurring.{AreNoted}
use Rattle.clause_normal.specs.OutlineViews.{goal_of, goals_in, own_in, GoalIsBelow, PiecesAreBelow}
use Rattle.clause_normal.proofs.body.goals.Given as goal

abbrev pub invariant-pieces : goal.invariant-pieces
invariant-pieces l =
    let vars = length l.places.firsts.items in
    let left = drop l.piece-index l.pieces in
    record {
      goals : (args : List ℕ) → length args ≡ l.first → AreNoted (args ++ own_in l.pieces) l.places
          → joined (goals_row (map goal_of l.goals.items)) (goals_in left (args ++ own_in l.pieces)) ≡ goals_in l.pieces (args ++ own_in l.pieces);
      done : AllByRecursion (GoalIsBelow vars) l.goals.items;
      below : PiecesAreBelow vars left;
      passed : (xs : List ℕ) × (own_in l.pieces ≡ xs ++ own_in left) × (l.start ≡ l.first + length xs);
    }
