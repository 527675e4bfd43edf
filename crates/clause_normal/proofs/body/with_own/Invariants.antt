use Rattle.std.proofs.Common.{◌≡◌, ◌++◌, drop}
use Rattle.clause_normal.specs.OutlineViews.{own_in}
use Rattle.clause_normal.proofs.body.with_own.Given as goal

abbrev pub invariant-pieces : goal.invariant-pieces
invariant-pieces l = l.all.items ++ own_in (drop l.piece-index l.pieces) ≡ l.args ++ own_in l.pieces
