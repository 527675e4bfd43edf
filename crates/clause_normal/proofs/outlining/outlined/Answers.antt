use Rattle.std.proofs.Common.{subst, sym}
use Rattle.clause_normal.specs.OutlineViews.{PiecesAreBelow}
use Rattle.clause_normal.proofs.OutlineLemmas.{made_below}
use Rattle.clause_normal.proofs.outlining.outlined.Goals as goal

pub returns-clause-below : goal.returns-clause-below
returns-clause-below c = λ vars a.
    made_below c.add_pieces.new.pieces vars (c.in_ok-add_pieces.ensures.below vars a (subst (PiecesAreBelow vars) (sym c.new-pieces.ensures.items) tt))
