-- Private.
-- Bodies that are taken apart: the goals of each body, where the arguments of a disjunction's predicate are not known.
-- Nothing here has to be believed.
use Rattle.std.specs.Prelude.{ℕ, ◌<◌, List, [], ◌∷◌, ◌++◌}
use Rattle.std.specs.List.{AllByRecursion}
use Rattle.clause_normal.specs.Bodies.{Goal, Goals, Branches, no_goals, more_goals, no_branches, more_branches, arguments, choice_goal}

mutual
  -- a goal that is not a disjunction, and its variables; or a disjunction by its place, its variables and its branches
  pub data Piece : Type 0 where
    plain : Goal → List ℕ → Piece
    either : ℕ → List ℕ → Outlines → Piece

  -- a list of goals
  pub data Pieces : Type 0 where
    no_pieces : Pieces
    more_pieces : Piece → Pieces → Pieces

  -- a list of bodies
  pub data Outlines : Type 0 where
    no_outlines : Outlines
    more_outlines : Pieces → Outlines → Outlines

-- lists
abbrev pub pieces_row : List Piece → Pieces
pieces_row [] = no_pieces
pieces_row (p ∷ ps) = more_pieces p (pieces_row ps)

abbrev pub outlines_row : List Pieces → Outlines
outlines_row [] = no_outlines
outlines_row (o ∷ os) = more_outlines o (outlines_row os)

-- the variables of goals
abbrev pub piece_own : Piece → List ℕ
piece_own (plain g own) = own
piece_own (either at own os) = own

abbrev pub pieces_own : Pieces → List ℕ
pieces_own no_pieces = []
pieces_own (more_pieces p ps) = piece_own p ++ pieces_own ps

abbrev mutual
  -- the goal in a clause with these variables
  pub piece_goal : Piece → List ℕ → Goal
  piece_goal (plain g own) all = g
  piece_goal (either at own os) all = choice_goal at (arguments all own) (outlines_branches os)

  pub pieces_goals : Pieces → List ℕ → Goals
  pieces_goals no_pieces all = no_goals
  pieces_goals (more_pieces p ps) all = more_goals (piece_goal p all) (pieces_goals ps all)

  -- bodies as the branches of a disjunction whose predicate has these arguments
  pub outlines_branches : Outlines → List ℕ → Branches
  outlines_branches no_outlines args = no_branches
  outlines_branches (more_outlines ps os) args = more_branches (pieces_goals ps (args ++ pieces_own ps)) (outlines_branches os args)

abbrev mutual
  -- each variable has a number below this
  pub PieceBelow : ℕ → Piece → Type 0
  PieceBelow vars (plain g own) = AllByRecursion (λ (x : ℕ). x < vars) own
  PieceBelow vars (either at own os) = AllByRecursion (λ (x : ℕ). x < vars) own × OutlinesBelow vars os

  pub PiecesBelow : ℕ → Pieces → Type 0
  PiecesBelow vars no_pieces = Unit {0}
  PiecesBelow vars (more_pieces p ps) = PieceBelow vars p × PiecesBelow vars ps

  pub OutlinesBelow : ℕ → Outlines → Type 0
  OutlinesBelow vars no_outlines = Unit {0}
  OutlinesBelow vars (more_outlines ps os) = PiecesBelow vars ps × OutlinesBelow vars os
