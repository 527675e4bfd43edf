-- Private.
-- What bodies of the code that are taken apart stand for. Nothing here has to be believed.
use Rattle.std.specs.Prelude.{ℕ, ◌<◌, List, ◌++◌, map}
use Rattle.std.specs.List.{AllByRecursion}
use Rattle.clause_normal.specs.declared.outline.Piece.{Piece as CodePiece}
use Rattle.clause_normal.specs.declared.outline.Piece.TheOpen as layer
use Rattle.clause_normal.specs.declared.outline.Piece.TheFolds as folds
use Rattle.clause_normal.specs.declared.outline.Outline.{Outline as CodeOutline}
use Rattle.clause_normal.specs.declared.goal.Goal.{Goal as CodeGoal}
use Rattle.clause_normal.specs.declared.goal.Goal.TheVariants as code
use Rattle.clause_normal.specs.Bodies.{Goal, Goals, Branches, choice}
use Rattle.clause_normal.specs.Outlines.{Piece, Pieces, plain, either, pieces_row, outlines_row, pieces_own, pieces_goals, outlines_branches, PieceBelow, PiecesBelow, OutlinesBelow}
use Rattle.clause_normal.specs.Views.{item_goal}

abbrev pub piece_step : layer.Piece-F Piece Pieces → Piece
piece_step (layer.Plain i own) = plain (item_goal i) own.now
piece_step (layer.Either at own os) = either at own.now (outlines_row os.items)

abbrev pub outline_step : layer.Outline-F Piece Pieces → Pieces
outline_step r = pieces_row r.pieces.items

-- the plain goal, and the plain body
abbrev pub piece_of : CodePiece → Piece
piece_of = folds.fold-Piece Piece Pieces piece_step outline_step

abbrev pub outline_of : CodeOutline → Pieces
outline_of = folds.fold-Outline Piece Pieces piece_step outline_step

-- the goals of these in a clause with such variables
abbrev pub goals_in : List CodePiece → List ℕ → Goals
goals_in ps = pieces_goals (pieces_row (map piece_of ps))

-- the variables of these
abbrev pub own_in : List CodePiece → List ℕ
own_in ps = pieces_own (pieces_row (map piece_of ps))

-- the branches that they are of a disjunction whose predicate has such arguments
abbrev pub branches_in : List CodeOutline → List ℕ → Branches
branches_in os = outlines_branches (outlines_row (map outline_of os))

-- the goals of a body as the branch of such a disjunction
abbrev pub outline_goals : CodeOutline → List ℕ → Goals
outline_goals o args = pieces_goals (outline_of o) (args ++ pieces_own (outline_of o))

-- the goal with its arguments
abbrev pub goal_of : CodeGoal → Goal
goal_of (code.Item i) = item_goal i
goal_of (code.Choice args os) = choice args.items (branches_in os.now.items args.items)

-- each variable has a number below this
abbrev pub PieceIsBelow : ℕ → CodePiece → Type 0
PieceIsBelow vars p = PieceBelow vars (piece_of p)

abbrev pub PiecesAreBelow : ℕ → List CodePiece → Type 0
PiecesAreBelow vars ps = PiecesBelow vars (pieces_row (map piece_of ps))

abbrev pub OutlinesAreBelow : ℕ → List CodeOutline → Type 0
OutlinesAreBelow vars os = OutlinesBelow vars (outlines_row (map outline_of os))

abbrev pub OutlineIsBelow : ℕ → CodeOutline → Type 0
OutlineIsBelow vars o = PiecesBelow vars (outline_of o)

abbrev pub GoalIsBelow : ℕ → CodeGoal → Type 0
GoalIsBelow vars (code.Item i) = Unit {0}
GoalIsBelow vars (code.Choice args os) = AllByRecursion (λ (x : ℕ). x < vars) args.items × OutlinesAreBelow vars os.now.items
