-- Lemmas on bodies that are taken apart.
use Rattle.std.proofs.Common.{◌≡◌, ℕ, ◌<◌, List, [], ◌∷◌, ◌++◌, map, refl, ap, sym, subst, ◌∙◌, append_assoc, append-nil, Vec, Global, Bor, Result, Ok, Err, OnOk}
use Rattle.std.specs.List.{AllByRecursion}
use Rattle.clause_normal.specs.declared.part.Item.{Item}
use Rattle.clause_normal.specs.declared.goal.Goal.{Goal as CodeGoal}
use Rattle.clause_normal.specs.declared.outline.Outline.{Outline as CodeOutline, fold_out-Outline, fold-roll-Outline, out-Outline, roll-Outline}
use Rattle.clause_normal.specs.declared.outline.Piece.{Piece as CodePiece, fold-roll-Piece}
use Rattle.clause_normal.specs.declared.outline.Piece.TheVariants.{Plain, Either, rolls-Plain, rolls-Either}
use Rattle.clause_normal.specs.declared.outline.Piece.TheOpen as layer
use Rattle.clause_normal.specs.Bodies.{Branches, more_goals, one_goal, joined, more_branches, one_branch, joined_branches, arguments, choice_goal, goals_row}
use Rattle.clause_normal.specs.Outlines.{Piece, Pieces, plain, either, pieces_row, outlines_row, piece_own, pieces_own, piece_goal, pieces_goals, PieceBelow, PiecesBelow}
use Rattle.clause_normal.specs.OutlineViews.{piece_step, outline_step, piece_of, outline_of, goal_of, goals_in, own_in, branches_in, outline_goals, PieceIsBelow, PiecesAreBelow, OutlinesAreBelow, OutlineIsBelow}
use Rattle.clause_normal.specs.Views.{item_goal}
use Rattle.clause_variables.proofs.ListLemmas.{all_append}

-- each piece of the code as a plain one
pub piece_plain : (i : Item) (own : Bor (List ℕ)) → piece_of (Plain i own) ≡ plain (item_goal i) own.now
piece_plain i own = ap piece_of (sym (rolls-Plain i own)) ∙ fold-roll-Piece Piece Pieces piece_step outline_step (layer.Plain i own)

pub piece_either : (at : ℕ) (own : Bor (List ℕ)) (os : Vec CodeOutline Global) → piece_of (Either at own os) ≡ either at own.now (outlines_row (map outline_of os.items))
piece_either at own os = ap piece_of (sym (rolls-Either at own os)) ∙ fold-roll-Piece Piece Pieces piece_step outline_step (layer.Either at own os)

-- a body of the code as a plain one
pub outline_parts : (o : CodeOutline) → outline_of o ≡ pieces_row (map piece_of (out-Outline o).pieces.items)
outline_parts o = fold_out-Outline Piece Pieces piece_step outline_step o

-- a body that is made
module _ (ps : Vec CodePiece Global) where
  abbrev made : CodeOutline
  made = roll-Outline (record { pieces = ps })

  made_parts : outline_of made ≡ pieces_row (map piece_of ps.items)
  made_parts = fold-roll-Outline Piece Pieces piece_step outline_step (record { pieces = ps })

  pub made_goals : (args : List ℕ) → outline_goals made args ≡ goals_in ps.items (args ++ own_in ps.items)
  made_goals args = ap (λ (o : Pieces). pieces_goals o (args ++ pieces_own o)) made_parts

  pub made_below : (vars : ℕ) → PiecesAreBelow vars ps.items → OutlineIsBelow vars made
  made_below vars h = subst (PiecesBelow vars) (sym made_parts) h

-- a disjunction that is made
module _ (at : ℕ) (own : Bor (List ℕ)) (os : Vec CodeOutline Global) where
  pub either_goal : (own' : List ℕ) (branches : List ℕ → Branches) (all : List ℕ) → own.now ≡ own' → ((args : List ℕ) → branches_in os.items args ≡ branches args)
      → piece_goal (piece_of (Either at own os)) all ≡ choice_goal at (arguments all own') branches
  either_goal own' branches all e h = ap (λ (p : Piece). piece_goal p all) (piece_either at own os) ∙ (λ i. choice_goal at (arguments all (e i)) (λ args. h args i))

  pub either_own : piece_own (piece_of (Either at own os)) ≡ own.now
  either_own = ap piece_own (piece_either at own os)

  pub either_below : (vars : ℕ) → AllByRecursion (λ (x : ℕ). x < vars) own.now → OutlinesAreBelow vars os.items → PieceIsBelow vars (Either at own os)
  either_below vars h k = subst (PieceBelow vars) (sym (piece_either at own os)) (h, k)

-- another goal that is made
module _ (i : Item) (own : Bor (List ℕ)) where
  pub plain_goal : (all : List ℕ) → piece_goal (piece_of (Plain i own)) all ≡ item_goal i
  plain_goal all = ap (λ (p : Piece). piece_goal p all) (piece_plain i own)

  pub plain_own : piece_own (piece_of (Plain i own)) ≡ own.now
  plain_own = ap piece_own (piece_plain i own)

  pub plain_below : (vars : ℕ) → AllByRecursion (λ (x : ℕ). x < vars) own.now → PieceIsBelow vars (Plain i own)
  plain_below vars h = subst (PieceBelow vars) (sym (piece_plain i own)) h

-- what an answer brings brings more
pub on_ok : {X E : Type 0} (r : Result X E) (P Q : Type 0) → (P → Q) → OnOk r P → OnOk r Q
on_ok (Ok x) P Q f h = f h
on_ok (Err e) P Q f h = tt

-- one piece more
pub goals_push : (ps : List CodePiece) (p : CodePiece) (all : List ℕ) → goals_in (ps ++ p ∷ []) all ≡ joined (goals_in ps all) (one_goal (piece_goal (piece_of p) all))
goals_push [] p all = refl
goals_push (q ∷ ps) p all = ap (more_goals (piece_goal (piece_of q) all)) (goals_push ps p all)

pub own_push : (ps : List CodePiece) (p : CodePiece) → own_in (ps ++ p ∷ []) ≡ own_in ps ++ piece_own (piece_of p)
own_push [] p = append-nil (piece_own (piece_of p))
own_push (q ∷ ps) p = ap (λ (xs : List ℕ). piece_own (piece_of q) ++ xs) (own_push ps p) ∙ sym (append_assoc (piece_own (piece_of q)) (own_in ps) (piece_own (piece_of p)))

pub pieces_push : (vars : ℕ) (ps : List CodePiece) (p : CodePiece) → PiecesAreBelow vars ps → PieceIsBelow vars p → PiecesAreBelow vars (ps ++ p ∷ [])
pieces_push vars [] p h k = (k, tt)
pieces_push vars (q ∷ ps) p h k = (h.0, pieces_push vars ps p h.1 k)

-- the variables of pieces are below what the pieces are below
pub own_below : (vars : ℕ) (p : Piece) → PieceBelow vars p → AllByRecursion (λ (x : ℕ). x < vars) (piece_own p)
own_below vars (plain g own) h = h
own_below vars (either at own os) h = h.0

pub all_own_below : (vars : ℕ) (ps : List CodePiece) → PiecesAreBelow vars ps → AllByRecursion (λ (x : ℕ). x < vars) (own_in ps)
all_own_below vars [] h = tt
all_own_below vars (p ∷ ps) h = all_append (λ (x : ℕ). x < vars) (piece_own (piece_of p)) (own_in ps) (own_below vars (piece_of p) h.0) (all_own_below vars ps h.1)

-- one goal more in a row
pub row_push : (gs : List CodeGoal) (g : CodeGoal) → goals_row (map goal_of (gs ++ g ∷ [])) ≡ joined (goals_row (map goal_of gs)) (one_goal (goal_of g))
row_push [] g = refl
row_push (h ∷ gs) g = ap (more_goals (goal_of h)) (row_push gs g)

-- one body more
pub branches_push : (os : List CodeOutline) (o : CodeOutline) (args : List ℕ) → branches_in (os ++ o ∷ []) args ≡ joined_branches (branches_in os args) (one_branch (outline_goals o args))
branches_push [] o args = refl
branches_push (q ∷ os) o args = ap (more_branches (outline_goals q args)) (branches_push os o args)

pub outlines_push : (vars : ℕ) (os : List CodeOutline) (o : CodeOutline) → OutlinesAreBelow vars os → OutlineIsBelow vars o → OutlinesAreBelow vars (os ++ o ∷ [])
outlines_push vars [] o h k = (k, tt)
outlines_push vars (q ∷ os) o h k = (h.0, outlines_push vars os o h.1 k)
