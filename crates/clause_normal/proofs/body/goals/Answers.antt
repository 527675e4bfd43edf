use Rattle.std.proofs.Common.{◌≡◌, ◌<◌, ◌∙◌, ◌+◌, ◌++◌, ◌∷◌, [], ℕ, List, length, map, drop, get_or, refl, sym, ap, subst, append_assoc, length-append, arith}
use Rattle.std.specs.List.{AllByRecursion}
use Rattle.std.proofs.lemmas.List.{at_drop_more, drop_all}
use Rattle.clause_normal.specs.Bodies.{Goals, goals_row, joined, one_goal, more_goals}
use Rattle.clause_normal.specs.declared.goal.Goal.{Goal as CodeGoal}
use Rattle.clause_normal.specs.declared.outline.Piece.{Piece as CodePiece}
use Rattle.clause_variables.specs.Occurring.{AreNoted}
use Rattle.clause_normal.specs.Outlines.{Pieces, PiecesBelow, more_pieces, piece_goal, piece_own, pieces_own, pieces_goals, pieces_row}
use Rattle.clause_normal.specs.OutlineViews.{goal_of, goals_in, own_in, piece_of, GoalIsBelow}
use Rattle.clause_normal.proofs.BodyLemmas.{joined_assoc, joined_none}
use Rattle.clause_variables.proofs.ListLemmas.{all_push}
use Rattle.clause_normal.proofs.OutlineLemmas.{row_push}
use Rattle.clause_normal.proofs.body.goals.Goals as goal

abbrev plain : List CodePiece → Pieces
plain ps = pieces_row (map piece_of ps)

-- the pieces that are left
pieces_left : (ps : List CodePiece) (i : ℕ) (p : CodePiece) → i < length ps → p ≡ get_or ps i p → plain (drop i ps) ≡ more_pieces (piece_of p) (plain (drop (i + 1) ps))
pieces_left ps i p lt is = at_drop_more plain ps i p lt ∙ ap (λ (q : CodePiece). plain (q ∷ drop (i + 1) ps)) (sym is)

pub pieces-init : goal.pieces-init
pieces-init c = record { goals = λ args n k. ap (λ (gs : List CodeGoal). joined (goals_row (map goal_of gs)) (goals_in c.args.pieces.now (args ++ own_in c.args.pieces.now))) c.new-goals.ensures.items; done = subst (λ (gs : List CodeGoal). AllByRecursion (GoalIsBelow (length c.args.places.now.firsts.items)) gs) (sym c.new-goals.ensures.items) tt; below = c.requires.below; passed = ([], refl, omega arith) }

pub goal-requires-clause-room : goal.goal-requires-clause-room
goal-requires-clause-room c =
    let own = ap pieces_own (pieces_left c.args.pieces.now c.pieces.piece-index c.piece-item.result c.pieces-test.true c.piece-item.is) in
    let s = c.pieces.invariant.passed in
    let p = piece_of c.piece-item.result in
    let rest = own_in (drop (c.pieces.piece-index + 1) c.args.pieces.now) in
    omega (arith, c.requires.room, ap (λ (xs : List ℕ). length xs) (s.1 ∙ ap (λ (xs : List ℕ). s.0 ++ xs) own), length-append s.0 (piece_own p ++ rest), length-append (piece_own p) rest, s.2)

pub goal-requires-clause-below : goal.goal-requires-clause-below
goal-requires-clause-below c =
    let left = pieces_left c.args.pieces.now c.pieces.piece-index c.piece-item.result c.pieces-test.true c.piece-item.is in
    (subst (PiecesBelow (length c.args.places.now.firsts.items)) left c.pieces.invariant.below).0

pub overflow_add-start : goal.overflow_add-start
overflow_add-start c =
    let own = ap pieces_own (pieces_left c.args.pieces.now c.pieces.piece-index c.piece-item.result c.pieces-test.true c.piece-item.is) in
    let s = c.pieces.invariant.passed in
    let p = piece_of c.piece-item.result in
    let rest = own_in (drop (c.pieces.piece-index + 1) c.args.pieces.now) in
    omega (arith, c.requires.room, ap (λ (xs : List ℕ). length xs) (s.1 ∙ ap (λ (xs : List ℕ). s.0 ++ xs) own), length-append s.0 (piece_own p ++ rest), length-append (piece_own p) rest, s.2, ap (λ (xs : List ℕ). length xs) c.own.ensures)

pub pieces-preserved : goal.pieces-preserved
pieces-preserved c =
    let vars = length c.args.places.now.firsts.items in
    let ps = c.args.pieces.now in
    let i = c.pieces.piece-index in
    let p = c.piece-item.result in
    let q = piece_of p in
    let g = c.in_ok-goal.goal in
    let gs = c.pieces.goals.items in
    let inv = c.pieces.invariant in
    let s = inv.passed in
    let row : List CodeGoal → Goals = λ gs. goals_row (map goal_of gs) in
    let after = drop (i + 1) ps in
    let left = pieces_left ps i p c.pieces-test.true c.piece-item.is in
    let own : own_in ps ≡ s.0 ++ (piece_own q ++ own_in after) = s.1 ∙ ap (λ (qs : Pieces). s.0 ++ pieces_own qs) left in
    record {
      goals = λ args n k.
          let all = args ++ own_in ps in
          let same : all ≡ (args ++ s.0) ++ (piece_own q ++ own_in after) = ap (λ (xs : List ℕ). args ++ xs) own ∙ sym (append_assoc args s.0 (piece_own q ++ own_in after)) in
          let N : List ℕ → Type 0 = λ xs. AreNoted xs c.args.places.now in
          let made = c.in_ok-goal.ensures.goal (args ++ s.0) (own_in after) (omega (arith, length-append args s.0, n, s.2)) (subst N same k) ∙ ap (piece_goal q) (sym same) in
          ap (λ (gs : List CodeGoal). joined (row gs) (goals_in after all)) c.in_ok-push.ensures.items
          ∙ ap (λ (hs : Goals). joined hs (goals_in after all)) (row_push gs g)
          ∙ joined_assoc (row gs) (one_goal (goal_of g)) (goals_in after all)
          ∙ ap (λ h. joined (row gs) (more_goals h (goals_in after all))) made
          ∙ ap (λ (qs : Pieces). joined (row gs) (pieces_goals qs all)) (sym left)
          ∙ inv.goals args n k;
      done = all_push (GoalIsBelow vars) gs c.push.new.self.items g c.in_ok-push.ensures.items inv.done c.in_ok-goal.ensures.below;
      below = (subst (PiecesBelow vars) left inv.below).1;
      passed = (s.0 ++ piece_own q, own ∙ sym (append_assoc s.0 (piece_own q) (own_in after)), omega (arith, length-append s.0 (piece_own q), s.2, ap (λ (xs : List ℕ). length xs) c.own.ensures));
    }

pub returns-clause-goals : goal.returns-clause-goals
returns-clause-goals c = λ args n k.
    let row = goals_row (map goal_of c.pieces.goals.items) in
    let all = args ++ own_in c.args.pieces.now in
    let none = drop_all c.pieces.piece-index c.args.pieces.now c.pieces-test.false in
    sym (joined_none row) ∙ ap (λ (ps : List CodePiece). joined row (goals_in ps all)) (sym none) ∙ c.pieces.invariant.goals args n k
