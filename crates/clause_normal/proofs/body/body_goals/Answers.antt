use Rattle.std.proofs.Common.{◌<◌, ◌∙◌, ℕ, List, length, map, sym, ap, subst}
use Rattle.std.specs.List.{AllByRecursion}
use Rattle.clause_normal.specs.declared.outline.Piece.{Piece as CodePiece}
use Rattle.clause_normal.specs.Outlines.{PiecesBelow, pieces_row}
use Rattle.clause_normal.specs.OutlineViews.{own_in, piece_of, GoalIsBelow}
use Rattle.clause_variables.proofs.ListLemmas.{all_append}
use Rattle.clause_normal.proofs.OutlineLemmas.{all_own_below, outline_parts}
use Rattle.clause_normal.proofs.body.body_goals.Goals as goal

pub note-requires-clause-below : goal.note-requires-clause-below
note-requires-clause-below c =
    let vars = length c.args.places.now.firsts.items in
    let P : ℕ → Type 0 = λ x. x < vars in
    let A : List ℕ → Type 0 = λ xs. AllByRecursion P xs in
    let ps = c.deref.result.now in
    let below = subst (PiecesBelow vars) (outline_parts c.args.body.now ∙ ap (λ (ps : List CodePiece). pieces_row (map piece_of ps)) (sym c.deref.ensures.value)) c.requires.body in
    subst A (sym (c.deref-2.ensures.value ∙ c.in_ok-all.ensures)) (all_append P c.args.args.now (own_in ps) c.requires.args (all_own_below vars ps below))

pub returns-clause-below : goal.returns-clause-below
returns-clause-below c =
    let Q : ℕ → Type 0 = λ n. AllByRecursion (GoalIsBelow n) c.in_ok-goals.goals.items in
    subst Q c.note.ensures.size.firsts c.in_ok-goals.ensures.below
