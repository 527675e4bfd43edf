use Rattle.std.proofs.Common.{◌≡◌, ◌<◌, ◌++◌, ◌∙◌, ℕ, List, sym, ap, subst, append_assoc, append-nil, arith}
use Rattle.std.specs.List.{AllByRecursion}
use Rattle.std.proofs.lemmas.List.{append_cancel_left, append_cancel_right}
use Rattle.prolog_terms.specs.Terms.{tree_of}
use Rattle.clause_normal.specs.Bodies.{Goals, Branches, joined, joined_branches, one_goal, one_branch}
use Rattle.clause_normal.specs.declared.outline.Outline.{Outline, roll-Outline}
use Rattle.clause_normal.specs.declared.outline.Piece.{Piece}
use Rattle.clause_normal.specs.declared.outline.Piece.TheVariants.{Plain, Either}
use Rattle.clause_normal.specs.OutlineViews.{goals_in, own_in, branches_in, PiecesAreBelow, OutlinesAreBelow}
use Rattle.clause_variables.specs.Terms.{occurrences}
use Rattle.clause_normal.specs.Views.{goals_of, branches_of}
use Rattle.clause_normal.proofs.BodyLemmas.{branches_assoc, joined_assoc, joined_none, not_either, some_node}
use Rattle.clause_variables.proofs.ListLemmas.{all_back, all_front}
use Rattle.clause_normal.proofs.OutlineLemmas.{either_below, either_goal, either_own, own_push, plain_own, made_below, made_goals, on_ok, plain_below, plain_goal, branches_push, goals_push, outlines_push, pieces_push}
use Rattle.clause_normal.proofs.outlining.+outlining.Goals as goal

-- a disjunction
pub add_disjunction-add_outlines-requires-2 : goal.add_disjunction-add_outlines-requires-2
add_disjunction-add_outlines-requires-2 t c =
    let l = occurrences (tree_of c.args.left.now) in
    let r = occurrences (tree_of c.args.right.now) in
    let rest = c.requires.variables.0 in
    (omega (arith, some_node (tree_of c.args.left.now), c.decreases), (c.requires.right, (rest, append_cancel_left l c.in_ok-middle.middle.now (r ++ rest) (sym c.in_ok-middle.ensures.rest ∙ c.requires.variables.1))))

pub add_disjunction-before-requires : goal.add_disjunction-before-requires
add_disjunction-before-requires t c =
    let l = occurrences (tree_of c.args.left.now) in
    let r = occurrences (tree_of c.args.right.now) in
    (l ++ r, c.in_ok-middle.ensures.rest ∙ ap (λ (xs : List ℕ). l ++ xs) c.in_ok-rest.ensures.rest ∙ sym (append_assoc l r c.in_ok-rest.rest.now))

pub add_disjunction-returns-clause-goals : goal.add_disjunction-returns-clause-goals
add_disjunction-returns-clause-goals t c = λ all.
    let names = c.args.names.now in
    let l = occurrences (tree_of c.args.left.now) in
    let r = occurrences (tree_of c.args.right.now) in
    let rest = c.in_ok-rest.rest.now in
    let own = c.before-2.result in
    let os = c.add_outlines-2.new.outlines in
    let old = c.args.pieces.now.items in
    let sides : List ℕ → Branches = λ args. joined_branches (branches_of names c.args.left.now args) (branches_of names c.args.right.now args) in
    let all_are : c.args.variables.now ≡ (l ++ r) ++ rest = c.in_ok-middle.ensures.rest ∙ ap (λ (xs : List ℕ). l ++ xs) c.in_ok-rest.ensures.rest ∙ sym (append_assoc l r rest) in
    let own_is : own.now ≡ l ++ r = append_cancel_right own.now (l ++ r) rest (sym c.before-2.ensures ∙ all_are) in
    let middle : (args : List ℕ) → branches_in c.add_outlines.new.outlines.items args ≡ branches_of names c.args.left.now args =
    λ args. c.in_ok-middle.ensures.branches args ∙ ap (λ (os : List Outline). joined_branches (branches_in os args) (branches_of names c.args.left.now args)) c.new-branches.ensures.items in
    let both : (args : List ℕ) → branches_in os.items args ≡ sides args =
    λ args. c.in_ok-rest.ensures.branches args ∙ ap (λ (bs : Branches). joined_branches bs (branches_of names c.args.right.now args)) (middle args) in
    ap (λ (ps : List Piece). goals_in ps all) c.in_ok-push.ensures.items
    ∙ goals_push old (Either c.args.at own os) all
    ∙ ap (λ g. joined (goals_in old all) (one_goal g)) (either_goal c.args.at own os (l ++ r) sides all own_is both)

pub add_disjunction-returns-clause-own : goal.add_disjunction-returns-clause-own
add_disjunction-returns-clause-own t c =
    let l = occurrences (tree_of c.args.left.now) in
    let r = occurrences (tree_of c.args.right.now) in
    let rest = c.in_ok-rest.rest.now in
    let own = c.before-2.result in
    let os = c.add_outlines-2.new.outlines in
    let old = c.args.pieces.now.items in
    let all_are : c.args.variables.now ≡ (l ++ r) ++ rest = c.in_ok-middle.ensures.rest ∙ ap (λ (xs : List ℕ). l ++ xs) c.in_ok-rest.ensures.rest ∙ sym (append_assoc l r rest) in
    ap own_in c.in_ok-push.ensures.items ∙ own_push old (Either c.args.at own os)
    ∙ ap (λ (xs : List ℕ). own_in old ++ xs) (either_own c.args.at own os ∙ append_cancel_right own.now (l ++ r) rest (sym c.before-2.ensures ∙ all_are))

pub add_disjunction-returns-clause-below : goal.add_disjunction-returns-clause-below
add_disjunction-returns-clause-below t c = λ vars a h.
    let P : ℕ → Type 0 = λ x. x < vars in
    let A : List ℕ → Type 0 = λ xs. AllByRecursion P xs in
    let own = c.before-2.result in
    let os = c.add_outlines-2.new.outlines in
    let old = c.args.pieces.now.items in
    let O : List Outline → Type 0 = λ os. OutlinesAreBelow vars os in
    let l = occurrences (tree_of c.args.left.now) in
    let middle = all_back P l c.in_ok-middle.middle.now (subst A c.in_ok-middle.ensures.rest a) in
    let below = c.in_ok-rest.ensures.below vars middle (c.in_ok-middle.ensures.below vars a (subst O (sym c.new-branches.ensures.items) tt)) in
    let front = all_front P own.now c.in_ok-rest.rest.now (subst A c.before-2.ensures a) in
    subst (PiecesAreBelow vars) (sym c.in_ok-push.ensures.items) (pieces_push vars old (Either c.args.at own os) h (either_below c.args.at own os vars front below))

-- branches
pub add_outlines-add_outlines-requires : goal.add_outlines-add_outlines-requires
add_outlines-add_outlines-requires t c =
    let l = occurrences (tree_of c.in-Either.left.now) in
    let r = occurrences (tree_of c.in-Either.right.now) in
    let rest = c.requires.variables.0 in (
      omega (arith, c.decreases, c.in-Either.ensures.smaller),
      (
        c.in-Either.ensures.fit.0,
        (r ++ rest, c.requires.variables.1 ∙ ap (λ (xs : List ℕ). xs ++ rest) c.in-Either.ensures.own ∙ append_assoc l r rest),
      ),
    )

pub add_outlines-add_outlines-requires-in-Either : goal.add_outlines-add_outlines-requires-in-Either
add_outlines-add_outlines-requires-in-Either t c =
    let l = occurrences (tree_of c.in-Either.left.now) in
    let r = occurrences (tree_of c.in-Either.right.now) in
    let rest = c.requires.variables.0 in
    let all : c.args.variables.now ≡ l ++ (r ++ rest) = c.requires.variables.1 ∙ ap (λ (xs : List ℕ). xs ++ rest) c.in-Either.ensures.own ∙ append_assoc l r rest in
    (omega (arith, c.decreases, c.in-Either.ensures.smaller), (c.in-Either.ensures.fit.1, (rest, append_cancel_left l c.in_ok-rest.rest.now (r ++ rest) (sym c.in_ok-rest.ensures.rest ∙ all))))

pub add_outlines-returns-in_ok-rest-clause-branches : goal.add_outlines-returns-in_ok-rest-clause-branches
add_outlines-returns-in_ok-rest-clause-branches t c =
    let names = c.args.names.now in
    let old = c.args.outlines.now.items in
    let last = c.add_outlines-in-Either.new.outlines.items in
    let middle = c.add_outlines.new.outlines.items in
    let L : List ℕ → Branches = branches_of names c.in-Either.left.now in
    let R : List ℕ → Branches = branches_of names c.in-Either.right.now in
    on_ok c.add_outlines-in-Either.result ((args : List ℕ) → branches_in last args ≡ joined_branches (branches_in middle args) (R args))
    ((args : List ℕ) → branches_in last args ≡ joined_branches (branches_in old args) (branches_of names c.args.body.now args))
    (λ h args. h args ∙ ap (λ (bs : Branches). joined_branches bs (R args)) (c.in_ok-rest.ensures.branches args)
    ∙ branches_assoc (branches_in old args) (L args) (R args) ∙ ap (joined_branches (branches_in old args)) (sym (c.in-Either.ensures.part.1 args)))
    c.add_outlines-in-Either.ensures.branches

pub add_outlines-returns-in_ok-rest-clause-below : goal.add_outlines-returns-in_ok-rest-clause-below
add_outlines-returns-in_ok-rest-clause-below t c =
    let old = c.args.outlines.now.items in
    let last = c.add_outlines-in-Either.new.outlines.items in
    let middle = c.add_outlines.new.outlines.items in
    let l = occurrences (tree_of c.in-Either.left.now) in
    on_ok c.add_outlines-in-Either.result ((vars : ℕ) → AllByRecursion (λ (x : ℕ). x < vars) c.in_ok-rest.rest.now → OutlinesAreBelow vars middle → OutlinesAreBelow vars last)
    ((vars : ℕ) → AllByRecursion (λ (x : ℕ). x < vars) c.args.variables.now → OutlinesAreBelow vars old → OutlinesAreBelow vars last)
    (λ h vars a k.
    let P : ℕ → Type 0 = λ x. x < vars in
    let A : List ℕ → Type 0 = λ xs. AllByRecursion P xs in
    h vars (all_back P l c.in_ok-rest.rest.now (subst A c.in_ok-rest.ensures.rest a)) (c.in_ok-rest.ensures.below vars a k))
    c.add_outlines-in-Either.ensures.below

pub add_outlines-returns-in_ok-push : goal.add_outlines-returns-in_ok-push
add_outlines-returns-in_ok-push t c =
    let names = c.args.names.now in
    let body = c.args.body.now in
    let ps = c.add_pieces.new.pieces in
    let o : Outline = roll-Outline (record { pieces = ps }) in
    let old = c.args.outlines.now.items in
    let own : own_in ps.items ≡ occurrences (tree_of body) = c.in_ok-rest-2.ensures.own ∙ ap (λ (ps : List Piece). own_in ps ++ occurrences (tree_of body)) c.new-pieces.ensures.items in
    let goals : (all : List ℕ) → goals_in ps.items all ≡ goals_of names body all =
    λ all. c.in_ok-rest-2.ensures.goals all ∙ ap (λ (ps : List Piece). joined (goals_in ps all) (goals_of names body all)) c.new-pieces.ensures.items in
    let one = not_either names body c.part_of.result c.in_default.not-Either c.part_of.ensures.part in
    record {
      rest = c.in_ok-rest-2.ensures.rest;
      branches = λ args.
          ap (λ (os : List Outline). branches_in os args) c.in_ok-push.ensures.items
          ∙ branches_push old o args
          ∙ ap (λ (gs : Goals). joined_branches (branches_in old args) (one_branch gs)) (made_goals ps args ∙ ap (λ (xs : List ℕ). goals_in ps.items (args ++ xs)) own ∙ goals (args ++ occurrences (tree_of body)))
          ∙ ap (joined_branches (branches_in old args)) (sym (one args));
      below = λ vars a k.
          let pieces = c.in_ok-rest-2.ensures.below vars a (subst (PiecesAreBelow vars) (sym c.new-pieces.ensures.items) tt) in
          subst (OutlinesAreBelow vars) (sym c.in_ok-push.ensures.items) (outlines_push vars old o k (made_below ps vars pieces));
    }

-- goals
pub add_pieces-add_pieces-requires : goal.add_pieces-add_pieces-requires
add_pieces-add_pieces-requires t c =
    let l = occurrences (tree_of c.in-Both.left.now) in
    let r = occurrences (tree_of c.in-Both.right.now) in
    let rest = c.requires.variables.0 in (
      omega (arith, c.decreases, c.in-Both.ensures.smaller),
      (
        c.in-Both.ensures.fit.0,
        (r ++ rest, c.requires.variables.1 ∙ ap (λ (xs : List ℕ). xs ++ rest) c.in-Both.ensures.own ∙ append_assoc l r rest),
      ),
    )

pub add_pieces-add_pieces-requires-in-Both : goal.add_pieces-add_pieces-requires-in-Both
add_pieces-add_pieces-requires-in-Both t c =
    let l = occurrences (tree_of c.in-Both.left.now) in
    let r = occurrences (tree_of c.in-Both.right.now) in
    let rest = c.requires.variables.0 in
    let all : c.args.variables.now ≡ l ++ (r ++ rest) = c.requires.variables.1 ∙ ap (λ (xs : List ℕ). xs ++ rest) c.in-Both.ensures.own ∙ append_assoc l r rest in
    (omega (arith, c.decreases, c.in-Both.ensures.smaller), (c.in-Both.ensures.fit.1, (rest, append_cancel_left l c.in_ok-rest-in-Both.rest.now (r ++ rest) (sym c.in_ok-rest-in-Both.ensures.rest ∙ all))))

pub add_pieces-add_disjunction-requires : goal.add_pieces-add_disjunction-requires
add_pieces-add_disjunction-requires t c =
    let l = occurrences (tree_of c.in-Either.left.now) in
    let r = occurrences (tree_of c.in-Either.right.now) in
    let rest = c.requires.variables.0 in (
      omega (arith, c.decreases, c.in-Either.ensures.smaller),
      (
        c.in-Either.ensures.fit.0,
        (
          c.in-Either.ensures.fit.1,
          (rest, c.requires.variables.1 ∙ ap (λ (xs : List ℕ). xs ++ rest) c.in-Either.ensures.own ∙ append_assoc l r rest),
        ),
      ),
    )

pub add_pieces-returns-in_ok-rest-in-Both-clause-goals : goal.add_pieces-returns-in_ok-rest-in-Both-clause-goals
add_pieces-returns-in_ok-rest-in-Both-clause-goals t c =
    let names = c.args.names.now in
    let old = c.args.pieces.now.items in
    let last = c.add_pieces-in-Both.new.pieces.items in
    let middle = c.add_pieces.new.pieces.items in
    let L : List ℕ → Goals = goals_of names c.in-Both.left.now in
    let R : List ℕ → Goals = goals_of names c.in-Both.right.now in
    on_ok c.add_pieces-in-Both.result ((all : List ℕ) → goals_in last all ≡ joined (goals_in middle all) (R all))
    ((all : List ℕ) → goals_in last all ≡ joined (goals_in old all) (goals_of names c.args.body.now all))
    (λ h all. h all ∙ ap (λ (gs : Goals). joined gs (R all)) (c.in_ok-rest-in-Both.ensures.goals all)
    ∙ joined_assoc (goals_in old all) (L all) (R all) ∙ ap (joined (goals_in old all)) (sym (c.in-Both.ensures.part.0 all)))
    c.add_pieces-in-Both.ensures.goals

pub add_pieces-returns-in_ok-rest-in-Both-clause-own : goal.add_pieces-returns-in_ok-rest-in-Both-clause-own
add_pieces-returns-in_ok-rest-in-Both-clause-own t c =
    let old = c.args.pieces.now.items in
    let last = c.add_pieces-in-Both.new.pieces.items in
    let middle = c.add_pieces.new.pieces.items in
    let l = occurrences (tree_of c.in-Both.left.now) in
    let r = occurrences (tree_of c.in-Both.right.now) in
    on_ok c.add_pieces-in-Both.result (own_in last ≡ own_in middle ++ r) (own_in last ≡ own_in old ++ occurrences (tree_of c.args.body.now))
    (λ h. h ∙ ap (λ (xs : List ℕ). xs ++ r) c.in_ok-rest-in-Both.ensures.own ∙ append_assoc (own_in old) l r ∙ ap (λ (xs : List ℕ). own_in old ++ xs) (sym c.in-Both.ensures.own))
    c.add_pieces-in-Both.ensures.own

pub add_pieces-returns-in_ok-rest-in-Both-clause-below : goal.add_pieces-returns-in_ok-rest-in-Both-clause-below
add_pieces-returns-in_ok-rest-in-Both-clause-below t c =
    let old = c.args.pieces.now.items in
    let last = c.add_pieces-in-Both.new.pieces.items in
    let middle = c.add_pieces.new.pieces.items in
    let l = occurrences (tree_of c.in-Both.left.now) in
    on_ok c.add_pieces-in-Both.result ((vars : ℕ) → AllByRecursion (λ (x : ℕ). x < vars) c.in_ok-rest-in-Both.rest.now → PiecesAreBelow vars middle → PiecesAreBelow vars last)
    ((vars : ℕ) → AllByRecursion (λ (x : ℕ). x < vars) c.args.variables.now → PiecesAreBelow vars old → PiecesAreBelow vars last)
    (λ h vars a k.
    let P : ℕ → Type 0 = λ x. x < vars in
    let A : List ℕ → Type 0 = λ xs. AllByRecursion P xs in
    h vars (all_back P l c.in_ok-rest-in-Both.rest.now (subst A c.in_ok-rest-in-Both.ensures.rest a)) (c.in_ok-rest-in-Both.ensures.below vars a k))
    c.add_pieces-in-Both.ensures.below

pub add_pieces-returns-in-Nothing-clause-own : goal.add_pieces-returns-in-Nothing-clause-own
add_pieces-returns-in-Nothing-clause-own t c =
    let old = own_in c.args.pieces.now.items in
    sym (ap (λ (xs : List ℕ). old ++ xs) c.in-Nothing.ensures.own ∙ append-nil old)

pub add_pieces-returns-in-Nothing-clause-goals : goal.add_pieces-returns-in-Nothing-clause-goals
add_pieces-returns-in-Nothing-clause-goals t c = λ all.
    let old = c.args.pieces.now.items in
    sym (ap (joined (goals_in old all)) (c.in-Nothing.ensures.part.0 all) ∙ joined_none (goals_in old all))

pub add_pieces-returns-in_ok-push-in-Goal-clause-goals : goal.add_pieces-returns-in_ok-push-in-Goal-clause-goals
add_pieces-returns-in_ok-push-in-Goal-clause-goals t c = λ all.
    let old = c.args.pieces.now.items in
    let i = c.in-Goal.item in
    let own = c.before-in-Goal.result in
    ap (λ (ps : List Piece). goals_in ps all) c.in_ok-push-in-Goal.ensures.items
    ∙ goals_push old (Plain i own) all
    ∙ ap (λ g. joined (goals_in old all) (one_goal g)) (plain_goal i own all)
    ∙ ap (joined (goals_in old all)) (sym (c.in-Goal.ensures.part.0 all))

pub add_pieces-returns-in_ok-push-in-Goal-clause-own : goal.add_pieces-returns-in_ok-push-in-Goal-clause-own
add_pieces-returns-in_ok-push-in-Goal-clause-own t c =
    let old = c.args.pieces.now.items in
    let i = c.in-Goal.item in
    let own = c.before-in-Goal.result in
    let t = occurrences (tree_of c.args.body.now) in
    ap own_in c.in_ok-push-in-Goal.ensures.items ∙ own_push old (Plain i own)
    ∙ ap (λ (xs : List ℕ). own_in old ++ xs) (plain_own i own ∙ append_cancel_right own.now t c.in_ok-rest-in-Goal.rest.now (sym c.before-in-Goal.ensures ∙ c.in_ok-rest-in-Goal.ensures))

pub add_pieces-returns-in_ok-push-in-Goal-clause-below : goal.add_pieces-returns-in_ok-push-in-Goal-clause-below
add_pieces-returns-in_ok-push-in-Goal-clause-below t c = λ vars a h.
    let P : ℕ → Type 0 = λ x. x < vars in
    let A : List ℕ → Type 0 = λ xs. AllByRecursion P xs in
    let old = c.args.pieces.now.items in
    let i = c.in-Goal.item in
    let own = c.before-in-Goal.result in
    let front = all_front P own.now c.in_ok-rest-in-Goal.rest.now (subst A c.before-in-Goal.ensures a) in
    subst (PiecesAreBelow vars) (sym c.in_ok-push-in-Goal.ensures.items) (pieces_push vars old (Plain i own) h (plain_below i own vars front))
