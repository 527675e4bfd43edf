-- Private.
-- The state of a search, and what its steps do to what is left to be met. Nothing here has to be believed.
use Rattle.std.specs.Prelude.{◌≡◌, ℕ, suc, ◌+◌, ◌-◌, ◌≤◌, ◌<◌, ◌⊎◌, true, false, List, [], ◌∷◌, ◌++◌, map, reverse, length, slice_get, None, Some}
use Rattle.std.specs.List.{AllByRecursion}
use Rattle.cti_terms.specs.declared.atom_list.Atom.{Atom}
use Rattle.cti_terms.specs.declared.clauses.Clause.{Clause as ProgramClause}
use Rattle.cti_terms.specs.declared.derivation.Goal.{Goal}
use Rattle.cti_terms.specs.Arithmetic.{begins_wide}
use Rattle.cti_terms.specs.Listing.{Listing, IsProgram, IsClause, numbered}
use Rattle.cti_terms.specs.Unify.{Binding}
use Rattle.cti_terms.specs.Resolve.{over, raised}
use Rattle.cti_terms.specs.Answers.{answer_by}
use Rattle.cti_terms.specs.Below.{AtomsBelow}
use Rattle.ld_resolver.specs.declared.choices.Choice.{Choice}
use Rattle.ld_resolver.specs.declared.choices.Start.{Start}
use Rattle.ld_resolver.specs.declared.search.Taken.{Taken}
use Rattle.ld_resolver.specs.declared.search.Taken.TheVariants.{Nothing, Exhausted, ByItself, Clause}
use Rattle.ld_resolver.specs.declared.search.Node.{Node}
use Rattle.ld_resolver.specs.declared.search.Attempt.{Attempt}
use Rattle.ld_resolver.specs.declared.search.Attempt.TheVariants.{Ended, Failed, Resolved}
use Rattle.ld_resolver.specs.declared.search.Entered.{Entered}
use Rattle.ld_resolver.specs.declared.search.Entered.TheVariants.{Empty, Open, Wide}
use Rattle.ld_resolver.specs.declared.search.Search.{Search}
use Rattle.unifier.specs.Store.{made, full}
use Rattle.ld_resolver.specs.Tails.{tail_at}
use Rattle.unifier.specs.Below.{FreeFrom}
use Rattle.ld_resolver.specs.Walk.{Visit, walk}
use Rattle.ld_resolver.specs.Choices.{kept, goal_from, left, AreChoices}
use Rattle.ld_resolver.specs.FirstArguments.{IsNextMatch}

-- how many attempts are left at choices, with one to see that there are no more
abbrev pub attempts_at : Listing → List Choice → ℕ
attempts_at p [] = 0
attempts_at p (c ∷ below) = (suc (suc (length p.clauses)) - c.next) + attempts_at p below

-- each choice has the number of a clause of its predicate, or one past the last, or 0
abbrev pub AreNumbered : Listing → List Choice → Type 0
AreNumbered p = AllByRecursion (λ (c : Choice). (c.next ≤ suc (length p.clauses)) × ((k : ProgramClause) → numbered p.clauses c.next ≡ Some k → c.atom.now.pred.0 ≡ k.head.pred.0))

-- each choice has at most m bindings
abbrev pub AreMarked : ℕ → List Choice → Type 0
AreMarked m = AllByRecursion (λ (c : Choice). c.mark ≤ m)

-- at most d steps lead to each choice
abbrev pub AreWithin : ℕ → List Choice → Type 0
AreWithin d = AllByRecursion (λ (c : Choice). c.depth ≤ d)

-- a choice is put back, or has no more clauses
abbrev pub IsPutBack : Listing → List Choice → Choice → List Choice → Type 0
IsPutBack p old c new = (new ≡ c ∷ old) ⊎ ((new ≡ old) × (length p.clauses < c.next))

-- a clause is taken at the last choice, whose bindings are kept alone. The choice goes on with the next clause that can
-- match, or goes where there is none
pub record IsTakenAt (p : Listing) (s : List Binding) (old : List Choice) (c : Choice) (k : ProgramClause) (now : List Binding) (new : List Choice) : Type 0 where
  pub below : List Choice
  pub m : ℕ
  pub was : old ≡ c ∷ below
  pub is : IsPutBack p below (record c { next = m }) new
  pub first : 1 ≤ c.next
  pub within : c.next ≤ length p.clauses
  pub there : slice_get p.clauses (c.next - 1) ≡ Some k
  pub clause : IsClause p.preds k
  pub pred : c.atom.now.pred.0 ≡ k.head.pred.0
  pub back : now ≡ kept s c.mark
  pub next : IsNextMatch p (kept s c.mark) (raised c.base c.atom.now) c.fresh (suc c.next) m

-- what is taken at choices, the last one first, and what becomes of the bindings
abbrev pub IsTaken : Listing → List Binding → List Choice → Taken → List Binding → List Choice → Type 0
IsTaken p s old Nothing now new = (old ≡ []) × (new ≡ []) × (now ≡ s)
IsTaken p s old Exhausted now new = (c : Choice) × (old ≡ c ∷ new) × (length p.clauses < c.next) × (now ≡ s)
IsTaken p s old (ByItself c) now new = IsProgram p × (c.next ≡ 0) × (old ≡ c ∷ new) × (now ≡ kept s c.mark)
IsTaken p s old (Clause c k) now new = IsTakenAt p s old c k.now now new

-- the choices of a search, the last one first
abbrev pub choices_of : Search → List Choice
choices_of x = reverse x.choices.items

-- what every search keeps between its steps
abbrev pub IsSearch : Search → Type 0
IsSearch x = AreChoices x.program.now x.bindings x.tails (choices_of x)

-- what is left to be met, for the atoms of a query, by nodes of at most suc n steps
abbrev pub left_of : List Atom → ℕ → Search → List Visit
left_of q n x = left x.program.now q n x.bindings x.tails (choices_of x)

abbrev pub attempts_left : Search → ℕ
attempts_left x = attempts_at x.program.now (choices_of x)

-- the goal of raised atoms and a rest
abbrev pub goal_with : List Binding → List Atom → List Atom → ℕ → Goal
goal_with s atoms rest n = record { atoms = map (over (full s)) (atoms ++ rest); fresh = n }

-- the goal of a choice under all bindings
abbrev pub goal_at : Search → Choice → Goal
goal_at x c = goal_from x.bindings c.fresh (raised c.base c.atom.now) (tail_at x.tails c.rest)

-- the choice at the goal of a start, of which nothing is tried yet
abbrev pub untried : Search → Start → ℕ → ℕ → Choice
untried x start fresh depth = record {
  atom = start.atom;
  base = start.base;
  rest = start.rest;
  fresh = fresh;
  next = 0;
  value = None;
  mark = length x.bindings;
  rests = length x.tails;
  depth = depth;
}

-- a choice is of all bindings and all rests
pub record IsNewest (x : Search) (c : Choice) : Type 0 where
  pub mark : c.mark ≡ length x.bindings
  pub rest : c.rest ≤ length x.tails
  pub rests : c.rests ≡ length x.tails
  pub free : FreeFrom c.fresh x.bindings
  pub below : AtomsBelow c.fresh (goal_at x c).atoms

-- the goal of a node
abbrev pub node_goal : Search → Node → Goal
node_goal x node = goal_with x.bindings (map (raised node.fresh) node.body.now) (tail_at x.tails node.rest) (node.fresh + node.vars)

-- what is met at the node of this goal, to which l steps and one more lead, and then below it
abbrev pub met_at : List Atom → ℕ → Search → ℕ → Goal → List Visit
met_at q n x l h =
    record { steps = l + 1; answer = answer_by q (made x.bindings) h.atoms; wide = begins_wide x.program.now.arithmetic h.atoms }
    ∷ walk x.program.now q (n - l) (made x.bindings) (l + 1) h

-- a node is found, which the search has not entered yet
pub record IsNode (old : Search) (node : Node) (new : Search) : Type 0 where
  pub met : (q : List Atom) (n : ℕ) → left_of q n old ≡ met_at q n new node.depth (node_goal new node) ++ left_of q n new
  pub fewer : attempts_left new < attempts_left old
  pub within : (d : ℕ) → AreWithin d (choices_of old) → node.depth ≤ d
  pub rest : node.rest ≤ length new.tails
  pub free : FreeFrom (node.fresh + node.vars) new.bindings
  pub below : AtomsBelow (node.fresh + node.vars) (node_goal new node).atoms

-- what an attempt does
abbrev pub IsAttempt : Search → Attempt → Search → Type 0
IsAttempt old Ended new = choices_of old ≡ []
IsAttempt old Failed new = ((q : List Atom) (n : ℕ) → left_of q n old ≡ left_of q n new) × (attempts_left new < attempts_left old)
IsAttempt old (Resolved node) new = IsNode old node new

-- a goal is entered: it has no atoms; or it is left to be walked; or its first atom is wide, and the search is of no
-- use any more
abbrev pub IsEntered : Search → ℕ → Goal → Entered → Search → Type 0
IsEntered old l h Empty new = (h.atoms ≡ []) × ((q : List Atom) (n : ℕ) → left_of q n old ≡ left_of q n new)
IsEntered old l h Open new = ((q : List Atom) (bs : List Binding) → answer_by q bs h.atoms ≡ None)
    × ((q : List Atom) (n : ℕ) → walk old.program.now q (suc (n - l)) (made old.bindings) l h ++ left_of q n old ≡ left_of q n new)
    × (begins_wide old.program.now.arithmetic h.atoms ≡ false)
IsEntered old l h Wide new = ((q : List Atom) (bs : List Binding) → answer_by q bs h.atoms ≡ None) × (begins_wide old.program.now.arithmetic h.atoms ≡ true)
