-- A fault of the normal form stands where a term of its clause does.
use Rattle.std.proofs.Common.{◌≡◌, ℕ, ◌≤◌, ◌||◌, Bool, true, false, nat_lt, if◌then◌else◌, List, [], ◌∷◌, ◌++◌, length, Option, Some, None, Result, Ok, Err, subst}
use Rattle.std.specs.List.{AllByRecursion}
use Rattle.cti_terms.specs.Tree.{Tree as Term}
use Rattle.cti_terms.specs.Listing.{Listing}
use Rattle.cti_terms.specs.declared.limits.TheConstants.{MOST_ARGUMENTS, MOST_VARIABLES}
use Rattle.cti_terms.specs.declared.derivation.Goal.{Goal as Query}
use Rattle.prolog_grammar.specs.Placed.{Tree, tree, Shape, Var, Int, Fun, Trees, no_trees, more_trees}
use Rattle.prolog_grammar.specs.Places.{IsPlaced, IsShapePlaced, ArePlaced}
use Rattle.prolog_reader.specs.Names.{name_text}
use Rattle.prolog_terms.specs.Clauses.{Clause, arity, place, list_of}
use Rattle.prolog_reader.specs.Places.{ArePlacedClauses}
use Rattle.clause_normal.specs.declared.limits.TheConstants.{MOST_TEXT_CLAUSES}
use Rattle.clause_normal.specs.declared.fault.NormKind.{NormKind}
use Rattle.clause_normal.specs.declared.fault.NormKind.TheVariants as kind
use Rattle.clause_normal.specs.declared.words.Connective.{Connective}
use Rattle.clause_normal.specs.declared.words.Connective.TheVariants as connective
use Rattle.clause_normal.specs.declared.words.Neck.{Neck}
use Rattle.clause_normal.specs.declared.words.Neck.TheVariants as neck
use Rattle.clause_normal.specs.Words.{is_impure, is_choice_name, is_reserved, connective_of, neck_of}
use Rattle.clause_variables.specs.Terms.{plain_list, occurrences, firsts}
use Rattle.clause_normal.specs.Bodies.{Goal, Goals, Branches, call, choice, bad, no_goals, more_goals, no_branches, more_branches, one_goal, joined, joined_branches, arguments, Body, of_goals, named_goal, atom_goal, choice_goal, disjunction, named_body, body_of, shape_body, argument_bodies}
use Rattle.clause_normal.specs.Rules.{Call, Rule, rules, after}
use Rattle.clause_normal.specs.NormalForm.{Fault, first_of, goals_fault, goal_fault, branches_fault, head_fault, head_call, variables_fault, Form, skipped, refused, clause, is_silent_goal, named_form, form_of, clause_fault, Made, made_or_fault, with_form, with_clause, and_next, normal_rules, program_of, normal_form}
use Rattle.clause_normal.specs.Query.{named_goals, query_goals, shape_goals, argument_goals, bad_goal, query_fault, query_calls, query_of, query_form}

module _ (size : ℕ) where
  abbrev FaultPlaced : Option Fault → Type 0
  FaultPlaced None = Unit {0}
  FaultPlaced (Some f) = f.1 ≤ size

  first_placed : (f g : Option Fault) → FaultPlaced f → FaultPlaced g → FaultPlaced (first_of f g)
  first_placed None g h k = k
  first_placed (Some f) g h k = h

  -- where what follows the first changes
  later_placed : (o f g : Option Fault) → FaultPlaced (first_of o f) → (FaultPlaced f → FaultPlaced g) → FaultPlaced (first_of o g)
  later_placed None f g h k = k h
  later_placed (Some e) f g h k = h

  if_placed : (b : Bool) (f g : Option Fault) → FaultPlaced f → FaultPlaced g → FaultPlaced (if b then f else g)
  if_placed true f g h k = h
  if_placed false f g h k = k

  if_goal : (b : Bool) (g h : Goal) → FaultPlaced (goal_fault g) → FaultPlaced (goal_fault h) → FaultPlaced (goal_fault (if b then g else h))
  if_goal true g h k l = k
  if_goal false g h k l = l

  -- goals
  one_placed : (g : Goal) → FaultPlaced (goal_fault g) → FaultPlaced (goals_fault (one_goal g))
  one_placed g h = first_placed (goal_fault g) None h tt

  joined_placed : (gs hs : Goals) → FaultPlaced (goals_fault gs) → FaultPlaced (goals_fault hs) → FaultPlaced (goals_fault (joined gs hs))
  joined_placed no_goals hs h k = k
  joined_placed (more_goals g gs) hs h k = later_placed (goal_fault g) (goals_fault gs) (goals_fault (joined gs hs)) h (λ l. joined_placed gs hs l k)

  branches_placed : (bs cs : Branches) → FaultPlaced (branches_fault bs) → FaultPlaced (branches_fault cs) → FaultPlaced (branches_fault (joined_branches bs cs))
  branches_placed no_branches cs h k = k
  branches_placed (more_branches b bs) cs h k = later_placed (goals_fault b) (branches_fault bs) (branches_fault (joined_branches bs cs)) h (λ l. branches_placed bs cs l k)

  module _ (names : List (List ℕ)) where
    named_goal_placed : (text : List ℕ) (f : ℕ) (args : List Term) (at : ℕ) → at ≤ size → FaultPlaced (goal_fault (named_goal text f args at))
    named_goal_placed text f args at le =
        if_goal (is_impure text (length args) || is_choice_name text) (bad kind.NotPure at) (if nat_lt MOST_ARGUMENTS (length args) then bad kind.Arity at else call f args) le
        (if_goal (nat_lt MOST_ARGUMENTS (length args)) (bad kind.Arity at) (call f args) le tt)

    atom_placed : (t : Tree) → IsPlaced size t → FaultPlaced (goal_fault (atom_goal names t))
    atom_placed (tree at (Var x)) h = h.0
    atom_placed (tree at (Int n)) h = h.0
    atom_placed (tree at (Fun f ts)) h = named_goal_placed (name_text names f) f (plain_list ts) at h.0

    -- a body, for whatever variables and arguments
    pub record BodyPlaced (b : Body) : Type 0 where
      pub goals : (all : List ℕ) → FaultPlaced (goals_fault (b.goals all))
      pub branches : (args : List ℕ) → FaultPlaced (branches_fault (b.branches args))

    of_goals_placed : (t : Tree) (goals : List ℕ → Goals) → ((all : List ℕ) → FaultPlaced (goals_fault (goals all))) → BodyPlaced (of_goals t goals)
    of_goals_placed t goals h = record { goals = h; branches = λ args. first_placed (goals_fault (goals (args ++ occurrences t))) None (h (args ++ occurrences t)) tt }

    choice_placed : (at : ℕ) (args : List ℕ) (branches : List ℕ → Branches) → at ≤ size → FaultPlaced (branches_fault (branches args)) → FaultPlaced (goal_fault (choice_goal at args branches))
    choice_placed at args branches le h = if_goal (nat_lt MOST_ARGUMENTS (length args)) (bad kind.Arity at) (choice args (branches args)) le h

    disjunction_placed : (t : Tree) (at : ℕ) (b c : Body) → at ≤ size → BodyPlaced b → BodyPlaced c → BodyPlaced (disjunction t at b c)
    disjunction_placed t at b c le h k =
        let both : (args : List ℕ) → FaultPlaced (branches_fault (joined_branches (b.branches args) (c.branches args))) =
        λ args. branches_placed (b.branches args) (c.branches args) (h.branches args) (k.branches args) in
        let branches : List ℕ → Branches = λ args. joined_branches (b.branches args) (c.branches args) in
        record {
          goals = λ all. one_placed (choice_goal at (arguments all (occurrences t)) branches) (choice_placed at (arguments all (occurrences t)) branches le (both (arguments all (occurrences t))));
          branches = both;
        }

    atom_body_placed : (t : Tree) → IsPlaced size t → BodyPlaced (of_goals t (λ all. one_goal (atom_goal names t)))
    atom_body_placed t h = of_goals_placed t (λ all. one_goal (atom_goal names t)) (λ all. one_placed (atom_goal names t) (atom_placed t h))

    named_body_placed : (t : Tree) (at : ℕ) (c : Connective) (bs : List Body) → at ≤ size → IsPlaced size t → AllByRecursion BodyPlaced bs → BodyPlaced (named_body names t at c bs)
    named_body_placed t at connective.And (b ∷ d ∷ []) le h all =
        of_goals_placed t (λ xs. joined (b.goals xs) (d.goals xs)) (λ xs. joined_placed (b.goals xs) (d.goals xs) (all.0.goals xs) (all.1.0.goals xs))
    named_body_placed t at connective.Or (b ∷ d ∷ []) le h all = disjunction_placed t at b d le all.0 all.1.0
    named_body_placed t at connective.Truth bs le h all = of_goals_placed t (λ xs. no_goals) (λ xs. tt)
    named_body_placed t at c bs le h all = atom_body_placed t h

    mutual
      body_placed : (t : Tree) → IsPlaced size t → BodyPlaced (body_of names t)
      body_placed (tree at s) h = shape_body_placed at s h.0 h.1

      shape_body_placed : (at : ℕ) (s : Shape) → at ≤ size → IsShapePlaced size s → BodyPlaced (shape_body names at s)
      shape_body_placed at (Var x) le h = atom_body_placed (tree at (Var x)) (le, h)
      shape_body_placed at (Int n) le h = atom_body_placed (tree at (Int n)) (le, h)
      shape_body_placed at (Fun f ts) le h =
          named_body_placed (tree at (Fun f ts)) at (connective_of (name_text names f) (arity ts)) (argument_bodies names ts) le (le, h) (argument_bodies_placed ts h)

      argument_bodies_placed : (ts : Trees) → ArePlaced size ts → AllByRecursion BodyPlaced (argument_bodies names ts)
      argument_bodies_placed no_trees h = tt
      argument_bodies_placed (more_trees t ts) h = (body_placed t h.0, argument_bodies_placed ts h.1)

    list_placed : (ts : Trees) → ArePlaced size ts → AllByRecursion (IsPlaced size) (list_of ts)
    list_placed no_trees h = tt
    list_placed (more_trees t ts) h = (h.0, list_placed ts h.1)

    place_placed : (t : Tree) → IsPlaced size t → place t ≤ size
    place_placed (tree at s) h = h.0

    -- what a clause's term is
    abbrev FormPlaced : Form → Type 0
    FormPlaced skipped = Unit {0}
    FormPlaced (refused k) = Unit {0}
    FormPlaced (clause t gs) = IsPlaced size t × FaultPlaced (goals_fault gs)

    silent_placed : (b : Bool) (k : NormKind) → FormPlaced (if b then skipped else refused k)
    silent_placed true k = tt
    silent_placed false k = tt

    named_form_placed : (t : Tree) (k : Neck) (ts : List Tree) → IsPlaced size t → AllByRecursion (IsPlaced size) ts → FormPlaced (named_form names t k ts)
    named_form_placed t neck.Directive (d ∷ []) h all = silent_placed (is_silent_goal names d) kind.Directive
    named_form_placed t neck.Query ts h all = tt
    named_form_placed t neck.Implies (u ∷ b ∷ []) h all = (all.0, (body_placed b all.1.0).goals (occurrences u ++ occurrences b))
    named_form_placed t neck.Grammar ts h all = tt
    named_form_placed t k ts h all = (h, tt)

    form_placed : (t : Tree) → IsPlaced size t → FormPlaced (form_of names t)
    form_placed (tree at (Var x)) h = (h, tt)
    form_placed (tree at (Int n)) h = (h, tt)
    form_placed (tree at (Fun f ts)) h = named_form_placed (tree at (Fun f ts)) (neck_of (name_text names f) (arity ts)) (list_of ts) h (list_placed ts h.1)

    head_placed : (t : Tree) → IsPlaced size t → FaultPlaced (head_fault names t)
    head_placed (tree at (Var x)) h = h.0
    head_placed (tree at (Int n)) h = h.0
    head_placed (tree at (Fun f ts)) h =
        if_placed (is_reserved (name_text names f) (arity ts)) (Some (kind.BadHead, at)) (if nat_lt MOST_ARGUMENTS (arity ts) then Some (kind.Arity, at) else None) h.0
        (if_placed (nat_lt MOST_ARGUMENTS (arity ts)) (Some (kind.Arity, at)) None h.0 tt)

    variables_placed : (at : ℕ) (xs : List ℕ) → at ≤ size → FaultPlaced (variables_fault at xs)
    variables_placed at xs le = if_placed (nat_lt MOST_VARIABLES (length (firsts xs))) (Some (kind.ManyVariables, at)) None le tt

    -- what a clause leads to
    abbrev ErrPlaced : {X : Type 0} → Result X Fault → Type 0
    ErrPlaced (Ok x) = Unit {0}
    ErrPlaced (Err f) = f.1 ≤ size

    made_placed : (f : Option Fault) (at : ℕ) (made : List Rule) (n : ℕ) → at ≤ size → FaultPlaced f → ErrPlaced (made_or_fault f at made n)
    made_placed (Some f) at made n le h = h
    made_placed None at made n le h = by_test (nat_lt MOST_TEXT_CLAUSES (length made))
      where
        by_test : (b : Bool) → ErrPlaced {X = List Rule × ℕ} (if b then Err (kind.ManyClauses, at) else Ok (made, n))
        by_test true = le
        by_test false = tt

    with_form_placed : (made : List Rule) (n : ℕ) (c : Clause) (form : Form) → IsPlaced size c.term → FormPlaced form → ErrPlaced (with_form names made n c form)
    with_form_placed made n c skipped h k = tt
    with_form_placed made n c (refused k') h k = place_placed c.term h
    with_form_placed made n c (clause t gs) h k =
        made_placed (clause_fault names c t gs) (place c.term) (made ++ rules n (head_call t) gs) (after n gs) (place_placed c.term h)
        (first_placed (head_fault names t) (first_of (goals_fault gs) (variables_fault (place c.term) (occurrences c.term))) (head_placed t k.0)
        (first_placed (goals_fault gs) (variables_fault (place c.term) (occurrences c.term)) k.1 (variables_placed (place c.term) (occurrences c.term) (place_placed c.term h))))

    next_placed : (m : Made) (next : List Rule → ℕ → Result (List Rule) Fault) → ErrPlaced m → ((made : List Rule) (n : ℕ) → ErrPlaced (next made n)) → ErrPlaced (and_next m next)
    next_placed (Ok p) next h k = k p.0 p.1
    next_placed (Err f) next h k = h

    rules_placed : (made : List Rule) (n : ℕ) (cs : List Clause) → ArePlacedClauses size cs → ErrPlaced (normal_rules names made n cs)
    rules_placed made n [] h = tt
    rules_placed made n (c ∷ cs) h =
        next_placed (with_clause names made n c) (λ made' n'. normal_rules names made' n' cs) (with_form_placed made n c (form_of names c.term) h.0 (form_placed c.term h.0))
        (λ made' n'. rules_placed made' n' cs h.1)

    program_placed : (r : Result (List Rule) Fault) → ErrPlaced r → ErrPlaced (program_of names r)
    program_placed (Ok rs) h = tt
    program_placed (Err f) h = h

    -- a fault of the normal form of clauses that stand within the text
    pub normal_placed : (cs : List Clause) (f : Fault) → ArePlacedClauses size cs → normal_form names cs ≡ Err f → f.1 ≤ size
    normal_placed cs f h is =
        let P : Result Listing Fault → Type 0 = λ r. ErrPlaced r in
        subst P is (program_placed (normal_rules names [] 1 cs) (rules_placed [] 1 cs h))

    -- the same of a query
    bad_placed : (g : Goal) → FaultPlaced (goal_fault g) → FaultPlaced (bad_goal g)
    bad_placed (bad k at) h = h
    bad_placed (call f ts) h = tt
    bad_placed (choice args bs) h = tt

    atoms_placed : (t : Tree) → IsPlaced size t → FaultPlaced (query_fault (atom_goal names t ∷ []))
    atoms_placed t h = first_placed (bad_goal (atom_goal names t)) None (bad_placed (atom_goal names t) (atom_placed t h)) tt

    both_placed : (gs hs : List Goal) → FaultPlaced (query_fault gs) → FaultPlaced (query_fault hs) → FaultPlaced (query_fault (gs ++ hs))
    both_placed [] hs h k = k
    both_placed (g ∷ gs) hs h k = later_placed (bad_goal g) (query_fault gs) (query_fault (gs ++ hs)) h (λ l. both_placed gs hs l k)

    named_goals_placed : (t : Tree) (c : Connective) (gss : List (List Goal)) → IsPlaced size t → AllByRecursion (λ (gs : List Goal). FaultPlaced (query_fault gs)) gss
        → FaultPlaced (query_fault (named_goals names t c gss))
    named_goals_placed t connective.And (gs ∷ hs ∷ []) h all = both_placed gs hs all.0 all.1.0
    named_goals_placed t connective.Truth gss h all = tt
    named_goals_placed t c gss h all = atoms_placed t h

    mutual
      goals_placed : (t : Tree) → IsPlaced size t → FaultPlaced (query_fault (query_goals names t))
      goals_placed (tree at s) h = shape_goals_placed at s h.0 h.1

      shape_goals_placed : (at : ℕ) (s : Shape) → at ≤ size → IsShapePlaced size s → FaultPlaced (query_fault (shape_goals names at s))
      shape_goals_placed at (Var x) le h = atoms_placed (tree at (Var x)) (le, h)
      shape_goals_placed at (Int n) le h = atoms_placed (tree at (Int n)) (le, h)
      shape_goals_placed at (Fun f ts) le h =
          named_goals_placed (tree at (Fun f ts)) (connective_of (name_text names f) (arity ts)) (argument_goals names ts) (le, h) (argument_goals_placed ts h)

      argument_goals_placed : (ts : Trees) → ArePlaced size ts → AllByRecursion (λ (gs : List Goal). FaultPlaced (query_fault gs)) (argument_goals names ts)
      argument_goals_placed no_trees h = tt
      argument_goals_placed (more_trees t ts) h = (goals_placed t h.0, argument_goals_placed ts h.1)

    query_of_placed : (p : Listing) (cs : List Call) (o : Option Fault) → FaultPlaced o → ErrPlaced (query_of names p cs o)
    query_of_placed p cs None h = tt
    query_of_placed p cs (Some f) h = h

    pub query_form_placed : (p : Listing) (c : Clause) (f : Fault) → IsPlaced size c.term → query_form names p c ≡ Err f → f.1 ≤ size
    query_form_placed p c f h is =
        let P : Result (Listing × Query) Fault → Type 0 = λ r. ErrPlaced r in
        let gs = query_goals names c.term in
        let variables = variables_fault (place c.term) (occurrences c.term) in
        subst P is (query_of_placed p (query_calls gs) (first_of (query_fault gs) variables)
        (first_placed (query_fault gs) variables (goals_placed c.term h) (variables_placed (place c.term) (occurrences c.term) (place_placed c.term h))))
