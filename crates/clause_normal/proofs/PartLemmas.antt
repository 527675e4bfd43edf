-- Lemmas on what a term is in a body.
use Rattle.std.proofs.Common.{◌≡◌, ℕ, ◌+◌, ◌<◌, IsTrue, nat_lt, List, [], ◌∷◌, ◌++◌, length, map, get_or, refl, ap, sym, ◌∙◌, arith, subst, Vec, Global, Bor}
use Rattle.std.proofs.lemmas.Bool.{and_parts, ltb-true}
use Rattle.std.proofs.lemmas.Bool.Decides.{nat_tests}
use Rattle.cti_terms.specs.Tree.{Tree as Term}
use Rattle.cti_terms.specs.declared.naming.Name.{Name}
use Rattle.prolog_grammar.specs.Placed.{Tree, tree, Fun, Trees, no_trees, more_trees}
use Rattle.prolog_terms.specs.declared.term.ReadTerm.{ReadTerm}
use Rattle.prolog_terms.specs.declared.term.ReadShape.TheVariants as shape
use Rattle.prolog_terms.specs.Clauses.{row, arity, is_known, nodes}
use Rattle.prolog_reader.specs.Names.{name_text}
use Rattle.prolog_terms.specs.Terms.{tree_of}
use Rattle.prolog_reader.proofs.ViewLemmas.{tree_of_fun, arity_terms}
use Rattle.clause_normal.specs.declared.words.Connective.{Connective}
use Rattle.clause_normal.specs.declared.words.Connective.TheVariants as connective
use Rattle.clause_normal.specs.Words.{connective_of}
use Rattle.clause_variables.specs.Terms.{plain_list, occurrences}
use Rattle.clause_normal.specs.Bodies.{Goal, Goals, Branches, atom_goal, named_goal, Body, of_goals, named_body, disjunction, choice_goal, arguments, argument_bodies, body_of, one_goal, one_branch, no_goals, joined, joined_branches}
use Rattle.clause_normal.specs.Query.{query_goals, argument_goals, named_goals}
use Rattle.clause_variables.specs.TermViews.{plain_of}
use Rattle.clause_normal.specs.Views.{item_goal, goals_of, branches_of, IsBranch, IsPart}
use Rattle.clause_normal.specs.declared.part.Part.TheVariants as part
use Rattle.clause_normal.specs.declared.part.Item.{Item}

-- arguments without their places
pub plain_list_row : (ts : List ReadTerm) → plain_list (row (map tree_of ts)) ≡ map plain_of ts
plain_list_row [] = refl
plain_list_row (t ∷ ts) = ap (λ (us : List Term). plain_of t ∷ us) (plain_list_row ts)

-- an atom is the goal of its name and arguments
pub atom_goal_fun : (names : List (List ℕ)) (t : ReadTerm) (f : Name) (args : Vec ReadTerm Global) → t.shape ≡ shape.Fun f args
    → atom_goal names (tree_of t) ≡ named_goal (name_text names f.0) f.0 (map plain_of args.items) t.at
atom_goal_fun names t f args is = ap (atom_goal names) (tree_of_fun t f args is) ∙ ap (λ (us : List Term). named_goal (name_text names f.0) f.0 us t.at) (plain_list_row args.items)

-- two arguments
pub two_items : (xs : List ReadTerm) (x y : ReadTerm) → length xs ≡ 2 → x ≡ get_or xs 0 x → y ≡ get_or xs 1 y → xs ≡ x ∷ y ∷ []
two_items [] x y n p q = absurd (omega (arith, n))
two_items (a ∷ []) x y n p q = absurd (omega (arith, n))
two_items (a ∷ b ∷ []) x y n p q = let h : x ≡ a = p in let k : y ≡ b = q in cc
two_items (a ∷ b ∷ d ∷ xs) x y n p q = absurd (omega (arith, n))

-- a term of two arguments as a plain one
shape_two : (t : ReadTerm) (f : Name) (args : Vec ReadTerm Global) (x y : ReadTerm) → t.shape ≡ shape.Fun f args → args.items ≡ x ∷ y ∷ []
    → tree_of t ≡ tree t.at (Fun f.0 (more_trees (tree_of x) (more_trees (tree_of y) no_trees)))
shape_two t f args x y is e = tree_of_fun t f args is ∙ ap (λ (ts : List ReadTerm). tree t.at (Fun f.0 (row (map tree_of ts)))) e

-- where a connective has two sides
pub two_of_and : (text : List ℕ) (n : ℕ) → connective_of text n ≡ connective.And → n ≡ 2
unfolding connective_of
two_of_and text n h = grind (arith, nat_tests)

pub two_of_or : (text : List ℕ) (n : ℕ) → connective_of text n ≡ connective.Or → n ≡ 2
unfolding connective_of
two_of_or text n h = grind (arith, nat_tests)

pub none_of_truth : (text : List ℕ) (n : ℕ) → connective_of text n ≡ connective.Truth → n ≡ 0
unfolding connective_of
none_of_truth text n h = grind (arith, nat_tests)

-- the body of a term of one goal or none
branch_of_goals : (names : List (List ℕ)) (t : ReadTerm) (tr : Tree) (goals : List ℕ → Goals) → tree_of t ≡ tr → body_of names tr ≡ of_goals tr goals → IsBranch names t
branch_of_goals names t tr goals e h =
    let P : Tree → Type 0 = λ u. (args : List ℕ) → (body_of names u).branches args ≡ one_branch ((body_of names u).goals (args ++ occurrences u)) in
    let Q : Body → Type 0 = λ b. (args : List ℕ) → b.branches args ≡ one_branch (b.goals (args ++ occurrences tr)) in
    subst P (sym e) (subst Q (sym h) (λ args. refl))

pub part_both : (names : List (List ℕ)) (t : ReadTerm) (f : Name) (args : Vec ReadTerm Global) (x y : Bor ReadTerm) → t.shape ≡ shape.Fun f args → args.items ≡ x.now ∷ y.now ∷ []
    → connective_of (name_text names f.0) (length args.items) ≡ connective.And → IsPart names t (part.Both x y)
part_both names t f args x y is e h =
    let tr : Tree = tree t.at (Fun f.0 (more_trees (tree_of x.now) (more_trees (tree_of y.now) no_trees))) in
    let s : tree_of t ≡ tr = shape_two t f args x.now y.now is e in
    let goals : List ℕ → Goals = λ all. joined (goals_of names x.now all) (goals_of names y.now all) in
    let c : connective_of (name_text names f.0) 2 ≡ connective.And = ap (λ (xs : List ReadTerm). connective_of (name_text names f.0) (length xs)) (sym e) ∙ h in
    let b : body_of names tr ≡ of_goals tr goals = ap (λ k. named_body names tr t.at k (body_of names (tree_of x.now) ∷ body_of names (tree_of y.now) ∷ [])) c in
    (λ all. ap (λ (b : Body). b.goals all) (ap (body_of names) s ∙ b), branch_of_goals names t tr goals s b)

pub part_either : (names : List (List ℕ)) (t : ReadTerm) (f : Name) (args : Vec ReadTerm Global) (x y : Bor ReadTerm) → t.shape ≡ shape.Fun f args → args.items ≡ x.now ∷ y.now ∷ []
    → connective_of (name_text names f.0) (length args.items) ≡ connective.Or → IsPart names t (part.Either x y)
part_either names t f args x y is e h =
    let tr : Tree = tree t.at (Fun f.0 (more_trees (tree_of x.now) (more_trees (tree_of y.now) no_trees))) in
    let s : tree_of t ≡ tr = shape_two t f args x.now y.now is e in
    let c : connective_of (name_text names f.0) 2 ≡ connective.Or = ap (λ (xs : List ReadTerm). connective_of (name_text names f.0) (length xs)) (sym e) ∙ h in
    let b : body_of names tr ≡ disjunction tr t.at (body_of names (tree_of x.now)) (body_of names (tree_of y.now)) =
    ap (λ k. named_body names tr t.at k (body_of names (tree_of x.now) ∷ body_of names (tree_of y.now) ∷ [])) c in
    let sides : List ℕ → Branches = λ us. joined_branches (branches_of names x.now us) (branches_of names y.now us) in
    let P : Tree → Type 0 = λ u.
    ((all : List ℕ) → (body_of names u).goals all ≡ one_goal (choice_goal t.at (arguments all (occurrences u)) sides)) × ((us : List ℕ) → (body_of names u).branches us ≡ sides us) in
    let Q : Body → Type 0 = λ b. ((all : List ℕ) → b.goals all ≡ one_goal (choice_goal t.at (arguments all (occurrences tr)) sides)) × ((us : List ℕ) → b.branches us ≡ sides us) in
    subst P (sym s) (subst Q (sym b) (λ all. refl, λ us. refl))

-- a term whose body has one goal or none
part_of_goals : (names : List (List ℕ)) (t : ReadTerm) (tr : Tree) (gs : Goals) → tree_of t ≡ tr → body_of names tr ≡ of_goals tr (λ all. gs)
    → ((all : List ℕ) → goals_of names t all ≡ gs) × IsBranch names t
part_of_goals names t tr gs s b = (λ all. ap (λ (b : Body). b.goals all) (ap (body_of names) s ∙ b), branch_of_goals names t tr (λ all. gs) s b)

pub part_nothing : (names : List (List ℕ)) (t : ReadTerm) (f : Name) (args : Vec ReadTerm Global) → t.shape ≡ shape.Fun f args
    → connective_of (name_text names f.0) (length args.items) ≡ connective.Truth → IsPart names t part.Nothing
part_nothing names t f args is h =
    let ts : Trees = row (map tree_of args.items) in
    let tr : Tree = tree t.at (Fun f.0 ts) in
    let c : connective_of (name_text names f.0) (arity ts) ≡ connective.Truth = ap (connective_of (name_text names f.0)) (arity_terms args.items) ∙ h in
    part_of_goals names t tr no_goals (tree_of_fun t f args is) (ap (λ k. named_body names tr t.at k (argument_bodies names ts)) c)

pub part_goal : (names : List (List ℕ)) (t : ReadTerm) (f : Name) (args : Vec ReadTerm Global) (i : Item) → t.shape ≡ shape.Fun f args
    → connective_of (name_text names f.0) (length args.items) ≡ connective.Other → item_goal i ≡ atom_goal names (tree_of t) → IsPart names t (part.Goal i)
part_goal names t f args i is h g =
    let ts : Trees = row (map tree_of args.items) in
    let tr : Tree = tree t.at (Fun f.0 ts) in
    let s : tree_of t ≡ tr = tree_of_fun t f args is in
    let c : connective_of (name_text names f.0) (arity ts) ≡ connective.Other = ap (connective_of (name_text names f.0)) (arity_terms args.items) ∙ h in
    let k : atom_goal names tr ≡ item_goal i = ap (atom_goal names) (sym s) ∙ sym g in
    part_of_goals names t tr (one_goal (item_goal i)) s (ap (λ k. named_body names tr t.at k (argument_bodies names ts)) c ∙ ap (λ (g : Goal). of_goals tr (λ all. one_goal g)) k)

-- the name of a known term is known
pub name_known : (n : ℕ) (t : ReadTerm) (f : Name) (args : Vec ReadTerm Global) → t.shape ≡ shape.Fun f args → IsTrue (is_known n (tree_of t)) → f.0 < n
name_known n t f args is h =
    let P : Tree → Type 0 = λ tr. IsTrue (is_known n tr) in
    ltb-true f.0 n (and_parts (nat_lt f.0 n) _ (subst P (tree_of_fun t f args is) h)).0

-- the sides of a term have fewer nodes
pub sides_smaller : (t : ReadTerm) (f : Name) (args : Vec ReadTerm Global) (x y : Bor ReadTerm) → t.shape ≡ shape.Fun f args → args.items ≡ x.now ∷ y.now ∷ []
    → nodes (tree_of x.now) + nodes (tree_of y.now) < nodes (tree_of t)
sides_smaller t f args x y is e = omega (arith, ap nodes (shape_two t f args x.now y.now is e))

-- the goals of a query of a name with arguments
module _ (names : List (List ℕ)) (t : ReadTerm) (f : Name) (args : Vec ReadTerm Global) (is : t.shape ≡ shape.Fun f args) where
  query_at : (k : Connective) → connective_of (name_text names f.0) (length args.items) ≡ k → query_goals names (tree_of t) ≡ named_goals names (tree_of t) k (argument_goals names (row (map tree_of args.items)))
  query_at k h =
      let ts = row (map tree_of args.items) in
      let tr : Tree = tree t.at (Fun f.0 ts) in
      let s : tree_of t ≡ tr = tree_of_fun t f args is in
      ap (query_goals names) s
      ∙ ap (λ (n : ℕ). named_goals names tr (connective_of (name_text names f.0) n) (argument_goals names ts)) (arity_terms args.items)
      ∙ ap (λ (k : Connective). named_goals names tr k (argument_goals names ts)) h
      ∙ ap (λ (u : Tree). named_goals names u k (argument_goals names ts)) (sym s)

  pub query_both : (x y : ReadTerm) → args.items ≡ x ∷ y ∷ [] → connective_of (name_text names f.0) (length args.items) ≡ connective.And
      → query_goals names (tree_of t) ≡ query_goals names (tree_of x) ++ query_goals names (tree_of y)
  query_both x y e h = query_at connective.And h ∙ ap (λ (ts : List ReadTerm). named_goals names (tree_of t) connective.And (argument_goals names (row (map tree_of ts)))) e

  pub query_either : connective_of (name_text names f.0) (length args.items) ≡ connective.Or → query_goals names (tree_of t) ≡ atom_goal names (tree_of t) ∷ []
  query_either h = query_at connective.Or h

  pub query_nothing : connective_of (name_text names f.0) (length args.items) ≡ connective.Truth → query_goals names (tree_of t) ≡ []
  query_nothing h = query_at connective.Truth h

  pub query_other : (i : Item) → connective_of (name_text names f.0) (length args.items) ≡ connective.Other → item_goal i ≡ atom_goal names (tree_of t) → query_goals names (tree_of t) ≡ item_goal i ∷ []
  query_other i h g = query_at connective.Other h ∙ ap (λ (g : Goal). g ∷ []) (sym g)
