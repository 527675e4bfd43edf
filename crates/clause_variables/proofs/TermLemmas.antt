-- Lemmas on terms of the code and their variables.
use Rattle.std.proofs.Common.{◌≡◌, ℕ, ℤ, ◌+◌, ◌*◌, ◌<◌, suc, List, [], ◌∷◌, ◌++◌, map, refl, ap, sym, ◌∙◌, append_assoc, append-nil, arith, IsTrue, Vec, Global, Bor}
use Rattle.std.specs.List.{AllByRecursion}
use Rattle.std.proofs.lemmas.Bool.{and_parts, ltb-true}
use Rattle.clause_variables.proofs.ListLemmas.{all_append}
use Rattle.cti_terms.specs.declared.naming.Name.{Name}
use Rattle.prolog_grammar.specs.Placed.{Tree, tree, Shape, Var, Int, Fun, Trees, no_trees, more_trees}
use Rattle.prolog_terms.specs.declared.term.ReadTerm.{ReadTerm}
use Rattle.prolog_terms.specs.declared.term.ReadShape.TheVariants as shape
use Rattle.prolog_terms.specs.Clauses.{row, nodes, all_nodes, is_below, shape_below, all_below}
use Rattle.prolog_terms.specs.Terms.{tree_of}
use Rattle.prolog_reader.proofs.ViewLemmas.{tree_of_fun, tree_of_var, tree_of_int}
use Rattle.clause_variables.specs.Terms.{plain_shape, variables, plain_terms, occurrences, list_variables, all_variables}
use Rattle.clause_variables.specs.TermViews.{plain_of}
use Rattle.clause_variables.specs.Stacks.{stack_variables, stack_work, list_work}

-- the variables of arguments
all_variables_row : (ts : List ReadTerm) → all_variables (plain_terms (row (map tree_of ts))) ≡ list_variables (map plain_of ts)
all_variables_row [] = refl
all_variables_row (t ∷ ts) = ap (λ (xs : List ℕ). occurrences (tree_of t) ++ xs) (all_variables_row ts)

-- the variables of each kind of term
pub occurrences_var : (t : ReadTerm) (x : ℕ) → t.shape ≡ shape.Var x → occurrences (tree_of t) ≡ x ∷ []
occurrences_var t x is = ap occurrences (tree_of_var t x is)

pub occurrences_int : (t : ReadTerm) (n : ℤ) → t.shape ≡ shape.Int n → occurrences (tree_of t) ≡ []
occurrences_int t n is = ap occurrences (tree_of_int t n is)

pub occurrences_fun : (t : ReadTerm) (f : Name) (args : Vec ReadTerm Global) → t.shape ≡ shape.Fun f args → occurrences (tree_of t) ≡ list_variables (map plain_of args.items)
occurrences_fun t f args is = ap occurrences (tree_of_fun t f args is) ∙ all_variables_row args.items

-- the nodes of each kind of term
pub nodes_fun : (t : ReadTerm) (f : Name) (args : Vec ReadTerm Global) → t.shape ≡ shape.Fun f args → nodes (tree_of t) ≡ suc (all_nodes (row (map tree_of args.items)))
nodes_fun t f args is = ap nodes (tree_of_fun t f args is)

-- one element more on a stack
pub stack_variables_push : (s : List (Bor (List ReadTerm))) (t : Bor (List ReadTerm)) → stack_variables (s ++ t ∷ []) ≡ list_variables (map plain_of t.now) ++ stack_variables s
stack_variables_push [] t = sym (append-nil (list_variables (map plain_of t.now)))
stack_variables_push (u ∷ s) t =
    ap (λ (xs : List ℕ). xs ++ list_variables (map plain_of u.now)) (stack_variables_push s t)
    ∙ append_assoc (list_variables (map plain_of t.now)) (stack_variables s) (list_variables (map plain_of u.now))

pub stack_work_push : (s : List (Bor (List ReadTerm))) (t : Bor (List ReadTerm)) → stack_work (s ++ t ∷ []) ≡ stack_work s + list_work t.now
stack_work_push [] t = refl
stack_work_push (u ∷ s) t = omega (arith, stack_work_push s t)

abbrev pub Stack : Type 0
Stack = List (Bor (List ReadTerm))

-- the terms on top of a stack, taken off
popped : (stack below : Stack) (ts : Bor (List ReadTerm)) → stack ≡ below ++ ts ∷ []
    → (stack_variables stack ≡ list_variables (map plain_of ts.now) ++ stack_variables below) × (stack_work stack ≡ stack_work below + list_work ts.now)
popped stack below ts e = (ap stack_variables e ∙ stack_variables_push below ts, ap stack_work e ∙ stack_work_push below ts)

-- no term on top
pub step_none : (stack below : Stack) (ts : Bor (List ReadTerm)) → stack ≡ below ++ ts ∷ [] → ts.now ≡ []
    → (stack_variables stack ≡ stack_variables below) × (stack_work below < stack_work stack)
step_none stack below ts e none =
    let p = popped stack below ts e in
    (p.0 ∙ ap (λ (us : List ReadTerm). list_variables (map plain_of us) ++ stack_variables below) none, omega (arith, p.1))

-- a variable on top
pub step_var : (stack below after : Stack) (ts rest : Bor (List ReadTerm)) (t : ReadTerm) (x : ℕ) → stack ≡ below ++ ts ∷ [] → ts.now ≡ t ∷ rest.now → t.shape ≡ shape.Var x → after ≡ below ++ rest ∷ []
    → (stack_variables stack ≡ x ∷ stack_variables after) × (stack_work after < stack_work stack)
step_var stack below after ts rest t x e some is f =
    let p = popped stack below ts e in
    let q = popped after below rest f in
    let n : nodes (tree_of t) ≡ 1 = ap nodes (tree_of_var t x is) in
    let w : list_work ts.now ≡ 1 + 2 * (nodes (tree_of t) + all_nodes (row (map tree_of rest.now))) = ap list_work some in (
      p.0 ∙ ap (λ (us : List ReadTerm). list_variables (map plain_of us) ++ stack_variables below) some
          ∙ ap (λ (xs : List ℕ). (xs ++ list_variables (map plain_of rest.now)) ++ stack_variables below) (occurrences_var t x is)
          ∙ ap (λ (xs : List ℕ). x ∷ xs) (sym q.0),
      omega (arith, p.1, q.1, n, w),
    )

-- an integer on top
pub step_int : (stack below after : Stack) (ts rest : Bor (List ReadTerm)) (t : ReadTerm) (i : ℤ) → stack ≡ below ++ ts ∷ [] → ts.now ≡ t ∷ rest.now → t.shape ≡ shape.Int i → after ≡ below ++ rest ∷ []
    → (stack_variables stack ≡ stack_variables after) × (stack_work after < stack_work stack)
step_int stack below after ts rest t i e some is f =
    let p = popped stack below ts e in
    let q = popped after below rest f in
    let n : nodes (tree_of t) ≡ 1 = ap nodes (tree_of_int t i is) in
    let w : list_work ts.now ≡ 1 + 2 * (nodes (tree_of t) + all_nodes (row (map tree_of rest.now))) = ap list_work some in (
      p.0 ∙ ap (λ (us : List ReadTerm). list_variables (map plain_of us) ++ stack_variables below) some
          ∙ ap (λ (xs : List ℕ). (xs ++ list_variables (map plain_of rest.now)) ++ stack_variables below) (occurrences_int t i is)
          ∙ sym q.0,
      omega (arith, p.1, q.1, n, w),
    )

-- a name with arguments on top
pub step_fun : (stack below after : Stack) (ts rest us : Bor (List ReadTerm)) (t : ReadTerm) (f : Name) (args : Vec ReadTerm Global) → stack ≡ below ++ ts ∷ [] → ts.now ≡ t ∷ rest.now → t.shape ≡ shape.Fun f args
    → us.now ≡ args.items → after ≡ (below ++ rest ∷ []) ++ us ∷ []
    → (stack_variables stack ≡ stack_variables after) × (stack_work after < stack_work stack)
step_fun stack below after ts rest us t f args e some is same g =
    let p = popped stack below ts e in
    let q = popped after (below ++ rest ∷ []) us g in
    let r = popped (below ++ rest ∷ []) below rest refl in
    let vs : List ReadTerm → List ℕ = λ xs. list_variables (map plain_of xs) in
    let n = nodes_fun t f args is in
    let w : list_work ts.now ≡ 1 + 2 * (nodes (tree_of t) + all_nodes (row (map tree_of rest.now))) = ap list_work some in
    let u : list_work us.now ≡ 1 + 2 * all_nodes (row (map tree_of args.items)) = ap list_work same in (
      p.0 ∙ ap (λ (us : List ReadTerm). vs us ++ stack_variables below) some
          ∙ ap (λ (xs : List ℕ). (xs ++ vs rest.now) ++ stack_variables below) (occurrences_fun t f args is)
          ∙ append_assoc (vs args.items) (vs rest.now) (stack_variables below)
          ∙ ap (λ (xs : List ℕ). vs args.items ++ xs) (sym r.0)
          ∙ ap (λ (xs : List ReadTerm). vs xs ++ stack_variables (below ++ rest ∷ [])) (sym same)
          ∙ sym q.0,
      omega (arith, p.1, q.1, r.1, n, w, u),
    )

mutual
  -- the variables of a term are below what its variables are below
  pub below_occurrences : (n : ℕ) (t : Tree) → IsTrue (is_below n t) → AllByRecursion (λ (x : ℕ). x < n) (occurrences t)
  below_occurrences n (tree at s) h = below_shape n s h

  below_shape : (n : ℕ) (s : Shape) → IsTrue (shape_below n s) → AllByRecursion (λ (x : ℕ). x < n) (variables (plain_shape s))
  below_shape n (Var x) h = (ltb-true x n h, tt)
  below_shape n (Int i) h = tt
  below_shape n (Fun f ts) h = below_all n ts h

  below_all : (n : ℕ) (ts : Trees) → IsTrue (all_below n ts) → AllByRecursion (λ (x : ℕ). x < n) (all_variables (plain_terms ts))
  below_all n no_trees h = tt
  below_all n (more_trees t ts) h =
      let p = and_parts (is_below n t) (all_below n ts) h in
      all_append (λ (x : ℕ). x < n) (occurrences t) (all_variables (plain_terms ts)) (below_occurrences n t p.0) (below_all n ts p.1)
