-- Lemmas on the nodes that are left on a stack.
use Rattle.std.proofs.Common.{◌≡◌, ℕ, ℤ, ◌+◌, ◌<◌, suc, List, [], ◌∷◌, ◌++◌, length, refl, ap, ◌∙◌, arith, length-append, Vec, Global, Bor}
use Rattle.cti_terms.specs.declared.naming.Name.{Name}
use Rattle.prolog_terms.specs.declared.term.ReadTerm.{ReadTerm}
use Rattle.prolog_terms.specs.declared.term.ReadShape.TheVariants as shape
use Rattle.prolog_terms.specs.Clauses.{nodes}
use Rattle.prolog_terms.specs.Terms.{tree_of}
use Rattle.prolog_reader.proofs.ViewLemmas.{tree_of_fun, tree_of_var, tree_of_int}
use Rattle.cti_session.specs.Stacks.{list_nodes, stack_nodes, stack_work}

abbrev pub Stack : Type 0
Stack = List (Bor (List ReadTerm))

-- one list of terms more on a stack
stack_nodes_push : (s : Stack) (ts : Bor (List ReadTerm)) → stack_nodes (s ++ ts ∷ []) ≡ stack_nodes s + list_nodes ts.now
stack_nodes_push [] ts = refl
stack_nodes_push (us ∷ s) ts = omega (arith, stack_nodes_push s ts)

-- what is left of a stack is less by a node, or by a list without terms
pub record IsCounted (stack after : Stack) : Type 0 where
  pub nodes : stack_nodes stack ≡ suc (stack_nodes after)
  pub work : stack_work after < stack_work stack

pub record IsSame (stack after : Stack) : Type 0 where
  pub nodes : stack_nodes stack ≡ stack_nodes after
  pub work : stack_work after < stack_work stack

-- no term on top
pub count_none : (stack below : Stack) (ts : Bor (List ReadTerm)) → stack ≡ below ++ ts ∷ [] → ts.now ≡ [] → IsSame stack below
count_none stack below ts e none =
    let n : stack_nodes stack ≡ stack_nodes below + 0 = ap stack_nodes e ∙ stack_nodes_push below ts ∙ ap (λ us. stack_nodes below + list_nodes us) none in
    let l : length stack ≡ length below + 1 = ap length e ∙ length-append below (ts ∷ []) in
    record { nodes = omega (arith, n); work = omega (arith, n, l) }

-- a term without arguments on top
count_leaf : (stack below after : Stack) (ts rest : Bor (List ReadTerm)) (t : ReadTerm) → stack ≡ below ++ ts ∷ [] → ts.now ≡ t ∷ rest.now → nodes (tree_of t) ≡ 1 → after ≡ below ++ rest ∷ [] → IsCounted stack after
count_leaf stack below after ts rest t e some one f =
    let n : stack_nodes stack ≡ stack_nodes below + (nodes (tree_of t) + list_nodes rest.now) = ap stack_nodes e ∙ stack_nodes_push below ts ∙ ap (λ us. stack_nodes below + list_nodes us) some in
    let m : stack_nodes after ≡ stack_nodes below + list_nodes rest.now = ap stack_nodes f ∙ stack_nodes_push below rest in
    let l : length stack ≡ length below + 1 = ap length e ∙ length-append below (ts ∷ []) in
    let k : length after ≡ length below + 1 = ap length f ∙ length-append below (rest ∷ []) in
    record { nodes = omega (arith, n, m, one); work = omega (arith, n, m, one, l, k) }

pub count_var : (stack below after : Stack) (ts rest : Bor (List ReadTerm)) (t : ReadTerm) (x : ℕ) → stack ≡ below ++ ts ∷ [] → ts.now ≡ t ∷ rest.now → t.shape ≡ shape.Var x → after ≡ below ++ rest ∷ [] → IsCounted stack after
count_var stack below after ts rest t x e some is f = count_leaf stack below after ts rest t e some (ap nodes (tree_of_var t x is)) f

pub count_int : (stack below after : Stack) (ts rest : Bor (List ReadTerm)) (t : ReadTerm) (i : ℤ) → stack ≡ below ++ ts ∷ [] → ts.now ≡ t ∷ rest.now → t.shape ≡ shape.Int i → after ≡ below ++ rest ∷ [] → IsCounted stack after
count_int stack below after ts rest t i e some is f = count_leaf stack below after ts rest t e some (ap nodes (tree_of_int t i is)) f

-- a term with arguments on top
pub count_fun : (stack below middle after : Stack) (ts rest us : Bor (List ReadTerm)) (t : ReadTerm) (f : Name) (args : Vec ReadTerm Global) → stack ≡ below ++ ts ∷ [] → ts.now ≡ t ∷ rest.now → t.shape ≡ shape.Fun f args
    → us.now ≡ args.items → middle ≡ below ++ rest ∷ [] → after ≡ middle ++ us ∷ [] → IsCounted stack after
count_fun stack below middle after ts rest us t f args e some is same g h =
    let one : nodes (tree_of t) ≡ suc (list_nodes args.items) = ap nodes (tree_of_fun t f args is) in
    let n : stack_nodes stack ≡ stack_nodes below + (nodes (tree_of t) + list_nodes rest.now) = ap stack_nodes e ∙ stack_nodes_push below ts ∙ ap (λ us. stack_nodes below + list_nodes us) some in
    let m : stack_nodes middle ≡ stack_nodes below + list_nodes rest.now = ap stack_nodes g ∙ stack_nodes_push below rest in
    let a : stack_nodes after ≡ stack_nodes middle + list_nodes args.items = ap stack_nodes h ∙ stack_nodes_push middle us ∙ ap (λ us. stack_nodes middle + list_nodes us) same in
    let l : length stack ≡ length below + 1 = ap length e ∙ length-append below (ts ∷ []) in
    let k : length middle ≡ length below + 1 = ap length g ∙ length-append below (rest ∷ []) in
    let j : length after ≡ length middle + 1 = ap length h ∙ length-append middle (us ∷ []) in
    record { nodes = omega (arith, n, m, a, one); work = omega (arith, n, m, a, one, l, k, j) }
