-- To believe, for a Yes.
-- Unification as a function that computes, and ends on all equations.
--
-- A binding takes a variable out of the equations, and every other step takes nodes out. So the function counts
-- two numbers down: how many variables occur, and how many nodes are there until the next binding.
--
-- It takes the first step of the first equation, again and again, until no equation is left; the two numbers only make
-- the recursion end. `unification_is_a_function` of `src/laws.rt` proves that neither runs out before, and that what is
-- computed is what the relation `Unifies` says, which a reader of the modes need not know.
use Rattle.std.specs.Prelude.{ℕ, zero, suc, max, ◌+◌, Bool, false, ◌||◌, cond, List, [], ◌∷◌, ◌++◌, Option, None, Some, option_map}
use Rattle.cti_terms.specs.Tree.{Tree, Trees, Variable, Integer, Compound, End, More, nodes_of}
use Rattle.cti_terms.specs.Unify.{Equation, Binding, Step, Dropped, Bound, Split, Failed, first_step, replaced, occurs}

-- how many nodes the equations have together
abbrev pub work : List Equation → ℕ
work [] = 0
work (e ∷ es) = (nodes_of e.0 + nodes_of e.1) + work es

-- whether the variable x occurs in the equations
abbrev pub occurs_in : ℕ → List Equation → Bool
occurs_in x [] = false
occurs_in x (e ∷ es) = (occurs x e.0 || occurs x e.1) || occurs_in x es

abbrev mutual
  -- a number above each variable of a term
  pub above : Tree → ℕ
  above (Variable x) = suc x
  above (Integer n) = 0
  above (Compound f ts) = above_all ts

  -- a number above each variable of the arguments
  pub above_all : Trees → ℕ
  above_all End = 0
  above_all (More t ts) = max (above t) (above_all ts)

-- a number above each variable of the equations
abbrev pub above_equations : List Equation → ℕ
above_equations [] = 0
above_equations (e ∷ es) = max (max (above e.0) (above e.1)) (above_equations es)

-- how many of the variables below n occur
abbrev pub occurring : ℕ → List Equation → ℕ
occurring zero es = 0
occurring (suc n) es = cond (occurs_in n es) 1 0 + occurring n es

-- how unification goes on after a step: by `again` where nothing was bound, by `bound_on` after a binding
abbrev pub after : (List Equation → Option (List Binding)) → (List Equation → Option (List Binding)) → Step → List Equation → Option (List Binding)
after again bound_on Dropped es = again es
after again bound_on (Bound x v) es = option_map (λ bs. (x, v) ∷ bs) (bound_on (replaced x v es))
after again bound_on (Split qs) es = again (qs ++ es)
after again bound_on Failed es = None

-- unification up to the first binding, in at most n steps
abbrev pub unify_to : (List Equation → Option (List Binding)) → ℕ → List Equation → Option (List Binding)
unify_to bound_on n [] = Some []
unify_to bound_on zero (e ∷ es) = None
unify_to bound_on (suc n) (e ∷ es) = after (unify_to bound_on n) bound_on (first_step e.0 e.1) es

-- unification with at most v bindings
abbrev pub unify_with : ℕ → List Equation → Option (List Binding)
unify_with zero es = unify_to (λ _. None) (work es) es
unify_with (suc v) es = unify_to (unify_with v) (work es) es

-- the unifier of the equations, if there is one
abbrev pub unify : List Equation → Option (List Binding)
unify es = unify_with (occurring (above_equations es) es) es
