-- To believe, for a Yes.
-- A step of left-to-right resolution.
--
-- A built-in atom at the front of a goal goes away where it succeeds, and its bindings are applied to the other atoms.
--
-- A clause resolves a goal where its head has the predicate of the goal's first atom and unifies with it, once
-- each variable of the clause is raised by the goal's counter. The first atom makes way for the clause's body,
-- the unifier is applied to the whole goal, and the counter goes up by the clause's number of variables.
--
-- To believe: `raised`, `left_by`, `resolve_itself`, `resolve`. `ResolutionStep.antt` says the same as a relation.
-- Source: LD-resolution, with one stated unifier and one stated renaming.
use Rattle.std.specs.Prelude.{ℕ, zero, suc, ◌+◌, ◌==◌, if◌then◌else◌, List, [], ◌∷◌, ◌++◌, map, slice_get, Option, None, option_map, option_and_then}
use Rattle.cti_terms.specs.Tree.{Tree, Variable, instance, trees}
use Rattle.cti_terms.specs.declared.atom_list.Atom.{Atom}
use Rattle.cti_terms.specs.declared.clauses.Clause.{Clause}
use Rattle.cti_terms.specs.declared.derivation.Goal.{Goal}
use Rattle.cti_terms.specs.Arithmetic.{Arithmetic, passes}
use Rattle.cti_terms.specs.Listing.{Listing}
use Rattle.cti_terms.specs.Unify.{Equation, Binding, pairs, applied}
use Rattle.cti_terms.specs.UnifyFunction.{unify}

-- an atom with f at each argument
abbrev pub over : (Tree → Tree) → Atom → Atom
over f a = record { pred = a.pred; args = map f a.args }

-- an atom with each variable raised by n
abbrev pub raised : ℕ → Atom → Atom
raised n a = over (instance (λ x. Variable (x + n))) a

-- the equations of an atom's arguments with those of a raised head, the atom's on the left
abbrev pub head_equations : Atom → ℕ → Clause → List Equation
head_equations a n c = pairs (trees a.args) (trees (raised n c.head).args)

-- the goal that a clause leaves in the place of the first atom, under the bindings bs
abbrev pub left_by : List Binding → List Atom → ℕ → Clause → Goal
left_by bs rest n c = record { atoms = map (over (applied bs)) (map (raised n) c.body ++ rest); fresh = n + c.vars }

-- the unifier with the goal that it leaves
abbrev pub answered : List Atom → ℕ → Clause → List Binding → List Binding × Goal
answered rest n c bs = (bs, left_by bs rest n c)

-- the unifier and the goal that is left, if a clause resolves a goal of these atoms and this counter
abbrev pub resolve_by : List Atom → ℕ → Clause → Option (List Binding × Goal)
resolve_by [] n c = None
resolve_by (a ∷ rest) n c =
    if a.pred.0 == c.head.pred.0
    then option_map (answered rest n c) (unify (head_equations a n c))
    else None

-- the bindings of a built-in atom at the front of a goal, and the goal that is left: the other atoms under them
abbrev pub passed : List Atom → ℕ → List Binding → List Binding × Goal
passed rest n bs = (bs, record { atoms = map (over (applied bs)) rest; fresh = n })

-- the same, if the first atom is built in and succeeds
abbrev pub resolve_itself : Arithmetic → List Atom → ℕ → Option (List Binding × Goal)
resolve_itself ar [] n = None
resolve_itself ar (a ∷ rest) n = option_map (passed rest n) (passes ar a)

-- the unifier and the goal that is left, if the clause of this number resolves a goal; number 0 stands for the built-in
-- atom at its front
abbrev pub resolve : Listing → Goal → ℕ → Option (List Binding × Goal)
resolve p g zero = resolve_itself p.arithmetic g.atoms g.fresh
resolve p g (suc i) = option_and_then (resolve_by g.atoms g.fresh) (slice_get p.clauses i)
