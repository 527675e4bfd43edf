-- To believe, for a Yes.
-- Unification with the occurs check: what one step does, and when bindings unify equations.
--
-- Equations are solved in order, the first one first. A binding replaces its variable in all other equations.
-- Where both sides are variables, the left one is bound. Equations without such a way have no unifier.
--
-- To believe: `first_step`, a table of nine rows; `Unifies`, its repetition; `applied`, what bindings do to a term.
-- Laws of them depend on `unification_is_a_function` of `src/laws.rt`.
-- Source: Herbrand's unification algorithm, as in ISO/IEC 13211-1:1995, with one order of its steps.
use Rattle.std.specs.Prelude.{◌≡◌, ℕ, Bool, false, ◌&&◌, ◌||◌, ◌==◌, if◌then◌else◌, List, [], ◌∷◌, ◌++◌, map}
use Rattle.std.specs.Ordering.{int_eq}
use Rattle.cti_terms.specs.Tree.{Tree, Trees, Variable, Integer, Compound, End, More, instance, arity}

-- two terms that have to become the same
abbrev pub Equation : Type 0
Equation = Tree × Tree

-- a variable and the term that it is bound to
abbrev pub Binding : Type 0
Binding = ℕ × Tree

abbrev mutual
  -- whether the variable x occurs in a term
  pub occurs : ℕ → Tree → Bool
  occurs x (Variable y) = x == y
  occurs x (Integer n) = false
  occurs x (Compound f ts) = occurs_among x ts

  -- whether it occurs in one of the arguments
  pub occurs_among : ℕ → Trees → Bool
  occurs_among x End = false
  occurs_among x (More t ts) = occurs x t || occurs_among x ts

-- the substitution of t for the variable x alone
abbrev pub only : ℕ → Tree → ℕ → Tree
only x t y = if x == y then t else Variable y

-- the equations of arguments, in order
abbrev pub pairs : Trees → Trees → List Equation
pairs End us = []
pairs (More t ts) End = []
pairs (More t ts) (More u us) = (t, u) ∷ pairs ts us

-- what the first equation asks for: nothing, a binding, other equations in its place, or it fails
pub data Step : Type 0 where
  Dropped : Step
  Bound : ℕ → Tree → Step
  Split : List Equation → Step
  Failed : Step

-- the binding of x to t, unless x occurs in t
abbrev pub bound : ℕ → Tree → Step
bound x t = if occurs x t then Failed else Bound x t

-- the step of an equation, by the kinds of its two sides
abbrev pub first_step : Tree → Tree → Step
first_step (Variable x) (Variable y) = if x == y then Dropped else Bound x (Variable y)
first_step (Variable x) (Integer n) = Bound x (Integer n)
first_step (Variable x) (Compound f ts) = bound x (Compound f ts)
first_step (Integer m) (Variable x) = Bound x (Integer m)
first_step (Integer m) (Integer n) = if int_eq m n then Dropped else Failed
first_step (Integer m) (Compound f ts) = Failed
first_step (Compound f ts) (Variable x) = bound x (Compound f ts)
first_step (Compound f ts) (Integer n) = Failed
first_step (Compound f ts) (Compound g us) = if (f == g) && (arity ts == arity us) then Split (pairs ts us) else Failed

-- the equations with t for x on both sides of each
abbrev pub replaced : ℕ → Tree → List Equation → List Equation
replaced x t es = map (λ e. (instance (only x t) e.0, instance (only x t) e.1)) es

-- the equations are unified by these bindings, of which the first is made first
pub data Unifies : List Equation → List Binding → Type 0 where
  none : Unifies [] []
  drop : {t u : Tree} {es : List Equation} {bs : List Binding} → first_step t u ≡ Dropped → Unifies es bs → Unifies ((t, u) ∷ es) bs
  bind : {t u v : Tree} {x : ℕ} {es : List Equation} {bs : List Binding} → first_step t u ≡ Bound x v → Unifies (replaced x v es) bs → Unifies ((t, u) ∷ es) ((x, v) ∷ bs)
  split : {t u : Tree} {qs es : List Equation} {bs : List Binding} → first_step t u ≡ Split qs → Unifies (qs ++ es) bs → Unifies ((t, u) ∷ es) bs

-- a term after each binding in turn
abbrev pub applied : List Binding → Tree → Tree
applied [] t = t
applied (b ∷ bs) t = applied bs (instance (only b.0 b.1) t)
