-- Private.
-- Terms and equations that wait on a stack, and what they are under the stored bindings. Nothing here has to be
-- believed.
use Rattle.std.specs.Prelude.{◌≡◌, ℕ, ◌+◌, ◌<◌, ◌^◌, Bool, false, ◌||◌, true, List, [], ◌∷◌, ◌++◌, map, reverse, drop, None, Some, option_map}
use Rattle.cti_terms.specs.Tree.{Tree, Trees, nodes_of, all_instances}
use Rattle.cti_terms.specs.declared.syntax.Term.{Term}
use Rattle.cti_terms.specs.Spell.{trees_of}
use Rattle.cti_terms.specs.Unify.{Equation, Binding, Step, occurs, pairs, replaced}
use Rattle.cti_terms.specs.UnifyFunction.{unify, occurs_in}
use Rattle.cti_terms.specs.Below.{TermBelow}
use Rattle.unifier.specs.declared.raised_term.RaisedTerm.{RaisedTerm}
use Rattle.unifier.specs.declared.unification.Found.{Found}
use Rattle.unifier.specs.declared.unification.Found.TheVariants.{Nothing, Binds, Arguments, Clash}
use Rattle.unifier.specs.declared.unification.Next.{Next}
use Rattle.unifier.specs.declared.unification.Next.TheVariants.{Solved, Failed, Bound}
use Rattle.unifier.specs.Raised.{raised_tree, raise}
use Rattle.unifier.specs.Store.{stored, full, all_full, MayBind}
use Rattle.unifier.specs.Below.{LeftBelow}

-- the trees of raised terms
abbrev pub raw : List RaisedTerm → List Tree
raw = map raised_tree

-- the sum of the nodes of terms under the bindings
abbrev pub weight : List Binding → List Tree → ℕ
weight s [] = 0
weight s (t ∷ ts) = nodes_of (full s t) + weight s ts

-- whether a variable occurs in one of the terms under the bindings
abbrev pub occurs_left : List Binding → ℕ → List Tree → Bool
occurs_left s x [] = false
occurs_left s x (t ∷ ts) = occurs x (full s t) || occurs_left s x ts

-- the equation of two raised terms
abbrev pub equation_of : RaisedTerm × RaisedTerm → Equation
equation_of p = (raised_tree p.0, raised_tree p.1)

-- the equations on a stack, the last one on it first
abbrev pub raw_equations : List (RaisedTerm × RaisedTerm) → List Equation
raw_equations ps = reverse (map equation_of ps)

-- equations under the bindings
abbrev pub under_bindings : List Binding → List Equation → List Equation
under_bindings s es = map (λ e. (full s e.0, full s e.1)) es

-- the equations that wait, under the bindings
abbrev pub waiting : List Binding → List (RaisedTerm × RaisedTerm) → List Equation
waiting s ps = under_bindings s (raw_equations ps)

-- arguments with their variables raised, under the bindings
abbrev pub args_full : List Binding → ℕ → List Term → Trees
args_full s n ts = all_full s (all_instances (raise n) (trees_of ts))

-- the equations of arguments from number i on, counted from 0, under the bindings
abbrev pub waiting_from : List Binding → ℕ → ℕ → List Term → List Term → ℕ → List Equation
waiting_from s n m ts us i = under_bindings s (pairs (all_instances (raise n) (trees_of (drop i ts))) (all_instances (raise m) (trees_of (drop i us))))

-- equations whose left sides are below n under the bindings before have left sides below m under the bindings now
abbrev pub StaysBelow : ℕ → List Binding → ℕ → List Binding → Type 0
StaysBelow n before m now = (es : List Equation) → LeftBelow n (under_bindings before es) → LeftBelow m (under_bindings now es)

-- the step of the definition that the code found, at terms with their variables raised by n and by m
abbrev pub step_of : List Binding → ℕ → ℕ → Found → Step
step_of s n m Nothing = Step.Dropped
step_of s n m (Binds x t above) = Step.Bound x (full s (raised_tree t))
step_of s n m (Arguments ts us) = Step.Split (pairs (args_full s n ts.now) (args_full s m us.now))
step_of s n m Clash = Step.Failed

-- whether the step of two compound terms is to these equations of their arguments, or fails
abbrev pub AgreeAs : Bool → Step → List Equation → Type 0
AgreeAs true found qs = Step.Split qs ≡ found
AgreeAs false found qs = Step.Failed ≡ found

-- the binding that was found may be made, and its number is above the variables of its term
abbrev pub IsFit : List Binding → Found → Type 0
IsFit s Nothing = Unit {0}
IsFit s (Binds x t above) = (x < 2 ^ 33) × MayBind s x (raised_tree t) × TermBelow above (full s (raised_tree t))
IsFit s (Arguments ts us) = Unit {0}
IsFit s Clash = Unit {0}

-- each variable that occurs now occurred before
abbrev pub OccurBefore : List Equation → List Equation → Type 0
OccurBefore before now = (y : ℕ) → occurs_in y now ≡ true → occurs_in y before ≡ true

-- the unifier of equations goes on with this binding and these equations, in which its variable no longer occurs
pub record GoesOn (before : List Equation) (x : ℕ) (t : Tree) (now : List Equation) : Type 0 where
  pub unifier : unify before ≡ option_map (λ bs. (x, t) ∷ bs) (unify now)
  pub inside : OccurBefore before now
  pub there : occurs_in x before ≡ true
  pub gone : occurs_in x now ≡ false

-- what comes next in the unifier of these equations
abbrev pub IsNext : List Binding → List Equation → Next → List Equation → Type 0
IsNext s before Solved left = unify before ≡ Some []
IsNext s before Failed left = unify before ≡ None
IsNext s before (Bound x t above) left = (x < 2 ^ 33) × MayBind s x (raised_tree t) × TermBelow above (full s (raised_tree t)) × GoesOn before x (full s (raised_tree t)) (replaced x (full s (raised_tree t)) left)

-- whether the bindings went on by the unifier of these equations
abbrev pub IsUnified : List Binding → List Equation → List Binding → Bool → Type 0
IsUnified made_before es made_now true = (bs : List Binding) × (unify es ≡ Some bs) × (made_now ≡ made_before ++ bs)
IsUnified made_before es made_now false = unify es ≡ None

-- bindings with more bindings before them in the list, which were made later
abbrev pub Extends : List Binding → List Binding → Type 0
Extends now before = (more : List Binding) × (now ≡ more ++ before)

-- a free variable that does not occur in the equations stays free
abbrev pub KeepsFree : List Equation → List Binding → List Binding → Type 0
KeepsFree es before now = (y : ℕ) → occurs_in y es ≡ false → stored before y ≡ None → stored now y ≡ None
