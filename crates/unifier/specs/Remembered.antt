-- Private.
-- Pairs of terms that unification has found equal, or will. Nothing here has to be believed.
use Rattle.std.specs.Prelude.{◌≡◌, ℕ, ◌-◌, List, ◌∷◌, take, length}
use Rattle.std.specs.List.{AllByRecursion}
use Rattle.cti_terms.specs.Tree.{Tree, instance}
use Rattle.cti_terms.specs.Unify.{Equation, Binding}
use Rattle.cti_terms.specs.MostGeneral.{Solves}
use Rattle.unifier.specs.declared.equal_pairs.EqualPairs.{EqualPairs}
use Rattle.unifier.specs.declared.equal_pairs.OpenPair.{OpenPair}
use Rattle.unifier.specs.declared.raised_term.RaisedTerm.{RaisedTerm}
use Rattle.unifier.specs.declared.unification.Next.{Next}
use Rattle.unifier.specs.declared.unification.Next.TheVariants.{Solved, Failed, Bound}
use Rattle.unifier.specs.Raised.{raised_tree}
use Rattle.unifier.specs.Store.{full}
use Rattle.unifier.specs.Pending.{waiting}

-- each substitution that solves the equations makes two terms the same
abbrev pub Entails : List Equation → Tree → Tree → Type 0
Entails es t u = (a : ℕ → Tree) → Solves a es → instance a t ≡ instance a u

-- the equations, the last one put on a stack first, that were put above n others
abbrev pub above : ℕ → List Equation → List Equation
above n es = take (length es - n) es

-- two terms are the same under the bindings
abbrev pub AreEqual : List Binding → RaisedTerm → RaisedTerm → Type 0
AreEqual s l r = full s (raised_tree l) ≡ full s (raised_tree r)

-- two terms are the same where the equations of their arguments are solved
abbrev pub IsEntailed : List Binding → List Equation → OpenPair → Type 0
IsEntailed s es o = Entails (above o.below es) (full s (raised_tree o.left)) (full s (raised_tree o.right))

-- what the remembered pairs say of the bindings and of the equations that wait
pub record AreRemembered (s : List Binding) (es : List Equation) (x : EqualPairs) : Type 0 where
  pub equal : AllByRecursion (λ (p : RaisedTerm × RaisedTerm). AreEqual s p.0 p.1) x.equal.items
  pub under_way : AllByRecursion (IsEntailed s es) x.under_way.items

-- the same once the binding that comes next is made, where there is one
abbrev pub AreRememberedAfter : List Binding → Next → List (RaisedTerm × RaisedTerm) → EqualPairs → Type 0
AreRememberedAfter s Solved ps x = Unit {0}
AreRememberedAfter s Failed ps x = Unit {0}
AreRememberedAfter s (Bound y t n) ps x = AreRemembered ((y, raised_tree t) ∷ s) (waiting ((y, raised_tree t) ∷ s) ps) x

-- two terms are the same wherever the remembered pairs are right
abbrev pub IsKnown : EqualPairs → RaisedTerm → RaisedTerm → Type 0
IsKnown x l r = (s : List Binding) (es : List Equation) → AreRemembered s es x → AreEqual s l r
