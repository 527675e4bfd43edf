-- Private.
-- How far the arguments of a goal are unified with those of a head. Nothing here has to be believed.
use Rattle.std.specs.Prelude.{◌≡◌, ℕ, ℤ, Bool, List, [], ◌∷◌, ◌++◌, option_map}
use Rattle.cti_terms.specs.declared.syntax.Term.{Term}
use Rattle.cti_terms.specs.Tree.{Tree, Integer}
use Rattle.cti_terms.specs.Unify.{Equation, Binding}
use Rattle.cti_terms.specs.UnifyFunction.{unify}
use Rattle.unifier.specs.Store.{made, full}
use Rattle.unifier.specs.Below.{LeftBelow}
use Rattle.unifier.specs.declared.raised_term.RaisedTerm.{RaisedTerm}
use Rattle.unifier.specs.Raised.{raised_tree}
use Rattle.unifier.specs.Pending.{waiting_from, IsUnified, OccurBefore, Extends, KeepsFree}

-- a term is an integer
abbrev pub IsIntegerTree : Tree → Type 0
IsIntegerTree t = (n : ℤ) × (t ≡ Integer n)

-- the equation of two raised terms under the bindings
abbrev pub pair : List Binding → RaisedTerm → RaisedTerm → List Equation
pair s l r = (full s (raised_tree l), full s (raised_tree r)) ∷ []

-- whether two terms are unified by bindings that are added
pub record IsPairUnified (before : List Binding) (l r : RaisedTerm) (now : List Binding) (found : Bool) : Type 0 where
  pub unifier : IsUnified (made before) (pair before l r) (made now) found
  pub extended : Extends now before
  pub free : KeepsFree (pair before l r) before now

-- the first i arguments are unified, and the left sides of the others are below the limit
pub record IsUnifiedTo (before : List Binding) (n m : ℕ) (ts us : List Term) (i limit : ℕ) (now : List Binding) : Type 0 where
  pub so_far : (bs : List Binding) × (made now ≡ made before ++ bs) × (unify (waiting_from before n m ts us 0) ≡ option_map (λ cs. bs ++ cs) (unify (waiting_from now n m ts us i)))
  pub left : LeftBelow limit (waiting_from now n m ts us i)
  pub inside : OccurBefore (waiting_from before n m ts us 0) (waiting_from now n m ts us i)
  pub free : KeepsFree (waiting_from before n m ts us 0) before now
  pub extended : Extends now before
