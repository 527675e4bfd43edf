-- Private.
-- What the kinds of raised terms spell. Nothing here has to be believed.
use Rattle.std.specs.Prelude.{◌≡◌, ℕ, ◌<◌, ◌^◌, List, None}
use Rattle.cti_terms.specs.Tree.{Tree, all_instances}
use Rattle.cti_terms.specs.Spell.{trees_of}
use Rattle.unifier.specs.declared.raised_term.Met.{Met}
use Rattle.unifier.specs.declared.raised_term.Shape.{Shape}
use Rattle.unifier.specs.declared.raised_term.Shape.TheVariants.{Variable, Integer, Compound}
use Rattle.cti_terms.specs.Unify.{Binding}
use Rattle.unifier.specs.Raised.{raise, raised_tree}
use Rattle.unifier.specs.Store.{stored, full, all_full, IsOpen}

-- the tree of a raised term of this kind
abbrev pub shape_tree : ℕ → Shape → Tree
shape_tree n (Variable x) = Tree.Variable x
shape_tree n (Integer i) = Tree.Integer i.now
shape_tree n (Compound f args) = Tree.Compound f.0 (all_instances (raise n) (trees_of args.now))

-- a variable's number has 33 bits at most
abbrev pub IsSmall : Shape → Type 0
IsSmall (Variable x) = x < 2 ^ 33
IsSmall (Integer i) = Unit {0}
IsSmall (Compound f args) = Unit {0}

-- the tree of a term of this kind under the bindings, where a variable is free
abbrev pub shape_full : List Binding → ℕ → Shape → Tree
shape_full s n (Variable x) = Tree.Variable x
shape_full s n (Integer i) = Tree.Integer i.now
shape_full s n (Compound f args) = Tree.Compound f.0 (all_full s (all_instances (raise n) (trees_of args.now)))

-- a variable is free
abbrev pub IsFree : List Binding → Shape → Type 0
IsFree s (Variable x) = stored s x ≡ None
IsFree s (Integer i) = Unit {0}
IsFree s (Compound f args) = Unit {0}

-- a term that is not a bound variable, with its kind
pub record IsMet (s : List Binding) (m : Met) : Type 0 where
  pub tree : full s (raised_tree m.term) ≡ shape_full s m.term.base m.shape
  pub followed : IsOpen s (raised_tree m.term)
  pub small : IsSmall m.shape
  pub free : IsFree s m.shape
