-- Private.
-- Terms and atoms under stored bindings, as copies have them. Nothing here has to be believed.
use Rattle.std.specs.Prelude.{ℕ, List, map}
use Rattle.cti_terms.specs.Tree.{Tree, instance}
use Rattle.cti_terms.specs.declared.atom_list.Atom.{Atom}
use Rattle.cti_terms.specs.declared.syntax.Term.{Term}
use Rattle.cti_terms.specs.Spell.{tree_of}
use Rattle.cti_terms.specs.Unify.{Binding}
use Rattle.cti_terms.specs.Resolve.{over, raised}
use Rattle.unifier.specs.Raised.{raise}
use Rattle.unifier.specs.Store.{full}

-- terms of the program, raised by n and under the bindings
abbrev pub copies : List Binding → ℕ → List Term → List Tree
copies s n ts = map (λ t. full s (instance (raise n) (tree_of t))) ts

-- the same of trees
abbrev pub raised_full : List Binding → ℕ → List Tree → List Tree
raised_full s n ts = map (full s) (map (instance (raise n)) ts)

-- atoms of the program, raised by n and under the bindings
abbrev pub atom_copies : List Binding → ℕ → List Atom → List Atom
atom_copies s n xs = map (over (full s)) (map (raised n) xs)
