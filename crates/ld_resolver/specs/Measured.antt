-- Private.
-- Nodes and depth of a query's terms under the bindings. Nothing here has to be believed.
use Rattle.std.specs.Prelude.{ℕ, nat_eq, List, map, flat_map}
use Rattle.std.specs.List.{position_or_len}
use Rattle.cti_terms.specs.Tree.{Tree, Trees, Variable, instance, all_instances}
use Rattle.cti_terms.specs.declared.atom_list.Atom.{Atom}
use Rattle.cti_terms.specs.Unify.{Binding}
use Rattle.cti_terms.specs.Resolve.{over}
use Rattle.cti_terms.specs.Answers.{all_written, numbered_by}
use Rattle.cti_terms.specs.declared.syntax.Term.{Term}
use Rattle.cti_terms.specs.Spell.{tree_of}
use Rattle.unifier.specs.Raised.{raise}
use Rattle.unifier.specs.Store.{full}

-- the atoms of a query under the bindings
abbrev pub answered_atoms : List Binding → List Atom → List Atom
answered_atoms s atoms = map (over (full s)) atoms

-- the same as the terms that they are written as
abbrev pub answered_terms : List Binding → List Atom → Trees
answered_terms s atoms = all_written (answered_atoms s atoms)

-- the arguments of atoms, as one list
abbrev pub all_arguments : List Atom → List Tree
all_arguments = flat_map (λ a. a.args)

-- arguments with the place of each variable among these in its stead
abbrev pub all_numbered_by : List ℕ → Trees → Trees
all_numbered_by xs = all_instances (λ x. Variable (position_or_len (nat_eq x) xs))

-- the same of terms of the program, raised by n and under the bindings
abbrev pub args_numbered : List ℕ → List Binding → ℕ → List Term → List Tree
args_numbered xs s n ts = map (λ t. numbered_by xs (full s (instance (raise n) (tree_of t)))) ts

-- atoms under the bindings with their variables numbered by these
abbrev pub atoms_numbered : List ℕ → List Binding → List Atom → List Atom
atoms_numbered xs s atoms = map (over (numbered_by xs)) (answered_atoms s atoms)
