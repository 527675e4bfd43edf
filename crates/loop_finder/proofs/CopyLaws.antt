-- Laws of copies.
use Rattle.std.proofs.Common.{◌≡◌, ℕ, ◌+◌, ◌<◌, List, [], ◌∷◌, map, length, drop, get_or, refl, ap, sym, ◌∙◌}
use Rattle.std.proofs.lemmas.List.{at_drop_more}
use Rattle.cti_terms.specs.Tree.{Tree, More, trees, instance, all_instances}
use Rattle.cti_terms.specs.declared.atom_list.Atom.{Atom}
use Rattle.cti_terms.specs.declared.syntax.Term.{Term}
use Rattle.cti_terms.specs.Spell.{tree_of, trees_of}
use Rattle.cti_terms.specs.Unify.{Binding}
use Rattle.cti_terms.specs.Resolve.{over, raised}
use Rattle.cti_terms.proofs.Unifier.{applied_instance}
use Rattle.unifier.specs.Raised.{raise}
use Rattle.unifier.specs.Store.{made, full, all_full}
use Rattle.loop_finder.specs.Copies.{copies, raised_full, atom_copies}

-- the first of the terms that are left
pub copies_first : (s : List Binding) (n : ℕ) (ts : List Term) (i : ℕ) (t : Term) → i < length ts → t ≡ get_or ts i t → copies s n (drop i ts) ≡ full s (instance (raise n) (tree_of t)) ∷ copies s n (drop (i + 1) ts)
copies_first s n ts i t h e = at_drop_more (copies s n) ts i t h ∙ ap (λ (u : Term). copies s n (u ∷ drop (i + 1) ts)) (sym e)

-- copies as arguments
pub copies_trees : (s : List Binding) (n : ℕ) (ts : List Term) → trees (copies s n ts) ≡ all_full s (all_instances (raise n) (trees_of ts))
copies_trees s n [] = refl
copies_trees s n (t ∷ ts) = λ i. More (applied_instance (made s) (instance (raise n) (tree_of t)) i) (copies_trees s n ts i)

-- copies of an atom's arguments
pub copies_raised : (s : List Binding) (n : ℕ) (ts : List Term) → copies s n ts ≡ raised_full s n (map tree_of ts)
copies_raised s n [] = refl
copies_raised s n (t ∷ ts) = ap (λ (us : List Tree). full s (instance (raise n) (tree_of t)) ∷ us) (copies_raised s n ts)

-- the first of the atoms that are left
pub atoms_first : (s : List Binding) (n : ℕ) (xs : List Atom) (i : ℕ) (a : Atom) → i < length xs → a ≡ get_or xs i a → atom_copies s n (drop i xs) ≡ over (full s) (raised n a) ∷ atom_copies s n (drop (i + 1) xs)
atoms_first s n xs i a h e = at_drop_more (atom_copies s n) xs i a h ∙ ap (λ (b : Atom). atom_copies s n (b ∷ drop (i + 1) xs)) (sym e)
