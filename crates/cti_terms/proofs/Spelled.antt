-- What terms of the code spell: lemmas for code that goes over them.
use Rattle.std.proofs.Common.{◌≡◌, ℕ, ◌+◌, ◌<◌, List, [], ◌∷◌, length, drop, get_or, refl, ap, sym, ◌∙◌, Vec, Global}
use Rattle.std.proofs.lemmas.List.{at_drop_more}
use Rattle.cti_terms.specs.declared.naming.Name.{Name}
use Rattle.cti_terms.specs.declared.syntax.Term.{Term, fold-roll-Term}
use Rattle.cti_terms.specs.declared.syntax.Term.TheVariants.{Fun, rolls-Fun}
use Rattle.cti_terms.specs.declared.syntax.Term.TheOpen.Term-F.{Fun as FunLayer}
use Rattle.cti_terms.specs.Tree.{Tree, Compound, More, trees}
use Rattle.cti_terms.specs.Spell.{tree_of, trees_of, tree_step}

-- lists that spell the same arguments are the same
pub trees_injective : (xs ys : List Tree) → trees xs ≡ trees ys → xs ≡ ys
trees_injective [] [] h = refl
trees_injective [] (y ∷ ys) h = cc
trees_injective (x ∷ xs) [] h = cc
trees_injective (x ∷ xs) (y ∷ ys) h =
    let tail : trees xs ≡ trees ys = cc in
    let rest : xs ≡ ys = trees_injective xs ys tail in
    cc

-- what a `Fun` spells
pub tree_of_fun : (f : Name) (xs : Vec Term Global) → tree_of (Fun f xs) ≡ Compound f.0 (trees_of xs.items)
tree_of_fun f xs = ap tree_of (sym (rolls-Fun f xs)) ∙ fold-roll-Term Tree tree_step (FunLayer f xs)

-- what is left, before one more step of a loop over arguments
pub trees_of_left : (xs : List Term) (i : ℕ) (r : Term) → i < length xs → r ≡ get_or xs i r → trees_of (drop i xs) ≡ More (tree_of r) (trees_of (drop (i + 1) xs))
trees_of_left xs i r h e = at_drop_more trees_of xs i r h ∙ ap (λ (t : Term). More (tree_of t) (trees_of (drop (i + 1) xs))) (sym e)
