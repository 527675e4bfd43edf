-- No variable occurs in a constant.
use Rattle.std.proofs.Common.{◌≡◌, ℕ, ℤ, false, ◌==◌, IsTrue, List, [], ◌∷◌, length, ap, ◌∙◌, arith}
use Rattle.std.proofs.lemmas.Bool.Decides.{nat_tests}
use Rattle.cti_terms.specs.Tree.{Tree, Integer, Compound, all_instances}
use Rattle.cti_terms.specs.declared.syntax.Term.{Term}
use Rattle.cti_terms.specs.Spell.{trees_of}
use Rattle.cti_terms.specs.Unify.{Binding, occurs}
use Rattle.unifier.specs.Raised.{raise}
use Rattle.unifier.specs.Store.{full}
use Rattle.unifier.proofs.PendingLaws.{full_compound, full_integer}

pub integer_absent : (s : List Binding) (x : ℕ) (i : ℤ) (t : Tree) → t ≡ Integer i → occurs x (full s t) ≡ false
integer_absent s x i t e = ap (λ u. occurs x (full s u)) e ∙ ap (occurs x) (full_integer s i)

pub name_absent : (s : List Binding) (x n f : ℕ) (args : List Term) (t : Tree) → t ≡ Compound f (all_instances (raise n) (trees_of args)) → IsTrue (length args == 0) → occurs x (full s t) ≡ false
name_absent s x n f [] t e none = ap (λ u. occurs x (full s u)) e ∙ ap (occurs x) (full_compound s f (all_instances (raise n) (trees_of [])))
name_absent s x n f (u ∷ us) t e none = absurd (grind (arith, nat_tests))
