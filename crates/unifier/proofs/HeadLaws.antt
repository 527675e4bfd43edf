-- The equations that wait for a head are those of the definition.
use Rattle.std.proofs.Common.{◌≡◌, ℕ, List, [], ◌∷◌, map, refl, sym, ◌∙◌}
use Rattle.cti_terms.specs.Tree.{Tree, More, trees, instance, all_instances}
use Rattle.cti_terms.specs.declared.syntax.Term.{Term}
use Rattle.cti_terms.specs.Spell.{tree_of, trees_of}
use Rattle.cti_terms.specs.declared.atom_list.Atom.{Atom}
use Rattle.cti_terms.specs.declared.clauses.Clause.{Clause}
use Rattle.cti_terms.specs.Unify.{Binding, pairs}
use Rattle.cti_terms.specs.Resolve.{over, raised, head_equations}
use Rattle.cti_terms.proofs.Unifier.{applied_instance}
use Rattle.unifier.specs.Raised.{raise}
use Rattle.unifier.specs.Store.{made, full, all_full}
use Rattle.unifier.specs.Below.{FreeFrom}
use Rattle.unifier.specs.Pending.{waiting_from}
use Rattle.unifier.proofs.BelowLaws.{full_raised}
use Rattle.unifier.proofs.PendingLaws.{under_bindings-pairs}

-- arguments under the bindings, one by one
args_each : (s : List Binding) (n : ℕ) (ts : List Tree) → all_full s (all_instances (raise n) (trees ts)) ≡ trees (map (full s) (map (instance (raise n)) ts))
args_each s n [] = refl
args_each s n (t ∷ ts) = λ i. More (sym (applied_instance (made s) (instance (raise n) t)) i) (args_each s n ts i)

-- arguments of a head, which the bindings leave
args_left : (s : List Binding) (n : ℕ) (ts : List Tree) → FreeFrom n s → trees (map (full s) (map (instance (raise n)) ts)) ≡ trees (map (instance (raise n)) ts)
args_left s n [] free = refl
args_left s n (t ∷ ts) free = λ i. More (full_raised s n t free i) (args_left s n ts free i)

pub head_waits : (s : List Binding) (a : Atom) (base n : ℕ) (c : Clause) (ts us : List Term) → map tree_of ts ≡ a.args → map tree_of us ≡ c.head.args → FreeFrom n s → waiting_from s base n ts us 0 ≡ head_equations (over (full s) (raised base a)) n c
head_waits s a base n c ts us e f free =
    under_bindings-pairs s (all_instances (raise base) (trees_of ts)) (all_instances (raise n) (trees_of us))
    ∙ (λ i. pairs (args_each s base (map tree_of ts) i) ((args_each s n (map tree_of us) ∙ args_left s n (map tree_of us) free) i))
    ∙ (λ i. pairs (trees (map (full s) (map (instance (raise base)) (e i)))) (trees (map (instance (raise n)) (f i))))
