use Rattle.std.proofs.Common.{ℕ, List, ◌∷◌, Option, drop, ap, sym, ◌∙◌, subst}
use Rattle.cti_terms.specs.Tree.{Tree}
use Rattle.unifier.specs.Slots.{trees, bound}
use Rattle.unifier.specs.Store.{bindings_of, IsStore}
use Rattle.unifier.proofs.StoreLaws.{bindings_less, store_less}
use Rattle.unifier.proofs.bindings.Bindings.undo_last.Goals as goal

abbrev old_store : (c : goal.After-unbind) → IsStore (trees c.self.inside.slots) (c.unbind.result ∷ bound c.unbind.new.self)
old_store c = subst (IsStore (trees c.self.inside.slots)) c.unbind.ensures.last c.self.invariant

pub invariant_of-self : goal.invariant_of-self
invariant_of-self c =
    let slots = trees c.self.inside.slots in
    let rest = bound c.unbind.new.self in
    subst (λ (l : List (Option Tree)). IsStore l rest) (sym c.unbind.ensures.trees) (store_less slots rest c.unbind.result (old_store c) c.unbind.ensures.within)

pub returns : goal.returns
returns c =
    let slots = trees c.self.inside.slots in
    let rest = bound c.unbind.new.self in
    ap (λ (l : List (Option Tree)). bindings_of l rest) c.unbind.ensures.trees
    ∙ bindings_less slots rest c.unbind.result (old_store c) c.unbind.ensures.within
    ∙ ap (λ (xs : List ℕ). drop 1 (bindings_of slots xs)) (sym c.unbind.ensures.last)
    ∙ ap (drop 1) c.self.view_is
