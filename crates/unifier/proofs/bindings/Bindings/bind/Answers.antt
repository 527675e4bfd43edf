use Rattle.std.proofs.Common.{◌≡◌, ◌<◌, ℕ, List, ◌∷◌, Option, length, ap, sym, ◌∙◌, subst, arith}
use Rattle.cti_terms.specs.Tree.{Tree}
use Rattle.cti_terms.specs.Unify.{Binding}
use Rattle.unifier.specs.Raised.{raised_tree}
use Rattle.unifier.specs.Slots.{slot, trees, bound}
use Rattle.unifier.specs.Store.{bindings_of, IsStore, MayBind}
use Rattle.unifier.proofs.StoreLaws.{bindings_same, bindings_more, store_more, store_same, is_in_none}
use Rattle.unifier.proofs.bindings.Bindings.bind.Goals as goal

-- room for more variables says nothing of the bindings
kept : (old new : List (Option Tree)) (xs ys : List ℕ) → IsStore old xs → ((x : ℕ) → slot new x ≡ slot old x) → ys ≡ xs → IsStore new ys
kept old new xs ys s same e = subst (IsStore new) (sym e) (store_same old new xs s same)

same_view : (old new : List (Option Tree)) (xs ys : List ℕ) (s : List Binding) → ((x : ℕ) → slot new x ≡ slot old x) → ys ≡ xs → bindings_of old xs ≡ s → bindings_of new ys ≡ s
same_view old new xs ys s same e view = ap (bindings_of new) e ∙ bindings_same old new xs same ∙ view

pub invariant_of-self : goal.invariant_of-self
invariant_of-self c =
    let old = c.self.inside.slots in
    let new = c.reserve.new.self in
    kept (trees old) (trees new) (bound old) (bound new) c.self.invariant c.reserve.ensures.same c.reserve.ensures.bound

pub bind-requires-clause-new : goal.bind-requires-clause-new
bind-requires-clause-new c =
    let old = c.self.inside.slots in
    let new = c.reserve.new.self in
    let view = same_view (trees old) (trees new) (bound old) (bound new) c.args.self.now c.reserve.ensures.same c.reserve.ensures.bound c.self.view_is in
    let may = subst (λ (s : List Binding). MayBind s c.args.variable (raised_tree c.args.term)) (sym view) c.requires.may in
    is_in_none (trees new) (bound new) c.args.variable may.free

reserved : (c : goal.After-bind) → IsStore (trees c.reserve.new.self) (bound c.reserve.new.self)
reserved c =
    let old = c.self.inside.slots in
    let new = c.reserve.new.self in
    kept (trees old) (trees new) (bound old) (bound new) c.self.invariant c.reserve.ensures.same c.reserve.ensures.bound

view_is : (c : goal.After-bind) → bindings_of (trees c.reserve.new.self) (bound c.reserve.new.self) ≡ c.args.self.now
view_is c =
    let old = c.self.inside.slots in
    let new = c.reserve.new.self in
    same_view (trees old) (trees new) (bound old) (bound new) c.args.self.now c.reserve.ensures.same c.reserve.ensures.bound c.self.view_is

may : (c : goal.After-bind) → MayBind (bindings_of (trees c.reserve.new.self) (bound c.reserve.new.self)) c.args.variable (raised_tree c.args.term)
may c = subst (λ (s : List Binding). MayBind s c.args.variable (raised_tree c.args.term)) (sym (view_is c)) c.requires.may

within : (c : goal.After-bind) → c.args.variable < length (trees c.reserve.new.self)
within c = let room = c.in_ok-reserve.ensures.room in omega (arith, room)

pub invariant_of-self-2 : goal.invariant_of-self-2
invariant_of-self-2 c =
    let slots = c.reserve.new.self in
    let x = c.args.variable in
    let more = store_more (trees slots) (bound slots) x (raised_tree c.args.term) (reserved c) (within c) (may c) in
    subst (λ (xs : List ℕ). IsStore (trees c.bind.new.self) xs) (sym c.bind.ensures.bound)
    (subst (λ (l : List (Option Tree)). IsStore l (x ∷ bound slots)) (sym c.bind.ensures.trees) more)

pub returns : goal.returns
returns c =
    let slots = c.reserve.new.self in
    let x = c.args.variable in
    let tree = raised_tree c.args.term in
    ap (bindings_of (trees c.bind.new.self)) c.bind.ensures.bound
    ∙ ap (λ (l : List (Option Tree)). bindings_of l (x ∷ bound slots)) c.bind.ensures.trees
    ∙ bindings_more (trees slots) (bound slots) x tree (reserved c) (within c) (may c)
    ∙ ap (λ (s : List Binding). (x, tree) ∷ s) (view_is c)
