use Rattle.std.proofs.Common.{◌≡◌, ◌<◌, ℕ, suc, ◌+◌, false, ◌∷◌, Some, map, length, set, ap, ◌∙◌, subst, refl, arith}
use Rattle.std.proofs.lemmas.List.{length-map, length-set}
use Rattle.unifier.specs.declared.slot.Slot.{Slot}
use Rattle.unifier.specs.Raised.{raised_tree}
use Rattle.unifier.specs.Slots.{Trees, trees, bound, slot_tree, is_in, linked, AreLinked}
use Rattle.unifier.proofs.SlotLaws.{trees_set, tree_bound, last_below, linked_more, are_linked_more, count_within}
use Rattle.unifier.proofs.slots.Slots.bind.Goals as goal

pub index_mut-requires : goal.index_mut-requires
index_mut-requires c =
    let items = c.self.inside.items in
    let count = ap (λ (s : Trees). length (trees s)) c.self.view_is in
    omega (arith, c.requires.within, count, length-map items.items slot_tree, items.ok.0)

pub overflow_add-self : goal.overflow_add-self
overflow_add-self c =
    let old = c.self.inside in
    let filler : Slot = record { term = c.args.term.term; base = 0; previous = 4294967295 } in
    let less = count_within old.items.items old.count old.last filler refl c.self.invariant.1 in
    let few = c.self.invariant.0 in
    omega (arith, less, few)

pub invariant_of-self : goal.invariant_of-self
invariant_of-self c =
    let old = c.self.inside in
    let xs = old.items.items in
    let v = c.args.variable in
    let s : Slot = record { term = c.args.term.term; base = c.args.term.base; previous = old.last } in
    let count = ap (λ (r : Trees). length (trees r)) c.self.view_is in
    let few = c.self.invariant.0 in
    let within : v < length xs = omega (arith, c.requires.within, count, length-map xs slot_tree) in
    let new : is_in v (linked xs old.count old.last) ≡ false = ap (λ (r : Trees). is_in v (bound r)) c.self.view_is ∙ c.requires.new in
    let more = are_linked_more xs old.count old.last c.self.invariant.1 v s within (omega (arith, within, few)) new refl in
    let next : suc old.count ≡ old.count + 1 = omega arith in (
      (let same = length-set xs v s in omega (arith, same, few)),
      subst (λ (n : ℕ). AreLinked (set xs v s) n v) next more,
    )

pub returns-clause-trees : goal.returns-clause-trees
returns-clause-trees c =
    let old = c.self.inside in
    let xs = old.items.items in
    let v = c.args.variable in
    let s : Slot = record { term = c.args.term.term; base = c.args.term.base; previous = old.last } in
    trees_set xs v s
    ∙ ap (set (map slot_tree xs) v) (tree_bound s (last_below xs old.count old.last c.self.invariant.1))
    ∙ ap (λ (r : Trees). set (trees r) v (Some (raised_tree c.args.term))) c.self.view_is

pub returns-clause-bound : goal.returns-clause-bound
returns-clause-bound c =
    let old = c.self.inside in
    let xs = old.items.items in
    let v = c.args.variable in
    let s : Slot = record { term = c.args.term.term; base = c.args.term.base; previous = old.last } in
    let count = ap (λ (r : Trees). length (trees r)) c.self.view_is in
    let few = c.self.invariant.0 in
    let within : v < length xs = omega (arith, c.requires.within, count, length-map xs slot_tree) in
    let new : is_in v (linked xs old.count old.last) ≡ false = ap (λ (r : Trees). is_in v (bound r)) c.self.view_is ∙ c.requires.new in
    let more = linked_more xs old.count old.last c.self.invariant.1 v s within (omega (arith, within, few)) new refl in
    let next : old.count + 1 ≡ suc old.count = omega arith in
    ap (λ (n : ℕ). linked (set xs v s) n v) next ∙ more ∙ ap (λ (r : Trees). v ∷ bound r) c.self.view_is
