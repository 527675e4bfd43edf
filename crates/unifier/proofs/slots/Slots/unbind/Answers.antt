use Rattle.std.proofs.Common.{◌≡◌, ◌<◌, ◌-◌, ◌∷◌, ℕ, None, length, set, ap, sym, ◌∙◌, subst, arith}
use Rattle.std.proofs.lemmas.List.{length-map, length-set}
use Rattle.unifier.specs.declared.slot.Slot.{Slot}
use Rattle.unifier.specs.Slots.{Trees, trees, bound, slot_tree, linked, previous, AreLinked}
use Rattle.unifier.proofs.SlotLaws.{trees_set, previous_here, length-linked, linked_less, are_linked_less, last_within}
use Rattle.unifier.proofs.slots.Slots.unbind.Goals as goal

pub index-slot-requires : goal.index-slot-requires
index-slot-requires c =
    let old = c.self.inside in
    let xs = old.items.items in
    let count = ap (λ (r : Trees). length (bound r)) c.self.view_is in
    let some : 0 < old.count = omega (arith, c.requires, count, length-linked xs old.count old.last) in
    let within = last_within xs old.last old.count some c.self.invariant.1 in
    omega (arith, within, old.items.ok.0)

pub invariant_of-self : goal.invariant_of-self
invariant_of-self c =
    let old = c.self.inside in
    let xs = old.items.items in
    let slot = c.index-slot.result.now in
    let s : Slot = record { term = slot.term; base = slot.base; previous = 4294967295 } in
    let count = ap (λ (r : Trees). length (bound r)) c.self.view_is in
    let some : 0 < old.count = omega (arith, c.requires, count, length-linked xs old.count old.last) in
    let within = last_within xs old.last old.count some c.self.invariant.1 in
    let before : previous xs old.last ≡ slot.previous = previous_here xs old.last slot within ∙ ap (λ (t : Slot). t.previous) (sym c.index-slot.ensures) in (
      (let same = length-set xs old.last s in let few = c.self.invariant.0 in omega (arith, same, few)),
      subst (AreLinked (set xs old.last s) (old.count - 1)) before (are_linked_less xs old.last s old.count some c.self.invariant.1),
    )

pub returns-clause-last : goal.returns-clause-last
returns-clause-last c =
    let old = c.self.inside in
    let xs = old.items.items in
    let slot = c.index-slot.result.now in
    let s : Slot = record { term = slot.term; base = slot.base; previous = 4294967295 } in
    let count = ap (λ (r : Trees). length (bound r)) c.self.view_is in
    let some : 0 < old.count = omega (arith, c.requires, count, length-linked xs old.count old.last) in
    let within = last_within xs old.last old.count some c.self.invariant.1 in
    let before : previous xs old.last ≡ slot.previous = previous_here xs old.last slot within ∙ ap (λ (t : Slot). t.previous) (sym c.index-slot.ensures) in
    sym (ap (λ (r : Trees). bound r) c.self.view_is)
    ∙ linked_less xs old.last s old.count some c.self.invariant.1
    ∙ ap (λ (y : ℕ). old.last ∷ linked (set xs old.last s) (old.count - 1) y) before

pub returns-clause-trees : goal.returns-clause-trees
returns-clause-trees c =
    let old = c.self.inside in
    let xs = old.items.items in
    let slot = c.index-slot.result.now in
    let s : Slot = record { term = slot.term; base = slot.base; previous = 4294967295 } in
    trees_set xs old.last s ∙ ap (λ (r : Trees). set (trees r) old.last None) c.self.view_is

pub returns-clause-within : goal.returns-clause-within
returns-clause-within c =
    let old = c.self.inside in
    let xs = old.items.items in
    let count = ap (λ (r : Trees). length (bound r)) c.self.view_is in
    let some : 0 < old.count = omega (arith, c.requires, count, length-linked xs old.count old.last) in
    let within = last_within xs old.last old.count some c.self.invariant.1 in
    let slots = ap (λ (r : Trees). length (trees r)) c.self.view_is in
    omega (arith, within, slots, length-map xs slot_tree)
