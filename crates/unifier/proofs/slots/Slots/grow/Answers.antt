use Rattle.std.proofs.Common.{◌≡◌, ◌≤◌, ◌++◌, ◌-◌, ℕ, List, length, map, vec_len, replicate, ap, sym, ◌∙◌, subst, refl, arith}
use Rattle.std.proofs.lemmas.List.{take_all, length-map, length-append}
use Rattle.unifier.specs.declared.slot.Slot.{Slot}
use Rattle.unifier.specs.Slots.{Trees, trees, bound, free, slot, slot_tree, linked, AreLinked}
use Rattle.unifier.proofs.SlotLaws.{slot_grown, previous_grown, is_in_free, linked_same, are_linked_same}
use Rattle.unifier.proofs.slots.Slots.grow.Goals as goal

-- the slots that are added
module _ (xs ys : List Slot) (f : Slot) (k : ℕ) (nothing : f.previous ≡ free) (are : ys ≡ xs ++ replicate k f) where
  longer : length xs ≤ length (xs ++ replicate k f)
  longer = let more = length-append xs (replicate k f) in omega (arith, more)

  linked_in : (n x : ℕ) → AreLinked xs n x → linked ys n x ≡ linked xs n x
  linked_in n x a =
      ap (λ (l : List Slot). linked l n x) are
      ∙ linked_same xs (xs ++ replicate k f) free longer (λ j h. previous_grown xs k f nothing j) n x (is_in_free xs n x a)

  are_linked_in : (n x : ℕ) → AreLinked xs n x → AreLinked ys n x
  are_linked_in n x a =
      subst (λ (l : List Slot). AreLinked l n x) (sym are)
      (are_linked_same xs (xs ++ replicate k f) free longer (λ j h. previous_grown xs k f nothing j) n x (is_in_free xs n x a) a)

abbrev filler : goal.In_ok-resize → Slot
filler c = record { term = c.args.term; base = 0; previous = 4294967295 }

items_are : (c : goal.In_ok-resize) → c.resize.new.self.items ≡ c.self.inside.items.items ++ replicate (c.min.result - vec_len c.self.inside.items) (filler c)
items_are c =
    let old = c.self.inside.items in
    let count = c.min.result in
    c.in_ok-resize.ensures.items
    ∙ ap (λ (l : List Slot). l ++ replicate (count - vec_len old) (filler c)) (take_all count old.items (omega (arith, c.requires, c.min.ensures, c.if-count.false, ap (λ (r : Trees). length (trees r)) c.self.view_is, length-map old.items slot_tree)))

pub invariant_of-self-2 : goal.invariant_of-self-2
invariant_of-self-2 c =
    let old = c.self.inside in (
      omega (arith, c.in_ok-resize.ensures.len, c.min.ensures),
      are_linked_in old.items.items c.resize.new.self.items (filler c) (c.min.result - vec_len old.items) refl (items_are c) old.count old.last c.self.invariant.1,
    )

pub returns-clause-same : goal.returns-clause-same
returns-clause-same c x =
    let old = c.self.inside in
    ap (λ (l : List Slot). slot (map slot_tree l) x) (items_are c)
    ∙ slot_grown (filler c) refl old.items.items (c.min.result - vec_len old.items) x
    ∙ ap (λ (r : Trees). slot (trees r) x) c.self.view_is

pub returns-clause-bound : goal.returns-clause-bound
returns-clause-bound c =
    let old = c.self.inside in
    linked_in old.items.items c.resize.new.self.items (filler c) (c.min.result - vec_len old.items) refl (items_are c) old.count old.last c.self.invariant.1
    ∙ ap (λ (r : Trees). bound r) c.self.view_is
