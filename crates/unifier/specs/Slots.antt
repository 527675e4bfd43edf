-- Private.
-- The terms of bound variables, by the variables' numbers, and the order in which they were bound. Nothing here has to
-- be believed.
use Rattle.std.specs.Prelude.{◌≡◌, ℕ, zero, suc, ◌<◌, Bool, false, ◌==◌, ◌||◌, if◌then◌else◌, List, [], ◌∷◌, length, slice_get, Option, None, Some, option_and_then}
use Rattle.cti_terms.specs.Tree.{Tree, instance}
use Rattle.cti_terms.specs.Spell.{tree_of}
use Rattle.unifier.specs.declared.slot.Slot.{Slot}
use Rattle.unifier.specs.Raised.{raise}

-- no bound variable has this number
abbrev pub free : ℕ
free = 4294967295

-- the tree of a bound variable
abbrev pub slot_tree : Slot → Option Tree
slot_tree s = if s.previous == free then None else Some (instance (raise s.base) (tree_of s.term.now))

-- the tree in the slot of a variable
abbrev pub slot : List (Option Tree) → ℕ → Option Tree
slot slots x = option_and_then (λ o. o) (slice_get slots x)

-- the variable that was bound before this one
abbrev pub previous : List Slot → ℕ → ℕ
previous [] x = free
previous (s ∷ ss) zero = s.previous
previous (s ∷ ss) (suc x) = previous ss x

-- this variable and those that were bound before it, the later first, up to a number of them
abbrev pub linked : List Slot → ℕ → ℕ → List ℕ
linked slots zero x = []
linked slots (suc n) x = x ∷ linked slots n (previous slots x)

-- whether a variable is one of these
abbrev pub is_in : ℕ → List ℕ → Bool
is_in x [] = false
is_in x (y ∷ ys) = y == x || is_in x ys

-- these variables have slots, and each is another one
abbrev pub AreLinked : List Slot → ℕ → ℕ → Type 0
AreLinked slots zero x = x < free
AreLinked slots (suc n) x = (x < free) × (x < length slots) × (is_in x (linked slots n (previous slots x)) ≡ false) × AreLinked slots n (previous slots x)

-- the trees of variables by number, and the bound variables, the last one first
abbrev pub Trees : Type 0
Trees = List (Option Tree) × List ℕ

abbrev pub trees : Trees → List (Option Tree)
trees slots = slots.0

abbrev pub bound : Trees → List ℕ
bound slots = slots.1
