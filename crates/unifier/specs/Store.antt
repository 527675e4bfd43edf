-- Private.
-- Bindings as the resolver stores them, and the bindings of the definition that they stand for.
--
-- A binding is stored with the term as it was met. The definition's binding has the earlier bindings applied to it.
-- Stored bindings stand in a list with the last one made first. Nothing here has to be believed.
use Rattle.std.specs.Prelude.{◌≡◌, ℕ, zero, suc, false, ◌==◌, if◌then◌else◌, List, [], ◌∷◌, ◌++◌, map, Option, None, Some, unwrap_or}
use Rattle.cti_terms.specs.Tree.{Tree, Trees, Variable, Integer, Compound, all_instances}
use Rattle.cti_terms.specs.Unify.{Binding, occurs, applied}
use Rattle.unifier.specs.Slots.{slot}

-- the stored term of a variable
abbrev pub stored : List Binding → ℕ → Option Tree
stored [] x = None
stored (b ∷ s) x = if b.0 == x then Some b.1 else stored s x

-- the definition's bindings, the first one made first
abbrev pub made : List Binding → List Binding
made [] = []
made (b ∷ s) = made s ++ (b.0, applied (made s) b.1) ∷ []

-- a term under all bindings
abbrev pub full : List Binding → Tree → Tree
full s t = applied (made s) t

-- arguments under all bindings
abbrev pub all_full : List Binding → Trees → Trees
all_full s ts = all_instances (λ x. full s (Variable x)) ts

-- a term that is not a bound variable
abbrev pub IsOpen : List Binding → Tree → Type 0
IsOpen s (Variable x) = stored s x ≡ None
IsOpen s (Integer n) = Unit {0}
IsOpen s (Compound f ts) = Unit {0}

-- a free variable may be bound to a term that is not a bound variable, and in which it does not occur
pub record MayBind (s : List Binding) (x : ℕ) (t : Tree) : Type 0 where
  pub free : stored s x ≡ None
  pub followed : IsOpen s t
  pub absent : occurs x (full s t) ≡ false

-- each binding could be made when it was made
abbrev pub AreMade : List Binding → Type 0
AreMade [] = Unit {0}
AreMade (b ∷ s) = MayBind s b.0 b.1 × AreMade s

-- one more, unless it is 0
abbrev pub one_more : ℕ → ℕ
one_more zero = zero
one_more (suc n) = suc (suc n)

-- a number that falls from a variable to the variable that it is bound to
abbrev pub chain : List Binding → ℕ → ℕ
chain [] x = 0
chain (b ∷ s) x = if b.0 == x then 1 else one_more (chain s x)

abbrev pub chain_of : List Binding → Tree → ℕ
chain_of s (Variable x) = chain s x
chain_of s (Integer n) = 0
chain_of s (Compound f ts) = 0

-- the binding of a variable with a term in its slot
abbrev pub binding_in : List (Option Tree) → ℕ → Binding
binding_in slots x = (x, unwrap_or (slot slots x) (Variable x))

-- the bindings of variables in slots, the last one made first
abbrev pub bindings_of : List (Option Tree) → List ℕ → List Binding
bindings_of slots xs = map (binding_in slots) xs

-- these variables have terms in their slots, and no others have
pub record IsStore (slots : List (Option Tree)) (xs : List ℕ) : Type 0 where
  pub agree : (x : ℕ) → stored (bindings_of slots xs) x ≡ slot slots x
  pub made : AreMade (bindings_of slots xs)
