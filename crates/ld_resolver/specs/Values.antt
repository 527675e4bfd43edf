-- Private.
-- Values of expressions by two passes over lists: the first finds the operators, root first, and the second takes them
-- from the end. Nothing here has to be believed.
use Rattle.std.specs.Prelude.{◌≡◌, ℕ, ◌<◌, ℤ, pos, ◌+ℤ◌, ◌-ℤ◌, ◌*ℤ◌, neg_ℤ, Bool, true, false, not, ◌||◌, List, [], ◌∷◌, ◌++◌, map, reverse, drop, length, Option, None, Some, option_map, option_and_then}
use Rattle.exact128.specs.Fits.{Fits, fits}
use Rattle.cti_terms.specs.Tree.{Tree, instance, nodes_of}
use Rattle.cti_terms.specs.Spell.{tree_of}
use Rattle.cti_terms.specs.declared.syntax.Term.{Term}
use Rattle.cti_terms.specs.declared.builtins.Arith.{Arith}
use Rattle.cti_terms.specs.Arithmetic.{value, has_wide, result_of}
use Rattle.cti_terms.specs.Unify.{Binding}
use Rattle.ld_resolver.specs.declared.operators.Operation.{Operation}
use Rattle.ld_resolver.specs.declared.operators.Operation.TheVariants.{Add, Subtract, Multiply}
use Rattle.ld_resolver.specs.declared.operators.Operator.{Operator}
use Rattle.ld_resolver.specs.declared.operators.Operator.TheVariants.{Number, Negate, Pair}
use Rattle.unifier.specs.declared.raised_term.Shape.{Shape}
use Rattle.ld_resolver.specs.declared.values.Value.{Value}
use Rattle.ld_resolver.specs.declared.values.Value.TheVariants.{Missing, Wide, Known}
use Rattle.unifier.specs.Raised.{raise}
use Rattle.unifier.specs.Shapes.{shape_full}
use Rattle.unifier.specs.Store.{full}
use Rattle.unifier.specs.Pending.{weight}

-- a value, and whether some subterm has one that does not fit
abbrev pub Judged : Type 0
Judged = ℤ × Bool

-- the value of a term, if it has one
abbrev pub judged : Option Arith → Tree → Option Judged
judged o t = option_map (λ n. (n, has_wide o t)) (value o t)

-- the values of terms, if each has one
abbrev pub all_judged : Option Arith → List Tree → Option (List Judged)
all_judged o [] = Some []
all_judged o (t ∷ ts) = option_and_then (λ j. option_map (λ js. j ∷ js) (all_judged o ts)) (judged o t)

-- ---- operators

abbrev pub result_by : Operation → ℤ → ℤ → ℤ
result_by Add a b = a +ℤ b
result_by Subtract a b = a -ℤ b
result_by Multiply a b = a *ℤ b

-- an operation that a name has on two values
abbrev pub IsOperation : Arith → ℕ → Option Operation → Type 0
IsOperation o f found = (a b : ℤ) → result_of o f (a ∷ (b ∷ [])) ≡ option_map (λ x. result_by x a b) found

-- an operator that a name has with this many operands
abbrev pub IsOperator : Arith → ℕ → ℕ → Option Operator → Type 0
IsOperator o f n None = (ns : List ℤ) → length ns ≡ n → result_of o f ns ≡ None
IsOperator o f n (Some (Number k)) = ⊥
IsOperator o f n (Some Negate) = (n ≡ 1) × ((a : ℤ) → result_of o f (a ∷ []) ≡ Some (neg_ℤ a))
IsOperator o f n (Some (Pair x)) = (n ≡ 2) × ((a b : ℤ) → result_of o f (a ∷ (b ∷ [])) ≡ Some (result_by x a b))

-- the first value, and 0 of none
abbrev pub top : List Judged → Judged
top [] = (pos 0, false)
top (j ∷ js) = j

-- a result, with whether it or an operand is wide
abbrev pub made_of : ℤ → Bool → Judged
made_of n wide = (n, not (fits n) || wide)

-- what an operator makes of values, the last one first
abbrev pub step_by : Operator → List Judged → List Judged
step_by (Number n) js = made_of n false ∷ js
step_by Negate js = made_of (neg_ℤ (top js).0) ((top js).1 || false) ∷ drop 1 js
step_by (Pair x) js = made_of (result_by x (top (drop 1 js)).0 (top js).0) ((top (drop 1 js)).1 || ((top js).1 || false)) ∷ drop 1 (drop 1 js)

-- what operators make, of which the last one is the first to be taken
abbrev pub stack_by : List Operator → List Judged → List Judged
stack_by [] js = js
stack_by (x ∷ xs) js = step_by x (stack_by xs js)

-- whether one of the values is wide
abbrev pub some_wide : List Judged → Bool
some_wide [] = false
some_wide (j ∷ js) = j.1 || some_wide js

-- ---- values that fit

-- values on a stack, the last one first
abbrev pub known : List ℤ → List Judged
known ns = map (λ n. (n, false)) (reverse ns)

-- a number, where it fits
abbrev pub IsNumber : ℤ → Option ℤ → Type 0
IsNumber n None = Fits n → ⊥
IsNumber n (Some m) = Fits n × (m ≡ n)

-- an operator was taken: its result is the last value now, or does not fit
abbrev pub IsTakenTo : Operator → List ℤ → Option ℤ → List ℤ → Type 0
IsTakenTo x old None now = some_wide (step_by x (known old)) ≡ true
IsTakenTo x old (Some n) now = step_by x (known old) ≡ (n, false) ∷ known now

-- the first of these values, or that one is wide
abbrev pub IsCalculated : List Judged → Option ℤ → Type 0
IsCalculated js None = some_wide js ≡ true
IsCalculated js (Some n) = top js ≡ (n, false)

-- ---- expressions

-- the operands of a term, the last one first
abbrev pub operands : List Binding → ℕ → List Term → List Tree
operands s n ts = map (full s) (reverse (map (instance (raise n)) (map tree_of ts)))

-- the operator and the operands of a term of this kind, under any bindings
abbrev pub IsSplit : Option Arith → Shape → Option (Operator × List Term) → Type 0
IsSplit o h None = (s : List Binding) (n : ℕ) → value o (shape_full s n h) ≡ None
IsSplit o h (Some (x, ts)) = (s : List Binding) (n : ℕ)
    → ((rest : List Tree) → all_judged o (shape_full s n h ∷ rest) ≡ option_map (step_by x) (all_judged o (operands s n ts ++ rest)))
    × (weight s (map (instance (raise n)) (map tree_of ts)) < nodes_of (shape_full s n h))

-- a term has no value, or these are its operators
abbrev pub HasOperators : Option Arith → Tree → Bool → List Operator → Type 0
HasOperators o t false xs = value o t ≡ None
HasOperators o t true xs = Some (stack_by xs []) ≡ option_map (λ j. j ∷ []) (judged o t)

-- a term has no value; it or a subterm has one that does not fit; or this is its value
abbrev pub IsValue : Option Arith → Tree → Value → Type 0
IsValue o t Missing = value o t ≡ None
IsValue o t Wide = (n : ℤ) × (value o t ≡ Some n) × (has_wide o t ≡ true)
IsValue o t (Known n) = (value o t ≡ Some n) × (has_wide o t ≡ false)
