-- Private.
-- What is found of a goal's first atom before it is resolved. Nothing here has to be believed.
use Rattle.std.specs.Prelude.{◌≡◌, ℤ, Bool, true, false, ◌&&◌, is_some, List, [], ◌∷◌, Option, None, Some, option_map}
use Rattle.std.specs.List.{list_all, list_any}
use Rattle.cti_terms.specs.Tree.{Tree, Integer}
use Rattle.cti_terms.specs.Spell.{tree_of}
use Rattle.cti_terms.specs.declared.atom_list.Atom.{Atom}
use Rattle.cti_terms.specs.declared.builtins.Arith.{Arith}
use Rattle.cti_terms.specs.declared.builtins.Builtin.{Builtin}
use Rattle.cti_terms.specs.declared.builtins.Builtin.TheVariants.{Is}
use Rattle.cti_terms.specs.Arithmetic.{Arithmetic, value, has_wide, tested, succeeds, is_wide_of, at_two, kind_of, passes, begins_wide}
use Rattle.cti_terms.specs.Unify.{Equation, Binding}
use Rattle.cti_terms.specs.UnifyFunction.{unify}
use Rattle.ld_resolver.specs.declared.builtin_atoms.FirstAtom.{FirstAtom}
use Rattle.ld_resolver.specs.declared.builtin_atoms.FirstAtom.TheVariants.{Ordinary, Fails, Wide, Succeeds}
use Rattle.ld_resolver.specs.declared.values.Value.{Value}
use Rattle.ld_resolver.specs.Values.{IsValue}

-- the equation of a first argument with a value, where there is one
abbrev pub value_equations : Option Tree → List Tree → List Equation
value_equations None ts = []
value_equations (Some v) [] = []
value_equations (Some v) (t ∷ ts) = (t, v) ∷ []

-- a value is an integer
abbrev pub IsInteger : Option Tree → Type 0
IsInteger None = Unit {0}
IsInteger (Some v) = (n : ℤ) × (v ≡ Integer n)

-- what was found agrees with whether a value does not fit, and with the bindings by which the atom succeeds at these
-- arguments
abbrev pub Agrees : Bool → Option (List Binding) → List Tree → FirstAtom → Type 0
Agrees wide o ts Ordinary = ⊥
Agrees wide o ts Fails = (wide ≡ false) × (o ≡ None)
Agrees wide o ts Wide = wide ≡ true
Agrees wide o ts (Succeeds v) = (wide ≡ false) × (o ≡ unify (value_equations (option_map (λ t. tree_of t.now) v) ts)) × IsInteger (option_map (λ t. tree_of t.now) v)

-- at terms of these values
abbrev pub ComparesTo : Builtin → Value → Value → FirstAtom → Type 0
ComparesTo b v w found = (o : Option Arith) (t u : Tree) → IsValue o t v → IsValue o u w
    → Agrees (list_all (λ x. is_some (value o x)) (t ∷ (u ∷ [])) && list_any (has_wide o) (t ∷ (u ∷ []))) (tested b (value o t) (value o u)) (t ∷ (u ∷ [])) found

abbrev pub AssignsTo : Value → FirstAtom → Type 0
AssignsTo w found = (o : Option Arith) (t u : Tree) → IsValue o u w → Agrees (is_wide_of o Is t u) (succeeds o Is t u) (t ∷ (u ∷ [])) found

-- of a predicate of this kind
abbrev pub IsJudgedAs : Option Arith → Builtin → List Tree → FirstAtom → Type 0
IsJudgedAs o b ts found = Agrees (at_two (is_wide_of o b) false ts) (at_two (succeeds o b) None ts) ts found

-- of an atom under the bindings
abbrev pub IsJudged : Arithmetic → Atom → FirstAtom → Type 0
IsJudged ar a Ordinary = kind_of ar a.pred.0 ≡ None
IsJudged ar a Fails = ((b : Builtin) × (kind_of ar a.pred.0 ≡ Some b)) × (begins_wide ar (a ∷ []) ≡ false) × (passes ar a ≡ None)
IsJudged ar a Wide = begins_wide ar (a ∷ []) ≡ true
IsJudged ar a (Succeeds v) = ((b : Builtin) × (kind_of ar a.pred.0 ≡ Some b)) × (begins_wide ar (a ∷ []) ≡ false) × (passes ar a ≡ unify (value_equations (option_map (λ t. tree_of t.now) v) a.args)) × IsInteger (option_map (λ t. tree_of t.now) v)
