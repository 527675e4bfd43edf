-- Laws of what built-in atoms do at two arguments.
use Rattle.std.proofs.Common.{◌≡◌, ℕ, ◌≤◌, List, [], ◌∷◌, map, length, get_or, Option, refl, sym, subst, arith}
use Rattle.cti_terms.specs.Tree.{Tree, instance}
use Rattle.cti_terms.specs.Spell.{tree_of}
use Rattle.cti_terms.specs.declared.syntax.Term.{Term}
use Rattle.cti_terms.specs.declared.builtins.Arith.{Arith}
use Rattle.cti_terms.specs.declared.builtins.Builtin.{Builtin}
use Rattle.cti_terms.specs.declared.builtins.Builtin.TheVariants.{Is, Equal, NotEqual, Less, AtMost, Greater, AtLeast}
use Rattle.cti_terms.specs.Unify.{Binding}
use Rattle.ld_resolver.specs.declared.builtin_atoms.FirstAtom.{FirstAtom}
use Rattle.ld_resolver.specs.declared.values.Value.{Value}
use Rattle.unifier.specs.Raised.{raise}
use Rattle.unifier.specs.Store.{full}
use Rattle.ld_resolver.specs.Values.{IsValue}
use Rattle.ld_resolver.specs.BuiltinAtoms.{ComparesTo, AssignsTo, IsJudgedAs}

-- two arguments
two_of : (ts : List Term) (t u : Term) → 2 ≤ length ts → length ts ≤ 2 → t ≡ get_or ts 0 t → u ≡ get_or ts 1 u → ts ≡ t ∷ (u ∷ [])
two_of [] t u l h e d = absurd (omega (arith, l))
two_of (a ∷ []) t u l h e d = absurd (omega (arith, l))
two_of (a ∷ (b ∷ [])) t u l h e d = λ i. sym e i ∷ (sym d i ∷ [])
two_of (a ∷ (b ∷ (c ∷ ts))) t u l h e d = absurd (omega (arith, h))

at_values : (o : Option Arith) (t u : Tree) (b : Builtin) (v w : Value) (found : FirstAtom) → (b ≡ Is → ⊥) → IsValue o t v → IsValue o u w → ComparesTo b v w found → IsJudgedAs o b (t ∷ (u ∷ [])) found
at_values o t u Is v w found n i j h = absurd (n refl)
at_values o t u Equal v w found n i j h = h o t u i j
at_values o t u NotEqual v w found n i j h = h o t u i j
at_values o t u Less v w found n i j h = h o t u i j
at_values o t u AtMost v w found n i j h = h o t u i j
at_values o t u Greater v w found n i j h = h o t u i j
at_values o t u AtLeast v w found n i j h = h o t u i j

-- raised arguments under the bindings
abbrev pub args_now : List Binding → ℕ → List Term → List Tree
args_now s n ts = map (full s) (map (instance (raise n)) (map tree_of ts))

module _ (s : List Binding) (o : Option Arith) (n : ℕ) (ts : List Term) (t u : Term) (long : 2 ≤ length ts) (short : length ts ≤ 2) (first : t ≡ get_or ts 0 t) (second : u ≡ get_or ts 1 u) where
  pub is_assigned : (b : Builtin) (w : Value) (found : FirstAtom) → b ≡ Is → IsValue o (full s (instance (raise n) (tree_of u))) w → AssignsTo w found → IsJudgedAs o b (args_now s n ts) found
  is_assigned b w found is i h = subst (λ (k : Builtin × List Term). IsJudgedAs o k.0 (args_now s n k.1) found) (λ j. (sym is j, sym (two_of ts t u long short first second) j)) (h o (full s (instance (raise n) (tree_of t))) (full s (instance (raise n) (tree_of u))) i)

  pub is_compared : (b : Builtin) (v w : Value) (found : FirstAtom) → (b ≡ Is → ⊥) → IsValue o (full s (instance (raise n) (tree_of t))) v → IsValue o (full s (instance (raise n) (tree_of u))) w → ComparesTo b v w found → IsJudgedAs o b (args_now s n ts) found
  is_compared b v w found is i j h = subst (λ (l : List Term). IsJudgedAs o b (args_now s n l) found) (sym (two_of ts t u long short first second)) (at_values o (full s (instance (raise n) (tree_of t))) (full s (instance (raise n) (tree_of u))) b v w found is i j h)
