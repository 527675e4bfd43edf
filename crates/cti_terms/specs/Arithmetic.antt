-- To believe, for a Yes.
-- Values of terms, and what built-in predicates do.
--
-- An integer is its own value, and `+`, `-` and `*` of terms with values have values. Other terms have none. Numbers
-- are whole numbers without bound. An atom of a built-in predicate succeeds where its evaluated arguments have values
-- and the comparison is true; for `is` the first argument has to unify with the value of the second.
--
-- An atom whose evaluated arguments have values is wide where a subterm of one of them has a value that does not fit.
--
-- To believe: all of this file.
use Rattle.std.specs.Prelude.{ℕ, ◌^◌, ◌==◌, ◌&&◌, ◌||◌, ℤ, ◌+ℤ◌, ◌-ℤ◌, ◌*ℤ◌, neg_ℤ, int_lt, nat_lt, unsigned_abs, Bool, true, false, not, is_some, if◌then◌else◌, List, [], ◌∷◌, Option, None, Some, option_and_then}
use Rattle.std.specs.List.{list_all, list_any}
use Rattle.std.specs.Ordering.{int_eq}
use Rattle.cti_terms.specs.Tree.{Tree, Trees, Variable, Integer, Compound, End, More}
use Rattle.cti_terms.specs.Unify.{Binding}
use Rattle.cti_terms.specs.UnifyFunction.{unify}
use Rattle.cti_terms.specs.declared.atom_list.Atom.{Atom}
use Rattle.cti_terms.specs.declared.builtins.Arith.{Arith}
use Rattle.cti_terms.specs.declared.builtins.Builtin.{Builtin}
use Rattle.cti_terms.specs.declared.builtins.Builtin.TheVariants.{Is, Equal, NotEqual, Less, AtMost, Greater, AtLeast}
use Rattle.cti_terms.specs.declared.predicates.PredId.{PredId}

-- ---- values

-- the value of the operation with this name at these numbers
abbrev pub result_of : Arith → ℕ → List ℤ → Option ℤ
result_of o f [] = None
result_of o f (a ∷ []) = if f == o.minus.0 then Some (neg_ℤ a) else None
result_of o f (a ∷ (b ∷ [])) =
    if f == o.plus.0 then Some (a +ℤ b)
    else if f == o.minus.0 then Some (a -ℤ b)
    else if f == o.times.0 then Some (a *ℤ b)
    else None
result_of o f (a ∷ (b ∷ (c ∷ cs))) = None

-- the same where operations may have no names
abbrev pub operation : Option Arith → ℕ → List ℤ → Option ℤ
operation None f ns = None
operation (Some o) f ns = result_of o f ns

-- the value of the first, with those of the others
abbrev pub both : Option ℤ → Option (List ℤ) → Option (List ℤ)
both None ns = None
both (Some n) None = None
both (Some n) (Some ns) = Some (n ∷ ns)

abbrev mutual
  -- the value of a term, if it has one
  pub value : Option Arith → Tree → Option ℤ
  value o (Variable x) = None
  value o (Integer n) = Some n
  value o (Compound f ts) = option_and_then (operation o f) (all_values o ts)

  -- the values of the arguments, if each has one
  pub all_values : Option Arith → Trees → Option (List ℤ)
  all_values o End = Some []
  all_values o (More t ts) = both (value o t) (all_values o ts)

-- whether a number is of absolute value at most 2^127 - 1
abbrev pub fits : ℤ → Bool
fits z = nat_lt (unsigned_abs z) (2 ^ 127)

-- whether there is a value, and it does not fit
abbrev pub is_too_wide : Option ℤ → Bool
is_too_wide None = false
is_too_wide (Some n) = not (fits n)

abbrev mutual
  -- whether some subterm has a value that does not fit
  pub has_wide : Option Arith → Tree → Bool
  has_wide o (Variable x) = false
  has_wide o (Integer n) = not (fits n)
  has_wide o (Compound f ts) = is_too_wide (value o (Compound f ts)) || some_has_wide o ts

  pub some_has_wide : Option Arith → Trees → Bool
  some_has_wide o End = false
  some_has_wide o (More t ts) = has_wide o t || some_has_wide o ts

-- ---- built-in atoms

-- whether a comparison of two values is true; of `is`, which compares nothing, this is never asked
abbrev pub compares : Builtin → ℤ → ℤ → Bool
compares Is a b = true
compares Equal a b = int_eq a b
compares NotEqual a b = not (int_eq a b)
compares Less a b = int_lt a b
compares AtMost a b = not (int_lt b a)
compares Greater a b = int_lt b a
compares AtLeast a b = not (int_lt a b)

-- what a comparison binds where it is true: nothing
abbrev pub tested : Builtin → Option ℤ → Option ℤ → Option (List Binding)
tested b None n = None
tested b (Some m) None = None
tested b (Some m) (Some n) = if compares b m n then Some [] else None

-- the bindings that make a term equal to a value
abbrev pub assigned : Tree → Option ℤ → Option (List Binding)
assigned t None = None
assigned t (Some n) = unify ((t, Integer n) ∷ [])

-- the bindings by which a built-in succeeds at two arguments
abbrev pub succeeds : Option Arith → Builtin → Tree → Tree → Option (List Binding)
succeeds o Is t u = assigned t (value o u)
succeeds o b t u = tested b (value o t) (value o u)

-- the arguments that it evaluates: the second, and but for `is` the first too
abbrev pub evaluated : Builtin → Tree → Tree → List Tree
evaluated Is t u = u ∷ []
evaluated b t u = t ∷ (u ∷ [])

-- whether these have values, and some subterm of them has one that does not fit
abbrev pub is_wide_of : Option Arith → Builtin → Tree → Tree → Bool
is_wide_of o b t u = list_all (λ x. is_some (value o x)) (evaluated b t u) && list_any (has_wide o) (evaluated b t u)

-- f of a list of two; z of any other list
abbrev pub at_two : {X : Type 0} → (Tree → Tree → X) → X → List Tree → X
at_two f z [] = z
at_two f z (t ∷ []) = z
at_two f z (t ∷ (u ∷ [])) = f t u
at_two f z (t ∷ (u ∷ (v ∷ vs))) = z

-- ---- a program's built-in predicates

-- the names of operations, and the built-in predicates, each with its kind
pub record Arithmetic : Type 0 where
  pub names : Option Arith
  pub builtins : List (PredId × Builtin)

-- no names and no built-in predicates
abbrev pub no_arithmetic : Arithmetic
no_arithmetic = record { names = None; builtins = [] }

-- the kind of a predicate among these
abbrev pub kind_among : List (PredId × Builtin) → ℕ → Option Builtin
kind_among [] q = None
kind_among (b ∷ bs) q = if b.0.0 == q then Some b.1 else kind_among bs q

-- the kind of a predicate, if it is built in
abbrev pub kind_of : Arithmetic → ℕ → Option Builtin
kind_of ar q = kind_among ar.builtins q

-- the bindings by which a predicate of this kind, if it is built in, succeeds at arguments
abbrev pub passes_as : Option Arith → Option Builtin → List Tree → Option (List Binding)
passes_as o None ts = None
passes_as o (Some b) ts = at_two (succeeds o b) None ts

-- the bindings by which a built-in atom succeeds
abbrev pub passes : Arithmetic → Atom → Option (List Binding)
passes ar a = passes_as ar.names (kind_of ar a.pred.0) a.args

-- whether a predicate of this kind, if it is built in, is wide at arguments
abbrev pub is_wide_as : Option Arith → Option Builtin → List Tree → Bool
is_wide_as o None ts = false
is_wide_as o (Some b) ts = at_two (is_wide_of o b) false ts

-- whether atoms begin with a wide one
abbrev pub begins_wide : Arithmetic → List Atom → Bool
begins_wide ar [] = false
begins_wide ar (a ∷ rest) = is_wide_as ar.names (kind_of ar a.pred.0) a.args
