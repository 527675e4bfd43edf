-- Private.
-- The choices of a search, and what is left to be met from them. Nothing here has to be believed.
use Rattle.std.specs.Prelude.{◌≡◌, ℕ, suc, ◌-◌, ◌≤◌, List, [], ◌∷◌, ◌++◌, map, length, drop, Option, None, Some, option_map}
use Rattle.std.specs.List.{AllByRecursion, range_with_len}
use Rattle.cti_terms.specs.Tree.{Tree}
use Rattle.cti_terms.specs.Spell.{tree_of}
use Rattle.cti_terms.specs.Arithmetic.{Arithmetic, kind_of, passes}
use Rattle.cti_terms.specs.declared.builtins.Builtin.{Builtin}
use Rattle.cti_terms.specs.UnifyFunction.{unify}
use Rattle.cti_terms.specs.declared.atom_list.Atom.{Atom}
use Rattle.cti_terms.specs.declared.derivation.Goal.{Goal}
use Rattle.cti_terms.specs.declared.clauses.Clause.{Clause}
use Rattle.cti_terms.specs.Listing.{Listing, numbered}
use Rattle.cti_terms.specs.Unify.{Binding}
use Rattle.cti_terms.specs.Resolve.{over, raised}
use Rattle.cti_terms.specs.Below.{AtomsBelow}
use Rattle.ld_resolver.specs.declared.choices.Choice.{Choice}
use Rattle.ld_resolver.specs.declared.choices.Start.{Start}
use Rattle.ld_resolver.specs.BuiltinAtoms.{value_equations, IsInteger}
use Rattle.unifier.specs.Store.{made, full}
use Rattle.ld_resolver.specs.Tails.{tail_at}
use Rattle.unifier.specs.Below.{FreeFrom}
use Rattle.ld_resolver.specs.Walk.{Visit, walk_by, walk}

-- the first bindings that were made, m of them
abbrev pub kept : List Binding → ℕ → List Binding
kept s m = drop (length s - m) s

-- the goal of a first atom and a rest, with these bindings and this counter
abbrev pub goal_from : List Binding → ℕ → Atom → List Atom → Goal
goal_from s n a rest = record { atoms = map (over (full s)) (a ∷ rest); fresh = n }

-- the goal of a choice
abbrev pub goal_of : List Binding → List (List Atom) → Choice → Goal
goal_of s rests c = goal_from (kept s c.mark) c.fresh (raised c.base c.atom.now) (tail_at rests c.rest)

-- the clauses that are left to be tried
abbrev pub clauses_left : Listing → Choice → List ℕ
clauses_left p c = range_with_len c.next (suc (length p.clauses) - c.next)

-- what is left to be met from choices, the last one first, by nodes of at most suc n steps
abbrev pub left : Listing → List Atom → ℕ → List Binding → List (List Atom) → List Choice → List Visit
left p q n s rests [] = []
left p q n s rests (c ∷ below) =
    walk_by p q (walk p q (n - c.depth)) (made (kept s c.mark)) c.depth (goal_of s rests c) (clauses_left p c)
    ++ left p q n s rests below

-- the integer that the first argument of a choice's atom has to become, if any
abbrev pub value_of : Choice → Option Tree
value_of c = option_map (λ t. tree_of t.now) c.value

-- the arguments of a choice's atom under the bindings
abbrev pub args_of : List Binding → Choice → List Tree
args_of s c = (over (full s) (raised c.base c.atom.now)).args

-- the first atom of a choice is built in, and succeeds where its equations with the value have a unifier
pub record GoesByItself (ar : Arithmetic) (s : List Binding) (c : Choice) : Type 0 where
  pub built : (b : Builtin) × (kind_of ar c.atom.now.pred.0 ≡ Some b)
  pub passes : passes ar (over (full s) (raised c.base c.atom.now)) ≡ unify (value_equations (value_of c) (args_of s c))
  pub integer : IsInteger (value_of c)

-- a choice of a search with these bindings and these rests
pub record IsChoice (p : Listing) (s : List Binding) (rests : List (List Atom)) (c : Choice) : Type 0 where
  pub mark : c.mark ≤ length s
  pub rest : c.rest ≤ c.rests
  pub counted : c.rests ≤ length rests
  pub to_end : c.next ≤ suc (length p.clauses)
  pub pred : (k : Clause) → numbered p.clauses c.next ≡ Some k → c.atom.now.pred.0 ≡ k.head.pred.0
  pub free : FreeFrom c.fresh (kept s c.mark)
  pub below : AtomsBelow c.fresh (goal_of s rests c).atoms
  pub itself : c.next ≡ 0 → GoesByItself p.arithmetic (kept s c.mark) c

-- each choice has at most m bindings and at most r rests
abbrev pub Within : ℕ → ℕ → List Choice → Type 0
Within m r = AllByRecursion (λ (c : Choice). (c.mark ≤ m) × (c.rests ≤ r))

-- choices, the last one first, each with the bindings and the rests of the ones before it and maybe more
abbrev pub AreChoices : Listing → List Binding → List (List Atom) → List Choice → Type 0
AreChoices p s rests [] = Unit {0}
AreChoices p s rests (c ∷ below) = IsChoice p s rests c × Within c.mark c.rests below × AreChoices p s rests below

-- rests with more rests after them
abbrev pub GrowsTo : List (List Atom) → List (List Atom) → Type 0
GrowsTo before now = (more : List (List Atom)) × (now ≡ before ++ more)

-- the first atom and the rest of a goal that has atoms
abbrev pub IsStart : List Atom → List (List Atom) → Option Start → Type 0
IsStart atoms rests None = atoms ≡ []
IsStart atoms rests (Some t) = (atoms ≡ raised t.base t.atom.now ∷ tail_at rests t.rest) × (t.rest ≤ length rests)
