-- Private.
-- Clauses that cannot match a goal, by the kinds of its first argument and of theirs. Nothing here has to be believed.
use Rattle.std.specs.Prelude.{◌≡◌, ℕ, suc, ◌≤◌, ◌<◌, List, ◌∷◌, map, length, None, Some}
use Rattle.cti_terms.specs.Tree.{Tree}
use Rattle.cti_terms.specs.declared.atom_list.Atom.{Atom}
use Rattle.cti_terms.specs.declared.clauses.Clause.{Clause}
use Rattle.cti_terms.specs.Listing.{Listing, numbered}
use Rattle.cti_terms.specs.Unify.{Binding}
use Rattle.cti_terms.specs.Resolve.{resolve_by, resolve}
use Rattle.unifier.specs.declared.raised_term.Shape.{Shape}
use Rattle.unifier.specs.Shapes.{shape_full}
use Rattle.unifier.specs.Store.{full}
use Rattle.ld_resolver.specs.Choices.{goal_from}
use Rattle.ld_resolver.specs.declared.first_kind.FirstKind.{FirstKind}
use Rattle.ld_resolver.specs.FirstKinds.{HasKind}

-- under the bindings an atom has a first argument of this kind
pub record HasFirst (s : List Binding) (a : Atom) (h : Shape) : Type 0 where
  pub base : ℕ
  pub others : List Tree
  pub are : map (full s) a.args ≡ shape_full s base h ∷ others

-- a clause whose variables are raised by n resolves no goal with a first argument of this kind
abbrev pub IsRuledOut : ℕ → Shape → Clause → Type 0
IsRuledOut n h c = (s : List Binding) (a : Atom) (rest : List Atom) → HasFirst s a h → resolve_by (goal_from s n a rest).atoms n c ≡ None

-- nor does any clause whose first argument has that kind
abbrev pub RulesOut : Shape → FirstKind → Type 0
RulesOut h kind = (n : ℕ) (c : Clause) → HasKind c.head.args kind → IsRuledOut n h c

-- the clause of a number is there, and is ruled out
abbrev pub IsSkipped : Listing → ℕ → Shape → ℕ → Type 0
IsSkipped p n h k = (c : Clause) × (numbered p.clauses k ≡ Some c) × IsRuledOut n h c

-- m is the number of a clause of the atom's predicate, or one past the last clause, and no clause from number k on and
-- before number m resolves a goal that begins with the atom
pub record IsNextMatch (p : Listing) (s : List Binding) (a : Atom) (n k m : ℕ) : Type 0 where
  pub from : k ≤ m
  pub to_end : m ≤ suc (length p.clauses)
  pub skipped : (rest : List Atom) (j : ℕ) → k ≤ j → j < m → resolve p (goal_from s n a rest) j ≡ None
  pub found : (c : Clause) → numbered p.clauses m ≡ Some c → a.pred.0 ≡ c.head.pred.0
