-- Private.
-- To believe, for modes over stated facts.
-- Derivations of a program that calls open predicates: it has no clauses of them, and a world answers their atoms.
--
-- A world gives finitely many answers to each atom. They may depend on the whole derivation so far, as input and output
-- do, and on the goal's counter, from which an answer's new variables are counted. An answer is a list of bindings, and
-- a counter for what comes after it. Each finite substitution is such a list, since bindings are made in turn and may
-- go over new variables.
--
-- A derivation is given by numbers, as one of clauses is. Where a goal begins with an open atom, the number is that of
-- an answer, counted from 1. The atom goes away, and the answer's bindings are applied to the other atoms.
--
-- To believe: all of this file. Where no predicate is open, these are the derivations of `Derive.antt`.
-- Source: LD-derivations over an oracle, as derivations with built-in predicates are in ISO/IEC 13211-1:1995.
use Rattle.std.specs.Prelude.{◌≡◌, ℕ, ◌<◌, Bool, false, if◌then◌else◌, List, [], ◌∷◌, ◌++◌, length, Option, None, Some, option_map, option_and_then}
use Rattle.cti_terms.specs.declared.atom_list.Atom.{Atom}
use Rattle.cti_terms.specs.declared.derivation.Goal.{Goal}
use Rattle.cti_terms.specs.Listing.{Listing, numbered}
use Rattle.cti_terms.specs.Unify.{Binding}
use Rattle.cti_terms.specs.Resolve.{passed, resolve}

-- the bindings of an answer, and the counter after it
abbrev pub Answer : Type 0
Answer = List Binding × ℕ

-- the answers to an atom: after these numbers, and from this counter on
abbrev pub World : Type 0
World = List ℕ → ℕ → Atom → List Answer

-- whether atoms begin with one of an open predicate
abbrev pub begins_open : (ℕ → Bool) → List Atom → Bool
begins_open is_open [] = false
begins_open is_open (a ∷ rest) = is_open a.pred.0

-- the bindings of an answer, and the goal that it leaves
abbrev pub by_answer : List Atom → Answer → List Binding × Goal
by_answer rest r = passed rest r.1 r.0

-- the same for the answer of this number to the first atom, if there is one
abbrev pub resolve_open : World → List ℕ → List Atom → ℕ → ℕ → Option (List Binding × Goal)
resolve_open w past [] n k = None
resolve_open w past (a ∷ rest) n k = option_map (by_answer rest) (numbered (w past n a) k)

-- bindings that are made first, and what is reached after them
abbrev pub with_bindings : List Binding → List Binding × Goal → List Binding × Goal
with_bindings bs s = (bs ++ s.0, s.1)

module _ (p : Listing) (is_open : ℕ → Bool) (w : World) where
  -- the bindings, and the goal that is left, if the number resolves a goal after these numbers
  abbrev pub resolve_in : List ℕ → Goal → ℕ → Option (List Binding × Goal)
  resolve_in past g k = if begins_open is_open g.atoms then resolve_open w past g.atoms g.fresh k else resolve p g k

  -- each number of the list resolves the goal that the ones before it have left
  abbrev pub IsDerivationAfter : List ℕ → Goal → List ℕ → Type 0
  IsDerivationAfter past g [] = Unit {0}
  IsDerivationAfter past g (k ∷ ks) = (bs : List Binding) × (h : Goal) × (resolve_in past g k ≡ Some (bs, h)) × IsDerivationAfter (past ++ k ∷ []) h ks

  -- the goal that a derivation leaves, where the numbers are one
  abbrev pub left_in : List ℕ → Goal → List ℕ → Option Goal
  left_in past g [] = Some g
  left_in past g (k ∷ ks) = option_and_then (λ r. left_in (past ++ k ∷ []) r.1 ks) (resolve_in past g k)

  -- the bindings of a derivation, in order, and the goal that it leaves
  abbrev pub reached_in : List ℕ → Goal → List ℕ → Option (List Binding × Goal)
  reached_in past g [] = Some ([], g)
  reached_in past g (k ∷ ks) = option_and_then (λ r. option_map (with_bindings r.0) (reached_in (past ++ k ∷ []) r.1 ks)) (resolve_in past g k)

  -- some number is greater than the length of every derivation from the goal after these numbers
  abbrev pub BoundedAfter : List ℕ → Goal → Type 0
  BoundedAfter past g = (n : ℕ) × ((ks : List ℕ) → IsDerivationAfter past g ks → length ks < n)

  -- some number is greater than the length of every derivation in the world from the goal
  abbrev pub BoundedIn : Goal → Type 0
  BoundedIn g = BoundedAfter [] g
