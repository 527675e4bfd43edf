-- Private.
-- The calls of a program as a table: for each predicate those that its clauses call, in order. Nothing here has to be
-- believed.
use Rattle.std.specs.Prelude.{◌≡◌, ℕ, ◌<◌, ◌↔◌, ◌==◌, if◌then◌else◌, List, [], ◌∷◌, ◌++◌, map, length, slice_get, slice_index_or, Some}
use Rattle.std.specs.List.{AllByRecursion}
use Rattle.cti_terms.specs.declared.clauses.Clause.{Clause}
use Rattle.cti_terms.specs.Listing.{Listing}
use Rattle.call_components.specs.Calls.{Calls}
use Rattle.call_components.specs.Numbers.{called_by_atom}

-- the predicates that the clauses of a call, in order
abbrev pub callees : ℕ → List Clause → List ℕ
callees a [] = []
callees a (k ∷ ks) = (if k.head.pred.0 == a then map called_by_atom k.body else []) ++ callees a ks

-- each callee is one of n predicates
abbrev pub AreWithin : ℕ → List (List ℕ) → Type 0
AreWithin n = AllByRecursion (AllByRecursion (λ b. b < n))

-- the element stands somewhere in the list
abbrev pub Has : List ℕ → ℕ → Type 0
Has xs x = (k : ℕ) × (slice_get xs k ≡ Some x)

-- the row of a's calls has b
abbrev pub HasCall : List (List ℕ) → ℕ → ℕ → Type 0
HasCall rows a b = Has (slice_index_or rows a []) b

-- one row for each predicate, which has those that it calls
pub record IsTable (p : Listing) (rows : List (List ℕ)) : Type 0 where
  pub each : length rows ≡ length p.preds
  pub calls : (a b : ℕ) → HasCall rows a b ↔ Calls p a b
