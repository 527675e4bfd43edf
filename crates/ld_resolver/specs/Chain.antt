-- Private.
-- The clauses of each predicate, one after the other. Nothing here has to be believed.
use Rattle.std.specs.Prelude.{◌≡◌, ◌≢◌, ℕ, suc, ◌≤◌, ◌<◌, List, length, get_or, slice_get, Some}
use Rattle.std.specs.List.{AllByRecursion}
use Rattle.cti_terms.specs.declared.clauses.Clause.{Clause}
use Rattle.cti_terms.specs.Listing.{Listing, IsClause, numbered}
use Rattle.ld_resolver.specs.declared.first_kind.FirstKind.{FirstKind}
use Rattle.ld_resolver.specs.declared.first_kind.FirstKind.TheVariants.{Any}
use Rattle.ld_resolver.specs.FirstKinds.{HasKind}
use Rattle.ld_resolver.specs.declared.clause_chain.ClauseChain.{ClauseChain}

-- no clause from number k on and before number m has the predicate f
abbrev pub AreOthers : Listing → ℕ → ℕ → ℕ → Type 0
AreOthers p f k m = (j : ℕ) (c : Clause) → k ≤ j → j < m → numbered p.clauses j ≡ Some c → f ≢ c.head.pred.0

-- m is the number of the first clause of the predicate f from number k on, or one past the last clause
pub record IsNext (p : Listing) (f k m : ℕ) : Type 0 where
  pub from : k ≤ m
  pub to_end : m ≤ suc (length p.clauses)
  pub others : AreOthers p f k m
  pub found : (c : Clause) → numbered p.clauses m ≡ Some c → f ≡ c.head.pred.0

-- m is the number of the clause that comes after clause k, of the same predicate
abbrev pub IsAfter : Listing → ℕ → ℕ → Type 0
IsAfter p k m = (c : Clause) → numbered p.clauses k ≡ Some c → IsNext p c.head.pred.0 (suc k) m

-- the clauses after number n are chained
pub record AreChained (p : Listing) (n : ℕ) (first next : List ℕ) : Type 0 where
  pub within : n ≤ length p.clauses
  pub each_pred : length first ≡ length p.preds
  pub each_clause : length next ≡ length p.clauses
  pub firsts : (f : ℕ) → f < length first → IsNext p f (suc n) (get_or first f 0)
  pub nexts : (i : ℕ) → n ≤ i → IsAfter p (suc i) (get_or next i 0)

-- each kind is that of its clause's first argument
pub record AreKinds (p : Listing) (kinds : List FirstKind) : Type 0 where
  pub each_clause : length kinds ≡ length p.clauses
  pub are : (i : ℕ) (c : Clause) → slice_get p.clauses i ≡ Some c → HasKind c.head.args (get_or kinds i Any)

-- the clause of number k is there, and its first argument has this kind
abbrev pub IsKindAt : Listing → ℕ → FirstKind → Type 0
IsKindAt p k kind = (c : Clause) × (numbered p.clauses k ≡ Some c) × HasKind c.head.args kind

-- all clauses are
pub record IsChain (p : Listing) (x : ClauseChain) : Type 0 where
  pub clauses : AllByRecursion (IsClause p.preds) p.clauses
  pub chained : AreChained p 0 x.first.items x.next.items
  pub kinds : AreKinds p x.kinds.items
  pub none : x.none ≡ suc (length p.clauses)
