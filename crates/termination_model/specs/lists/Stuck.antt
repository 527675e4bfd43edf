-- To believe, for the modes by lists of mappings.
-- Lists of mappings that descend, and sets of points that exclude them.
--
-- The levels of a list are compared in lexicographic order: at each call that is reached some mapping falls, which is
-- its place, and none before it rises. A stuck set has points of calls, each with t at least 1, at which the size rows
-- of the atoms before the call hold; and for each coefficient and each offset the sum of the heads' values is at most
-- that of the calls' values. So it is a refutation without directions. Where one stands, no list descends.
--
-- To believe: `ListDescends`, `IsStuck`.
-- Source: lexicographic ranking by linear programs, as in Alias, Darte, Feautrier and Gonnord 2010.
use Rattle.std.specs.Prelude.{◌≡◌, ℕ, ◌≤◌, ◌≤ℤ◌, ℤ, List, map, take, length, slice_get, Some}
use Rattle.std.specs.List.{AllByRecursion}
use Rattle.exact128.specs.Sums.{entry}
use Rattle.cti_terms.specs.Tree.{Tree}
use Rattle.termination_model.specs.claims.Claims.{Mapping}
use Rattle.termination_model.specs.mappings.View.{Member, Call, Rule, system_of, FallsOver}
use Rattle.termination_model.specs.mappings.Refutation.{Pair, gather, head_load, call_load, IsPair, IsRefutation}

module _ (expression : ℕ → Tree → List ℤ) where
  -- at each call of a member the list falls at some place
  abbrev pub ListDescends : List Rule → List Mapping → Type 0
  ListDescends view ls = AllByRecursion (λ (k : Rule). (j : ℕ) (b : Call) (q : ℕ) → slice_get k.body j ≡ Some b → b.place ≡ Member q
      → (i : ℕ) × FallsOver expression k (system_of expression k.vars (take j k.body)) q b.args i ls) view

  -- points of calls, at least one, with positive t, at which the heads' values are together at most the calls'
  pub record IsStuck (view : List Rule) (ps : List Pair) : Type 0 where
    pub some : 1 ≤ length ps
    pub pairs : AllByRecursion (IsPair expression view) ps
    pub times : AllByRecursion (λ (p : Pair). 1 ≤ p.t) ps
    pub columns : (q i : ℕ) → entry (gather q (map (head_load expression) ps)) i ≤ℤ entry (gather q (map (call_load expression) ps)) i

-- where a stuck set stands, no list descends
abbrev pub NoneDescends : Type 0
NoneDescends = (expression : ℕ → Tree → List ℤ) (view : List Rule) (ps : List Pair) (ls : List Mapping)
    → IsStuck expression view ps → ListDescends expression view ls → ⊥

-- a stuck set is a refutation, so no mapping decreases either
abbrev pub StuckSetsRefute : Type 0
StuckSetsRefute = (expression : ℕ → Tree → List ℤ) (view : List Rule) (ps : List Pair)
    → IsStuck expression view ps → IsRefutation expression view ps
