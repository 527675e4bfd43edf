-- Private.
-- Members and positions in order, as the code lists them. Nothing here has to be believed.
use Rattle.std.specs.Prelude.{ℕ, zero, suc, ◌==◌, if◌then◌else◌, List, [], ◌∷◌, ◌++◌}
use Rattle.std.specs.List.{list_any}
use Rattle.cti_terms.specs.declared.clauses.Clause.{Clause}
use Rattle.call_components.specs.Partition.{Partition}
use Rattle.termination_model.specs.mappings.ComponentViews.{rank_in}
use Rattle.termination_model.specs.mappings.OwnCalls.{Position}

-- the members of the heads of clauses, each once, after those that are there
abbrev pub with_member : Partition → ℕ → List ℕ → ℕ → List ℕ
with_member comps c members q =
    if rank_in comps q == c then (if list_any (λ m. m == q) members then members else members ++ q ∷ []) else members

abbrev pub members_by_clauses : Partition → ℕ → List ℕ → List Clause → List ℕ
members_by_clauses comps c members [] = members
members_by_clauses comps c members (k ∷ ks) = members_by_clauses comps c (with_member comps c members k.head.pred.0) ks

-- the arguments of a predicate, from a on
abbrev pub arguments_from : ℕ → ℕ → ℕ → List Position
arguments_from q a zero = []
arguments_from q a (suc n) = (q, a) ∷ arguments_from q (suc a) n
