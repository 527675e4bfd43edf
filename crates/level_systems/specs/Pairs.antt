-- To believe, for the modes by lists of mappings.
-- The pairs of a component: a clause of a member and a call of a member in its body, both counted from 1.
--
-- To believe: `pairs_of`.
use Rattle.std.specs.Prelude.{ℕ, suc, ◌-◌, ◌==◌, if◌then◌else◌, List, [], ◌∷◌, ◌++◌, slice_get}
use Rattle.cti_terms.specs.Listing.{Listing}
use Rattle.cti_terms.specs.declared.atom_list.Atom.{Atom}
use Rattle.cti_terms.specs.declared.clauses.Clause.{Clause}
use Rattle.call_components.specs.Partition.{Partition}
use Rattle.number_tests.specs.Refuting.{atom_or_none, clause_or_none}
use Rattle.termination_model.specs.mappings.ComponentViews.{rank_in}

-- the clause and the call of numbers that count from 1
abbrev pub clause_at : Listing → ℕ → Clause
clause_at p k = clause_or_none (slice_get p.clauses (k - 1))

abbrev pub call_at : Listing → ℕ → ℕ → Atom
call_at p k j = atom_or_none (slice_get (clause_at p k).body (j - 1))

module _ (comps : Partition) (c : ℕ) where
  -- those of the clause k, whose calls count on from j
  abbrev pub calls_from : ℕ → ℕ → List Atom → List (ℕ × ℕ)
  calls_from k j [] = []
  calls_from k j (b ∷ bs) = (if rank_in comps b.pred.0 == c then (k, suc j) ∷ [] else []) ++ calls_from k (suc j) bs

  -- those of clauses, which count on from k
  abbrev pub pairs_from : ℕ → List Clause → List (ℕ × ℕ)
  pairs_from k [] = []
  pairs_from k (x ∷ xs) = (if rank_in comps x.head.pred.0 == c then calls_from (suc k) 0 x.body else []) ++ pairs_from (suc k) xs

-- all of them, in order
abbrev pub pairs_of : Listing → Partition → ℕ → List (ℕ × ℕ)
pairs_of p comps c = pairs_from comps c 0 p.clauses
