-- To believe, for a loop.
-- The derivations of a goal by clauses alone, in the order in which a search meets them.
--
-- As the nodes of a goal, but without steps by built-in atoms: a derivation through one need not lift to a more general
-- atom, which may have no value.
--
-- To believe: `clause_nodes`.
use Rattle.std.specs.Prelude.{ℕ, zero, suc, List, [], flat_map, length}
use Rattle.std.specs.List.{range_with_len}
use Rattle.cti_terms.specs.declared.derivation.Goal.{Goal}
use Rattle.cti_terms.specs.Listing.{Listing}
use Rattle.cti_terms.specs.Nodes.{under}
use Rattle.cti_terms.specs.Resolve.{resolve}

-- the derivations by clauses of at most d steps, but the empty one, in lexicographic order
abbrev pub clause_nodes : Listing → ℕ → Goal → List (List ℕ)
clause_nodes p zero g = []
clause_nodes p (suc d) g = flat_map (λ k. under k (clause_nodes p d) (resolve p g k)) (range_with_len 1 (length p.clauses))
