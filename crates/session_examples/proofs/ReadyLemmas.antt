-- Sessions that are ready for more clauses.
use Rattle.std.proofs.Common.{◌≡◌, ◌+◌, ◌≤◌, ℕ, zero, suc, List, [], ◌∷◌, arith}
use Rattle.std.specs.List.{remove}
use Rattle.std.proofs.lemmas.List.Sums.{sum_by-cons}
use Rattle.edit_texts.specs.Snapshot.{nodes_in}
use Rattle.prolog_terms.specs.Clauses.{Clause, nodes}

nodes_first : (c : Clause) (cs : List Clause) → nodes_in (c ∷ cs) ≡ nodes c.term + nodes_in cs
nodes_first c cs = sum_by-cons (λ (d : Clause). nodes d.term) c cs

-- where one is taken out there are no more nodes
pub fewer_nodes : (cs : List Clause) (i : ℕ) → nodes_in (remove cs i) ≤ nodes_in cs
fewer_nodes [] zero = omega arith
fewer_nodes [] (suc i) = omega arith
fewer_nodes (c ∷ cs) zero = omega (arith, nodes_first c cs)
fewer_nodes (c ∷ cs) (suc i) = omega (arith, nodes_first c cs, nodes_first c (remove cs i), fewer_nodes cs i)
