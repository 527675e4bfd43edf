use Rattle.std.proofs.Common.{◌≡◌, ◌<◌, ◌≤◌, ◌+◌, ◌*◌, ℕ, IsTrue, drop, slice_index_or}
use Rattle.cti_terms.specs.Spell.{tree_of, trees_of}
use Rattle.cti_terms.specs.Tree.{all_nodes, is_below, nodes_of, size, all_sizes}
use Rattle.term_size.specs.Occurrences.{occurrences, all_occurrences}
use Rattle.term_size.specs.Counts.{AreBelow, HasRoom}
use Rattle.term_size.proofs.counting.Counts.+counting.Given as goal

abbrev pub decreases-add : goal.decreases-add
decreases-add l = 2 * nodes_of (tree_of l.t.now)

abbrev pub decreases-add_all : goal.decreases-add_all
decreases-add_all l = 1 + 2 * all_nodes (trees_of l.terms.now)

abbrev pub decreases-add-loop-rest : goal.decreases-add-loop-rest
decreases-add-loop-rest l = nodes_of (tree_of l.rest)

abbrev pub invariant-add-loop-rest : goal.invariant-add-loop-rest
invariant-add-loop-rest l =
    let left = tree_of l.rest in
    record {
      below : IsTrue (is_below 48 left);
      smaller : nodes_of left ≤ nodes_of (tree_of l.t);
      room : HasRoom (nodes_of left) l.self;
      names : l.self.names + size (λ _. 0) left ≡ l.fn.self.names + size (λ _. 0) (tree_of l.t);
      variables : (x : ℕ) → x < 48 → slice_index_or l.self.variables x 0 + occurrences x left ≡ slice_index_or l.fn.self.variables x 0 + occurrences x (tree_of l.t);
    }

abbrev pub invariant-add_all-loop-term : goal.invariant-add_all-loop-term
invariant-add_all-loop-term l =
    let left = trees_of (drop l.term-index l.terms) in
    record {
      below : AreBelow 48 left;
      smaller : all_nodes left ≤ all_nodes (trees_of l.terms);
      room : HasRoom (all_nodes left) l.self;
      names : l.self.names + all_sizes (λ _. 0) left ≡ l.fn.self.names + all_sizes (λ _. 0) (trees_of l.terms);
      variables : (x : ℕ) → x < 48 → slice_index_or l.self.variables x 0 + all_occurrences x left ≡ slice_index_or l.fn.self.variables x 0 + all_occurrences x (trees_of l.terms);
    }
